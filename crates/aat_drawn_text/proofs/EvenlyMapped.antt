-- Whether a map gives the chains of a font one range each.
use Rattle.std.proofs.Common.{◌≡◌, ◌∙◌, ap, sym, refl, ◌||◌, Bool, true, false, List, [], ◌∷◌, get_or}
use Rattle.std.specs.List.{list_all}
use Rattle.std.specs.Prelude.{Option, Some, None}
use Rattle.aat_machine_tables.specs.declared.morx.Chain.{Chain}
use Rattle.aat_map.specs.Live.{is_uncut}
use Rattle.aat_map.specs.Map.{lists_for}
use Rattle.aat_map.specs.SwitchedChains.{SwitchedChain, by_requests, switched_by}
use Rattle.aat_map.specs.declared.feature.feature_range_t.{feature_range_t}
use Rattle.aat_run.specs.Switches.{always_on}
use Rattle.aat_run.specs.declared.ranges.range_flags_t.{range_flags_t}
use Rattle.aat_drawn_text.specs.inside.TextLine.{gives_one_range}

-- what is read past the chains
none : SwitchedChain
none = record { switch = always_on; subtables = [] }

-- the first chain has one range where the map gives it one
first_range : (c : Chain) (chains : List Chain) (m : Option (List (List range_flags_t)))
    → (get_or (switched_by (c ∷ chains) (lists_for m (c ∷ chains))) 0 none).switch.has_one_range ≡ gives_one_range m
first_range c chains None = refl
first_range c chains (Some []) = refl
first_range c chains (Some (l ∷ m)) = refl

-- so whether it does is whether no range is cut, where there is a chain
pub evenly_mapped : (requests : List feature_range_t) (chains : List Chain) (apart : Chain → Bool) (m : Option (List (List range_flags_t)))
    → switched_by chains (lists_for m chains) ≡ by_requests requests chains
    → (gives_one_range m || list_all apart chains) ≡ (is_uncut requests || list_all apart chains)
evenly_mapped requests [] apart m compiled = by_two (gives_one_range m) (is_uncut requests)
  where
    by_two : (t u : Bool) → (t || true) ≡ (u || true)
    by_two true true = refl
    by_two true false = refl
    by_two false true = refl
    by_two false false = refl
evenly_mapped requests (c ∷ chains) apart m compiled =
    ap (λ (t : Bool). t || list_all apart (c ∷ chains))
    (sym (first_range c chains m) ∙ ap (λ (ks : List SwitchedChain). (get_or ks 0 none).switch.has_one_range) compiled)
