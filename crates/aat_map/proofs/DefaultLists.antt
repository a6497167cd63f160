-- Without a map each chain has its default flags, as it has where nothing is requested.
use Rattle.std.proofs.Common.{◌≡◌, ◌∙◌, ap, sym, refl, ℕ, ◌<◌, Bool, true, false, ◌&&◌, ◌||◌, ◌==◌, cond, List, [], ◌∷◌, map, fold, length, get_or, arith, All, Option, Some, None, bit_and, bit_or}
use Rattle.std.proofs.lemmas.List.{get_or-map}
use Rattle.aat_machine_tables.specs.declared.morx.Chain.{Chain}
use Rattle.aat_machine_tables.specs.declared.morx.ChainFeature.{ChainFeature}
use Rattle.aat_run.specs.declared.ranges.range_flags_t.{range_flags_t}
use Rattle.aat_run.specs.Ranges.{last_cluster, range}
use Rattle.aat_map.specs.ChainFlags.{after_feature, is_asked}
use Rattle.aat_map.specs.Live.{flags_at_cluster, requested_at}
use Rattle.aat_map.specs.Map.{default_list, list_at, list_or, lists_for}
use Rattle.aat_map.specs.Spans.{spans}
use Rattle.aat_map.specs.SwitchedChains.{switched_by, by_requests}
use Rattle.aat_map.specs.inside.CompiledSpans.{compiled_lists, span_range, EndsWithinText}
use Rattle.aat_map.proofs.CompiledLemmas.{compiled_switches}
use Rattle.aat_map.proofs.OverAll.{one_start}

-- nothing is asked for
none_of : (a b : Bool) → (false || (a && b && false)) ≡ false
none_of true true = refl
none_of true false = refl
none_of false b = refl

not_asked : (x : ℕ) (f : ChainFeature) → is_asked (requested_at x []) f ≡ false
not_asked x f = none_of (f.kind == 3) (f.setting == 3)

-- so the flags of a chain are its default ones
default_flags : (x flags : ℕ) (fs : List ChainFeature) → flags_at_cluster [] flags fs x ≡ flags
default_flags x flags [] = refl
default_flags x flags (f ∷ fs) =
    ap (λ b. fold (after_feature (requested_at x [])) (cond b (bit_or (bit_and flags f.disable_flags) f.enable_flags) flags) fs) (not_asked x f)
    ∙ default_flags x flags fs

default_lists : (chains : List Chain) → map default_list chains ≡ compiled_lists [] chains (spans (0 ∷ []))
default_lists [] = refl
default_lists (c ∷ cs) =
    ap (λ flags. (range 0 last_cluster flags ∷ []) ∷ map default_list cs) (sym (default_flags 0 c.default_flags c.features.items))
    ∙ ap (λ ls. map (span_range [] c) (spans (0 ∷ [])) ∷ ls) (default_lists cs)

none_past : All EndsWithinText []
none_past k d lt = absurd (omega (arith, lt))

-- chains are switched by their default flags as by no request
pub switched_by_default : (chains : List Chain) → switched_by chains (lists_for None chains) ≡ by_requests [] chains
switched_by_default chains =
    ap (switched_by chains) (default_lists chains)
    ∙ compiled_switches [] (0 ∷ []) (one_start [] [] refl refl) none_past chains

-- a chain's list by a map, or its default one
pub list_for :
    (m : Option (List (List range_flags_t))) (chains : List Chain) (i : ℕ) (c : Chain) (ranges : List range_flags_t)
    → i < length chains → c ≡ get_or chains i c → ranges ≡ list_or m i (default_list c)
    → ranges ≡ list_at (lists_for m chains) i
list_for None chains i c ranges below read is =
    is ∙ ap default_list read ∙ sym (get_or-map default_list chains i c [] below)
list_for (Some m) chains i c ranges below read is = is
