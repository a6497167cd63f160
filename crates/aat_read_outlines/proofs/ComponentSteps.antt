-- Components that a loop reads, one after the other.
use Rattle.std.proofs.Common.{◌≡◌, ◌∙◌, ap, refl, sym, ℕ, suc, ◌+◌, ◌-◌, ◌<◌, Bool, true, false, cond, List, [], ◌∷◌, ◌++◌, Result, Ok, Err, append_assoc, arith}
use Rattle.aat_bytes.specs.Faults.{after}
use Rattle.aat_bytes.specs.declared.error.Fault.{Fault}
use Rattle.aat_read_outlines.specs.Components.{component_at, component_size, components_from, flags_at}
use Rattle.aat_read_outlines.specs.Flags.{has}
use Rattle.aat_read_outlines.specs.Glyphs.{GlyphBytes}
use Rattle.aat_read_outlines.specs.declared.components.Component.{Component}
use Rattle.aat_read_outlines.specs.declared.components.TheConstants.{HAS_MORE}

-- a list behind another one
abbrev pub behind : {X : Type 0} → List X → Result (List X) Fault → Result (List X) Fault
behind items r = after r (λ rest. Ok (items ++ rest))

pub none_behind : {X : Type 0} (r : Result (List X) Fault) → behind [] r ≡ r
none_behind (Ok xs) = refl
none_behind (Err fault) = refl

one_behind :
    {X : Type 0} (items : List X) (x : X) (r : Result (List X) Fault)
    → behind items (after r (λ xs. Ok (x ∷ xs))) ≡ behind (items ++ x ∷ []) r
one_behind items x (Ok xs) = ap Ok (sym (append_assoc items (x ∷ []) xs))
one_behind items x (Err fault) = refl

-- what a loop still has to read behind the components it has
abbrev pub still : GlyphBytes → List Component → ℕ → ℕ → Result (List Component) Fault
still glyph items place limit = behind items (components_from glyph place limit)

module _ (glyph : GlyphBytes) (items : List Component) (place limit i : ℕ) (below : i < limit)
    (all : Result (List Component) Fault) (was : still glyph items place (limit - i) ≡ all) where
  abbrev next : ℕ → Result (List Component) Fault
  next flags =
      cond (has flags HAS_MORE)
      (after (components_from glyph (place + component_size flags) (limit - (i + 1))) (λ rest. Ok (component_at glyph.bytes place flags ∷ rest)))
      (Ok (component_at glyph.bytes place flags ∷ []))

  left : behind items (after (flags_at glyph place) next) ≡ all
  left = let more : limit - i ≡ suc (limit - (i + 1)) = omega arith in sym (ap (still glyph items place) more) ∙ was

  -- the component at the place is not there
  pub still_missing : (fault : Fault) → flags_at glyph place ≡ Err fault → all ≡ Err fault
  still_missing fault missing = sym left ∙ ap (λ r. behind items (after r next)) missing

  module _ (flags : ℕ) (component : Component) (new : List Component) (there : flags_at glyph place ≡ Ok flags)
      (is : component ≡ component_at glyph.bytes place flags) (pushed : new ≡ items ++ component ∷ []) where
    now : behind items (next flags) ≡ all
    now = sym (ap (λ r. behind items (after r next)) there) ∙ left

    fresh : items ++ component_at glyph.bytes place flags ∷ [] ≡ new
    fresh = sym (pushed ∙ ap (λ c. items ++ c ∷ []) is)

    -- it is the last one
    pub still_last : has flags HAS_MORE ≡ false → all ≡ Ok new
    still_last last =
        let at : Bool → Result (List Component) Fault = λ b. behind items (cond b (after (components_from glyph (place + component_size flags) (limit - (i + 1))) (λ rest. Ok (component_at glyph.bytes place flags ∷ rest))) (Ok (component_at glyph.bytes place flags ∷ []))) in
        sym now ∙ ap at last ∙ ap Ok fresh

    -- there are more
    pub still_more :
        (size : ℕ)
        → size ≡ component_size flags
        → has flags HAS_MORE ≡ true
        → still glyph new (place + size) (limit - (i + 1)) ≡ all
    still_more size sized more =
        let at : Bool → Result (List Component) Fault = λ b. behind items (cond b (after (components_from glyph (place + component_size flags) (limit - (i + 1))) (λ rest. Ok (component_at glyph.bytes place flags ∷ rest))) (Ok (component_at glyph.bytes place flags ∷ []))) in
        ap (λ n. still glyph new (place + n) (limit - (i + 1))) sized
        ∙ ap (λ xs. still glyph xs (place + component_size flags) (limit - (i + 1))) (sym fresh)
        ∙ sym (one_behind items (component_at glyph.bytes place flags) (components_from glyph (place + component_size flags) (limit - (i + 1))))
        ∙ sym (ap at more)
        ∙ now
