-- Parts of a line are tracked as the whole is.
use Rattle.std.proofs.Common.{◌≡◌, ◌∙◌, ap, arith, cond, refl, ℕ, List, [], ◌∷◌, ◌++◌, Bool, true, false, fold, length, not, Option, Some, None}
use Rattle.std.specs.Prelude.{ℤ, ◌==◌}
use Rattle.std.specs.Option.{option_or}
use Rattle.std.proofs.lemmas.Bool.Decides.{Decides-eqb}
use Rattle.aat_glyph.specs.declared.glyph.Direction.{Direction}
use Rattle.aat_glyph.specs.declared.glyph.GlyphPosition.{GlyphPosition}
use Rattle.aat_glyph.specs.placement.TrackedLines.{begins, first_drawn, tracked_behind, widened}
use Rattle.aat_glyph.specs.placement.TrackingLaws.{PartsAreTrackedApart}

-- the cluster of the last glyph that is drawn, behind one of a cluster
abbrev carried : Option ℕ → List (Option ℕ) → Option ℕ
carried last cs = fold (λ before c. option_or c before) last cs

module _ (d : Direction) (v : ℤ) where
  -- a line goes on behind its front
  goes_on :
      (last : Option ℕ) (cs ds : List (Option ℕ)) (qs rs : List GlyphPosition) → length cs ≡ length qs
      → tracked_behind last d v (cs ++ ds) (qs ++ rs) ≡ tracked_behind last d v cs qs ++ tracked_behind (carried last cs) d v ds rs
  goes_on last [] ds [] rs long = refl
  goes_on last [] ds (q ∷ qs) rs long = absurd (omega (arith, long))
  goes_on last (c ∷ cs) ds [] rs long = absurd (omega (arith, long))
  goes_on last (c ∷ cs) ds (q ∷ qs) rs long =
      ap (λ zs. cond (begins last c) (widened d v q) q ∷ zs) (goes_on (option_or c last) cs ds qs rs (omega (arith, long)))

  -- a glyph of another cluster begins it
  begins_other : (l c : ℕ) → (c ≡ l → ⊥) → not (c == l) ≡ true
  begins_other l c other = by (c == l) refl
    where
      by : (t : Bool) → (c == l) ≡ t → not t ≡ true
      by true is = absurd (other ((Decides-eqb c l).0 is))
      by false is = refl

  -- behind a glyph of another cluster a line is tracked as by itself
  afresh :
      (last : Option ℕ) (ds : List (Option ℕ)) (rs : List GlyphPosition)
      → ((c : ℕ) → last ≡ Some c → first_drawn ds ≡ Some c → ⊥)
      → tracked_behind last d v ds rs ≡ tracked_behind None d v ds rs
  afresh last [] rs apart = refl
  afresh last (c ∷ ds) [] apart = refl
  afresh last (None ∷ ds) (r ∷ rs) apart = ap (λ zs. r ∷ zs) (afresh last ds rs apart)
  afresh None (Some c ∷ ds) (r ∷ rs) apart = refl
  afresh (Some l) (Some c ∷ ds) (r ∷ rs) apart =
      ap (λ (t : Bool). cond t (widened d v r) r ∷ tracked_behind (Some c) d v ds rs)
      (begins_other l c (λ e. apart l refl (ap Some e)))

pub parts_are_tracked_apart : PartsAreTrackedApart
parts_are_tracked_apart d v cs ds qs rs long apart =
    goes_on d v None cs ds qs rs long
    ∙ ap (λ zs. tracked_behind None d v cs qs ++ zs) (afresh d v (carried None cs) ds rs apart)
