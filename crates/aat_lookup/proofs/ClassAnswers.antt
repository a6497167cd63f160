-- Arrays of classes answer as the pairs do.
use Rattle.std.proofs.Common.{◌≡◌, ℕ, ◌+◌, ◌-◌, ◌<◌, ◌≤◌, ◌⊎◌, inl, inr, List, None, length, get_or, unwrap_or, ◌∙◌, ap, arith}
use Rattle.std.proofs.lemmas.Bool.{cases_lt}
use Rattle.std.proofs.lemmas.List.{get_or_default, get_or_past}
use Rattle.aat_lookup.specs.Keys.{value_in}
use Rattle.aat_lookup.specs.Moves.{place_over}
use Rattle.aat_lookup.specs.inside.Dense.{AnswersAsClasses, PairsWithin}
use Rattle.aat_lookup.proofs.DenseAnswers.{none_above, none_below}

module _ (missing lowest count : ℕ) (pairs : List (ℕ × ℕ)) (cells : List ℕ) (long : length cells ≡ count)
    (small : lowest + count ≤ 65536)
    (classes : (k : ℕ) → k < count → get_or cells k 0 ≡ unwrap_or (value_in pairs (lowest + k)) missing)
    (within : PairsWithin lowest count pairs) where
  outside : (glyph : ℕ) → count ≤ place_over lowest glyph → None ≡ value_in pairs glyph
      → get_or cells (place_over lowest glyph) missing ≡ unwrap_or (value_in pairs glyph) missing
  outside glyph past none =
      get_or_past cells (place_over lowest glyph) missing (omega (arith, long)) ∙ ap (λ v. unwrap_or v missing) none

  inside_of : (glyph : ℕ) → glyph < 65536 → lowest ≤ glyph → glyph - lowest < count
      → get_or cells (place_over lowest glyph) missing ≡ unwrap_or (value_in pairs glyph) missing
  inside_of glyph id high inside =
      let place : place_over lowest glyph ≡ glyph - lowest = omega arith in
      let same : lowest + (glyph - lowest) ≡ glyph = omega arith in
      ap (λ k. get_or cells k missing) place
      ∙ get_or_default cells (glyph - lowest) missing 0 (omega (arith, long))
      ∙ classes (glyph - lowest) inside
      ∙ ap (λ g. unwrap_or (value_in pairs g) missing) same

  by_place :
      (glyph : ℕ) → glyph < 65536 → (glyph < lowest) ⊎ (lowest ≤ glyph) → (glyph - lowest < count) ⊎ (count ≤ glyph - lowest)
      → get_or cells (place_over lowest glyph) missing ≡ unwrap_or (value_in pairs glyph) missing
  by_place glyph id (inl low) place = outside glyph (omega arith) (none_below lowest count pairs glyph within low)
  by_place glyph id (inr high) (inl inside) = inside_of glyph id high inside
  by_place glyph id (inr high) (inr past) = outside glyph (omega arith) (none_above lowest count pairs glyph within (omega arith))

  -- an array with the class of each glyph of the pairs' span
  pub classes_answer : AnswersAsClasses missing lowest cells pairs
  classes_answer glyph id = by_place glyph id (cases_lt glyph lowest) (cases_lt (glyph - lowest) count)
