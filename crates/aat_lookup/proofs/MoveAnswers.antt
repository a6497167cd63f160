-- Arrays of what glyphs become answer as the pairs do.
use Rattle.std.proofs.Common.{◌≡◌, ℕ, ◌+◌, ◌-◌, ◌<◌, ◌≤◌, ◌%◌, ◌==◌, ◌&&◌, ◌⊎◌, inl, inr, Bool, List, [], ◌∷◌, length, get_or, Some, None, Option, unwrap_or, true, false, not, cond, ◌∙◌, ap, refl, arith}
use Rattle.std.proofs.lemmas.Bool.{cases_lt}
use Rattle.std.proofs.lemmas.Bool.Decides.{nat_tests}
use Rattle.std.proofs.lemmas.List.{get_or_default, get_or_past}
use Rattle.aat_lookup.specs.Keys.{value_in}
use Rattle.aat_lookup.specs.Moves.{changed_to, kept_over, moved_over, value_by, AreMoved}
use Rattle.aat_lookup.specs.inside.Dense.{is_own, keeps_one, PairsWithin}
use Rattle.aat_lookup.proofs.DenseAnswers.{none_above, none_below}

-- where no pair has its glyph as value, no glyph is its own value
pub none_own : (pairs : List (ℕ × ℕ)) (glyph : ℕ) → keeps_one pairs ≡ false → is_own (value_in pairs glyph) glyph ≡ false
none_own [] glyph none = refl
none_own (p ∷ ps) glyph none = grind (arith, nat_tests, none_own ps glyph)

own_or_other : (glyph now : ℕ) (b : Bool) → cond (b && not b) None (Some now) ≡ Some now
own_or_other glyph now true = refl
own_or_other glyph now false = refl

-- what a glyph becomes, and whether that is its value, tell its value
changed_back : (glyph : ℕ) (value : Option ℕ) → changed_to glyph (unwrap_or value glyph) (is_own value glyph) ≡ value
changed_back glyph None = grind (arith, nat_tests)
changed_back glyph (Some now) = own_or_other glyph now (now == glyph)

module _ (lowest count : ℕ) (pairs : List (ℕ × ℕ)) (cells : List ℕ) (kept : List Bool) (long : length cells ≡ count)
    (few : length kept ≤ count) (small : lowest + count ≤ 65536)
    (values : (k : ℕ) → k < count → get_or cells k 0 ≡ unwrap_or (value_in pairs (lowest + k)) (lowest + k))
    (marks : (k : ℕ) → k < count → get_or kept k false ≡ is_own (value_in pairs (lowest + k)) (lowest + k))
    (within : PairsWithin lowest count pairs) where
  by_value : (glyph : ℕ) → moved_over lowest cells glyph ≡ unwrap_or (value_in pairs glyph) glyph
      → kept_over lowest kept glyph ≡ is_own (value_in pairs glyph) glyph
      → value_by lowest cells kept glyph ≡ value_in pairs glyph
  by_value glyph moved mark =
      ap (λ now. changed_to glyph now (kept_over lowest kept glyph)) moved
      ∙ ap (changed_to glyph (unwrap_or (value_in pairs glyph) glyph)) mark
      ∙ changed_back glyph (value_in pairs glyph)

  stays : (glyph : ℕ) → count ≤ (glyph + (65536 - lowest)) % 65536 → None ≡ value_in pairs glyph
      → value_by lowest cells kept glyph ≡ value_in pairs glyph
  stays glyph past none =
      let place = (glyph + (65536 - lowest)) % 65536 in
      by_value glyph (get_or_past cells place glyph (omega (arith, long)) ∙ ap (λ v. unwrap_or v glyph) none)
      (get_or_past kept place false (omega (arith, few)) ∙ ap (λ v. is_own v glyph) none)

  becomes : (glyph : ℕ) → glyph < 65536 → lowest ≤ glyph → glyph - lowest < count
      → value_by lowest cells kept glyph ≡ value_in pairs glyph
  becomes glyph id high inside =
      let place : (glyph + (65536 - lowest)) % 65536 ≡ glyph - lowest = omega arith in
      let same : lowest + (glyph - lowest) ≡ glyph = omega arith in
      by_value glyph
      (ap (λ k. get_or cells k glyph) place
      ∙ get_or_default cells (glyph - lowest) glyph 0 (omega (arith, long))
      ∙ values (glyph - lowest) inside
      ∙ ap (λ g. unwrap_or (value_in pairs g) g) same)
      (ap (λ k. get_or kept k false) place
      ∙ marks (glyph - lowest) inside
      ∙ ap (λ g. is_own (value_in pairs g) g) same)

  by_place :
      (glyph : ℕ) → glyph < 65536 → (glyph < lowest) ⊎ (lowest ≤ glyph) → (glyph - lowest < count) ⊎ (count ≤ glyph - lowest)
      → value_by lowest cells kept glyph ≡ value_in pairs glyph
  by_place glyph id (inl low) place = stays glyph (omega arith) (none_below lowest count pairs glyph within low)
  by_place glyph id (inr high) (inl inside) = becomes glyph id high inside
  by_place glyph id (inr high) (inr past) = stays glyph (omega arith) (none_above lowest count pairs glyph within (omega arith))

  -- an array with the value of each glyph of the pairs' span, or the glyph itself, and marks of those that have themselves
  pub moves_answer : 0 < count → AreMoved lowest cells kept pairs
  moves_answer some = (
    omega (arith, long),
    omega (arith, long, few),
    λ glyph id. by_place glyph id (cases_lt glyph lowest) (cases_lt (glyph - lowest) count),
  )
