-- Arrays of the values of glyphs that follow one another answer as the pairs of these.
use Rattle.std.proofs.Common.{◌≡◌, ℕ, ◌+◌, ◌-◌, ◌<◌, ◌≤◌, ◌==◌, ◌&&◌, ◌⊎◌, inl, inr, Bool, List, Option, length, get_or, Some, None, unwrap_or, true, false, not, cond, ◌∙◌, ap, sym, refl, arith, zero-add}
use Rattle.std.proofs.lemmas.Bool.{cases_lt}
use Rattle.std.proofs.lemmas.Bool.Decides.{nat_tests}
use Rattle.std.proofs.lemmas.List.{get_or_default, get_or_past}
use Rattle.std.proofs.lemmas.List.FromFn.{length-map-range_with_len, get_or-map-range_with_len}
use Rattle.aat_lookup.specs.Keys.{first, value_in, IsRising}
use Rattle.aat_lookup.specs.Listings.{pairs_from}
use Rattle.aat_lookup.specs.Moves.{changed_to, moved_over, place_over, value_by, AreMoved}
use Rattle.aat_lookup.specs.inside.Dense.{AnswersAsClasses, PairsWithin}
use Rattle.aat_lookup.proofs.ClassAnswers.{classes_answer}
use Rattle.aat_lookup.proofs.DenseAnswers.{none_above, none_below}
use Rattle.aat_lookup.proofs.FullSpans.{value_here}

-- a glyph that becomes itself without a mark has no value, and one with a mark has what it becomes
stays_itself : (glyph : ℕ) → changed_to glyph glyph false ≡ None
stays_itself glyph = grind (arith, nat_tests)

becomes_marked : (b : Bool) (now : ℕ) → cond (b && not true) None (Some now) ≡ Some now
becomes_marked true now = refl
becomes_marked false now = refl

module _ (lowest : ℕ) (values : List ℕ) where
  abbrev pairs : List (ℕ × ℕ)
  pairs = pairs_from lowest values

  abbrev pair_at : ℕ → ℕ × ℕ
  pair_at k = (lowest + k, get_or values k 0)

  long : length pairs ≡ length values
  long = length-map-range_with_len pair_at 0 (length values)

  at : (k : ℕ) (d : ℕ × ℕ) → k < length values → get_or pairs k d ≡ pair_at k
  at k d lt = get_or-map-range_with_len pair_at 0 (length values) k k d lt (zero-add k)

  rise : IsRising first pairs
  rise i j d lt within =
      let at_i : first (get_or pairs i d) ≡ lowest + i = ap first (at i d (omega (arith, long))) in
      let at_j : first (get_or pairs j d) ≡ lowest + j = ap first (at j d (omega (arith, long))) in
      omega (arith, at_i, at_j)

  within : PairsWithin lowest (length values) pairs
  within i d lt =
      let at_i : first (get_or pairs i d) ≡ lowest + i = ap first (at i d (omega (arith, long))) in
      (omega (arith, at_i), omega (arith, at_i, long))

  value_there : (k : ℕ) → k < length values → value_in pairs (lowest + k) ≡ Some (get_or values k 0)
  value_there k lt =
      value_here pairs rise lowest (length values) within (sym long) k (omega (arith, long))
      ∙ ap (λ (p : ℕ × ℕ). Some p.1) (at k (0, 0) lt)

  module _ (small : lowest + length values ≤ 65536) (glyph : ℕ) (id : glyph < 65536) where
    -- a glyph whose place is behind the cells has no value
    none_by : (glyph < lowest) ⊎ (lowest ≤ glyph) → length values ≤ place_over lowest glyph → None ≡ value_in pairs glyph
    none_by (inl low) past = none_below lowest (length values) pairs glyph within low
    none_by (inr high) past = none_above lowest (length values) pairs glyph within (omega arith)

    pub no_cell : length values ≤ place_over lowest glyph → None ≡ value_in pairs glyph
    no_cell past = none_by (cases_lt glyph lowest) past

    some_by : (glyph < lowest) ⊎ (lowest ≤ glyph) → place_over lowest glyph < length values
        → Some (get_or values (place_over lowest glyph) 0) ≡ value_in pairs glyph
    some_by (inl low) inside = absurd (omega arith)
    some_by (inr high) inside =
        let place : place_over lowest glyph ≡ glyph - lowest = omega arith in
        let same : lowest + place_over lowest glyph ≡ glyph = omega arith in
        sym (value_there (place_over lowest glyph) inside) ∙ ap (value_in pairs) same

    -- another one has what stands in its cell
    pub in_cell : place_over lowest glyph < length values
        → Some (get_or values (place_over lowest glyph) 0) ≡ value_in pairs glyph
    in_cell inside = some_by (cases_lt glyph lowest) inside

    module _ (kept : List Bool) (as_long : length kept ≡ length values)
        (marked : (k : ℕ) → k < length values → get_or kept k false ≡ true) where
      value_of : (place_over lowest glyph < length values) ⊎ (length values ≤ place_over lowest glyph)
          → value_by lowest values kept glyph ≡ value_in pairs glyph
      value_of (inl inside) =
          ap (λ b. changed_to glyph (moved_over lowest values glyph) b) (marked (place_over lowest glyph) inside)
          ∙ becomes_marked (moved_over lowest values glyph == glyph) (moved_over lowest values glyph)
          ∙ ap Some (get_or_default values (place_over lowest glyph) glyph 0 inside)
          ∙ in_cell inside
      value_of (inr past) =
          ap (λ b. changed_to glyph (moved_over lowest values glyph) b) (get_or_past kept (place_over lowest glyph) false (omega (arith, as_long)))
          ∙ ap (λ now. changed_to glyph now false) (get_or_past values (place_over lowest glyph) glyph past)
          ∙ stays_itself glyph
          ∙ no_cell past

      -- cells with a mark for each tell the value of each glyph
      pub cell_value : value_by lowest values kept glyph ≡ value_in pairs glyph
      cell_value = value_of (cases_lt (place_over lowest glyph) (length values))

  -- an array of the values with a mark for each
  pub moves_in_cells :
      (small : lowest + length values ≤ 65536) (kept : List Bool) → length kept ≡ length values
      → ((k : ℕ) → k < length values → get_or kept k false ≡ true)
      → 0 < length values → AreMoved lowest values kept pairs
  moves_in_cells small kept as_long marked some =
      (some, omega (arith, as_long), λ glyph id. cell_value small glyph id kept as_long marked)

  -- an array of the values as classes
  pub classes_in_cells : (missing : ℕ) → lowest + length values ≤ 65536 → AnswersAsClasses missing lowest values pairs
  classes_in_cells missing small =
      classes_answer missing lowest (length values) pairs values refl small
      (λ k lt. sym (ap (λ (v : Option ℕ). unwrap_or v missing) (value_there k lt))) within
