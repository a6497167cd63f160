-- Rising pairs whose glyphs follow one another: each stands at the place that its glyph has in their span.
use Rattle.std.proofs.Common.{◌≡◌, ℕ, zero, suc, ◌+◌, ◌-◌, ◌<◌, ◌≤◌, ◌==◌, ◌⊎◌, inl, inr, Bool, List, Option, length, get_or, take, drop, Some, option_map, false, ◌∙◌, ap, sym, arith}
use Rattle.std.proofs.lemmas.Bool.{cases_lt}
use Rattle.std.proofs.lemmas.List.{get_or_default, get_or_past, get_or-take, length-take-le}
use Rattle.aat_lookup.specs.Keys.{first, value_in, IsRising}
use Rattle.aat_lookup.specs.facts.Rising.{keys_rise}
use Rattle.aat_lookup.specs.facts.Search.{at_key_some}
use Rattle.aat_lookup.specs.inside.Dense.{is_own, keeps_one, PairsWithin}
use Rattle.aat_lookup.proofs.DenseAnswers.{none_above}
use Rattle.aat_lookup.proofs.MovesWritten.{own_before}

module _ (pairs : List (ℕ × ℕ)) (rising : IsRising first pairs) (lowest count : ℕ) (within : PairsWithin lowest count pairs)
    (full : count ≡ length pairs) where
  -- the glyph of a pair that stands so many places later is as much higher
  steps : (n i j : ℕ) → i + n ≡ j → j < length pairs → first (get_or pairs i (0, 0)) + n ≤ first (get_or pairs j (0, 0))
  steps zero i j is lt = omega (arith, keys_rise first pairs rising i j (0, 0) (omega (arith, is)) lt)
  steps (suc n) i j is lt =
      let before = steps n i (j - 1) (omega (arith, is)) (omega (arith, is, lt)) in
      omega (arith, before, rising (j - 1) j (0, 0) (omega (arith, is)) lt)

  glyph_here : (k : ℕ) → k < length pairs → first (get_or pairs k (0, 0)) ≡ lowest + k
  glyph_here k lt =
      let low = steps k 0 k (omega arith) lt in
      let high = steps (length pairs - 1 - k) k (length pairs - 1) (omega (arith, lt)) (omega (arith, lt)) in
      let bottom = (within 0 (0, 0) (omega arith)).0 in
      let top = (within (length pairs - 1) (0, 0) (omega arith)).1 in
      omega (arith, low, high, bottom, top, full)

  -- the value of a glyph is that of the pair at its place
  pub value_here : (k : ℕ) → k < length pairs → value_in pairs (lowest + k) ≡ Some (get_or pairs k (0, 0)).1
  value_here k lt =
      ap (option_map (λ (p : ℕ × ℕ). p.1)) (at_key_some first pairs (lowest + k) k (0, 0) lt (glyph_here k lt) (λ j below. λ e. omega (arith, e, glyph_here j (omega arith))))

module _ (pairs : List (ℕ × ℕ)) (rising : IsRising first pairs) (lowest count own : ℕ) (within : PairsWithin lowest count pairs)
    (few : own ≤ length pairs) (full : first (get_or pairs (own - 1) (0, 0)) - lowest + 1 ≡ own)
    (kept : List Bool) (long : length kept ≡ length (take own pairs))
    (marks : (k : ℕ) → k < length (take own pairs) → get_or kept k false ≡ ((get_or (take own pairs) k (0, 0)).1 == (get_or (take own pairs) k (0, 0)).0)) where
  abbrev front : List (ℕ × ℕ)
  front = take own pairs

  front_long : length front ≡ own
  front_long = length-take-le own pairs few

  front_at : (i : ℕ) (d : ℕ × ℕ) → i < own → get_or front i d ≡ get_or pairs i d
  front_at i d lt = get_or-take own pairs i d lt

  front_rising : IsRising first front
  front_rising i j d lt below =
      let at_i = ap first (front_at i d (omega (arith, front_long))) in
      let at_j = ap first (front_at j d (omega (arith, front_long))) in
      omega (arith, at_i, at_j, rising i j d lt (omega (arith, front_long)))

  front_within : PairsWithin lowest own front
  front_within i d lt =
      let at_i = ap first (front_at i d (omega (arith, front_long))) in
      let low = (within i d (omega (arith, front_long))).0 in
      let rise = keys_rise first pairs rising i (own - 1) d (omega (arith, front_long)) (omega (arith, front_long)) in
      let last = ap first (front_at (own - 1) d (omega (arith, front_long))) in
      let last_at = ap first (front_at (own - 1) (0, 0) (omega (arith, front_long))) in
      let same = ap first (get_or_default front (own - 1) d (0, 0) (omega (arith, front_long))) in
      (omega (arith, at_i, low), omega (arith, at_i, low, rise, last, last_at, same, full))

  mark_inside : (k : ℕ) → k < own → get_or kept k false ≡ is_own (value_in front (lowest + k)) (lowest + k)
  mark_inside k lt =
      let x = get_or front k (0, 0) in
      let here : k < length front = omega (arith, front_long) in
      let glyph : first x ≡ lowest + k = glyph_here front front_rising lowest own front_within (sym front_long) k here in
      let value : value_in front (lowest + k) ≡ Some x.1 = value_here front front_rising lowest own front_within (sym front_long) k here in
      marks k here ∙ ap (λ (g : ℕ). x.1 == g) glyph ∙ sym (ap (λ (v : Option ℕ). is_own v (lowest + k)) value)

  mark_past : (k : ℕ) → own ≤ k → get_or kept k false ≡ is_own (value_in front (lowest + k)) (lowest + k)
  mark_past k past =
      get_or_past kept k false (omega (arith, long, front_long))
      ∙ ap (λ (v : Option ℕ). is_own v (lowest + k)) (none_above lowest own front (lowest + k) front_within (omega arith))

  by_place : (k : ℕ) → (k < own) ⊎ (own ≤ k) → get_or kept k false ≡ is_own (value_in front (lowest + k)) (lowest + k)
  by_place k (inl lt) = mark_inside k lt
  by_place k (inr past) = mark_past k past

  -- marks of the pairs up to the last one that has its glyph as value tell it of each glyph
  pub marks_here : keeps_one (drop own pairs) ≡ false → (k : ℕ) → get_or kept k false ≡ is_own (value_in pairs (lowest + k)) (lowest + k)
  marks_here others k = by_place k (cases_lt k own) ∙ own_before pairs own (lowest + k) others
