-- The part of rows that rise in which a key may stand.
use Rattle.std.proofs.Common.{◌≡◌, ℕ, ℤ, zero, suc, ◌+◌, ◌-◌, ◌*◌, ◌/◌, ◌<◌, ◌≤◌, ◌≢◌, ◌⊎◌, inl, inr, List, [], ◌∷◌, length, get_or, take, drop, None, option_map, min, ap, refl, sym, ◌∙◌, arith, length-drop, length-take, get_or-drop, get_or-take}
use Rattle.std.proofs.lemmas.Bool.{cases_lt}
use Rattle.std.proofs.lemmas.Bool.Decides.{nat_tests}
use Rattle.std.proofs.lemmas.List.{get_or_read}
use Rattle.aat_lookup.specs.Keys.{IsRising, at_key}
use Rattle.aat_kerning_tables.specs.Pairs.{key_of_pair, kerning_of}
use Rattle.aat_kerning_tables.specs.inside.Lefts.{LeftsWithin}
use Rattle.aat_lookup.specs.inside.Walks.{AreBelow, AreNotBelow, Parts}
use Rattle.aat_lookup.specs.facts.Rising.{keys_rise}
use Rattle.aat_lookup.specs.facts.Search.{at_key_none}

module _ {X : Type 0} (key : X → ℕ) where
  at_key_drop :
      (xs : List X) (a k : ℕ) → ((i : ℕ) (d : X) → i < a → i < length xs → key (get_or xs i d) ≢ k)
      → at_key key (drop a xs) k ≡ at_key key xs k
  at_key_drop [] zero k other = refl
  at_key_drop [] (suc a) k other = refl
  at_key_drop (x ∷ xs) zero k other = refl
  at_key_drop (x ∷ xs) (suc a) k other =
      let later = at_key_drop xs a k (λ i d lt within. other (suc i) d (omega arith) (omega arith)) in
      grind (arith, nat_tests, other 0 x (omega arith) (omega arith), later)

  at_key_take :
      (xs : List X) (n k : ℕ) → ((i : ℕ) (d : X) → n ≤ i → i < length xs → key (get_or xs i d) ≢ k)
      → at_key key (take n xs) k ≡ at_key key xs k
  at_key_take [] zero k other = refl
  at_key_take [] (suc n) k other = refl
  at_key_take (x ∷ xs) zero k other = sym (at_key_none key (x ∷ xs) k (λ i d lt. other i d (omega arith) lt))
  at_key_take (x ∷ xs) (suc n) k other =
      let later = at_key_take xs n k (λ i d le lt. other (suc i) d (omega arith) (omega arith)) in
      rw later refl

  module _ (xs : List X) where
    behind : (b a k high i : ℕ) (d : X) → AreNotBelow key xs b high → k < high → b ≤ a + i → a + i < length xs → key (get_or (drop a xs) i d) ≢ k
    behind b a k high i d above lt le within = λ e.
        omega (arith, e, above (a + i) d le within, ap key (get_or-drop a xs i d))

    -- a key between two others is found between their places
    pub found_between :
        (a b k low high : ℕ) → AreBelow key xs a low → low ≤ k → AreNotBelow key xs b high → k < high
        → at_key key (take (b - a) (drop a xs)) k ≡ at_key key xs k
    found_between a b k low high before le above lt =
        at_key_take (drop a xs) (b - a) k (λ i d past within. behind b a k high i d above lt (omega arith) (omega (arith, length-drop a xs)))
        ∙ at_key_drop xs a k (λ i d front within. λ e. omega (arith, e, before i d front within))

    -- a part of rows that rise does
    pub part_rises : (a n : ℕ) → IsRising key xs → IsRising key (take n (drop a xs))
    part_rises a n rising i j d lt within =
        let short : j < min n (length (drop a xs)) = omega (arith, length-take n (drop a xs)) in
        let in_part : a + j < length xs = omega (arith, length-drop a xs) in
        let low : get_or (take n (drop a xs)) i d ≡ get_or xs (a + i) d = get_or-take n (drop a xs) i d (omega arith) ∙ get_or-drop a xs i d in
        let high : get_or (take n (drop a xs)) j d ≡ get_or xs (a + j) d = get_or-take n (drop a xs) j d (omega arith) ∙ get_or-drop a xs j d in
        omega (arith, rising (a + i) (a + j) d (omega arith) in_part, ap key low, ap key high)

    in_order : (a b low high : ℕ) → X → Parts key xs a low → Parts key xs b high → low ≤ high → (b < a) ⊎ (a ≤ b) → a ≤ b
    in_order a b low high d first last le (inl falls) =
        absurd (omega (arith, first.1 b d falls (omega (arith, first.0)), last.2 b d (omega arith) (omega (arith, first.0))))
    in_order a b low high d first last le (inr rises) = rises

    -- places that part rows at keys that rise do not fall
    pub places_rise : (a b low high : ℕ) → X → Parts key xs a low → Parts key xs b high → low ≤ high → a ≤ b
    places_rise a b low high d first last le = in_order a b low high d first last le (cases_lt b a)

module _ (pairs : List (ℕ × ℕ × ℤ)) (left right : ℕ) (small : right < 65536) where
  -- the pairs of a left glyph stand between its start and the next
  pub of_left :
      (a b low high : ℕ) → AreBelow key_of_pair pairs a low → low ≤ left * 65536 → AreNotBelow key_of_pair pairs b high
      → left * 65536 + 65536 ≤ high → kerning_of (take (b - a) (drop a pairs)) left right ≡ kerning_of pairs left right
  of_left a b low high before le above lt =
      ap (option_map (λ (pair : ℕ × ℕ × ℤ). pair.2)) (found_between key_of_pair pairs a b (left * 65536 + right) low high before (omega arith) above (omega arith))

  -- a left glyph outside the span has no pairs
  pub of_none :
      (lowest count : ℕ) → LeftsWithin lowest count pairs → (left < lowest) ⊎ (lowest + count ≤ left)
      → None ≡ kerning_of pairs left right
  of_none lowest count within (inl low) =
      sym (ap (option_map (λ (pair : ℕ × ℕ × ℤ). pair.2)) (at_key_none key_of_pair pairs (left * 65536 + right) (λ i d lt. λ e. omega (arith, e, (within i d lt).0))))
  of_none lowest count within (inr high) =
      sym (ap (option_map (λ (pair : ℕ × ℕ × ℤ). pair.2)) (at_key_none key_of_pair pairs (left * 65536 + right) (λ i d lt. λ e. omega (arith, e, (within i d lt).1))))

-- the left glyphs of rising pairs are from that of the first to that of the last
pub lefts_hold :
    (pairs : List (ℕ × ℕ × ℤ)) (a b : ℕ × ℕ × ℤ) (low_key high_key : ℕ) → IsRising key_of_pair pairs → 0 < length pairs
    → a ≡ get_or pairs 0 a → b ≡ get_or pairs (length pairs - 1) b → low_key ≡ key_of_pair a → high_key ≡ key_of_pair b
    → (low_key / 65536 ≤ high_key / 65536) × LeftsWithin (low_key / 65536) (high_key / 65536 - low_key / 65536 + 1) pairs
lefts_hold pairs a b low_key high_key rising some low_read high_read low_is high_is =
    let ends = keys_rise key_of_pair pairs rising 0 (length pairs - 1) a (omega arith) (omega arith) in
    let high_end : high_key ≡ key_of_pair (get_or pairs (length pairs - 1) a) = high_is ∙ ap key_of_pair (get_or_read pairs (length pairs - 1) b (omega arith) high_read a) in
    let low_end : low_key ≡ key_of_pair (get_or pairs 0 a) = low_is ∙ ap key_of_pair low_read in
    let order : low_key ≤ high_key = omega (arith, ends, high_end, low_end) in
    let halves : low_key / 65536 ≤ high_key / 65536 = omega arith in (
      halves,
      λ i d lt.
          let low = keys_rise key_of_pair pairs rising 0 i d (omega arith) lt in
          let high = keys_rise key_of_pair pairs rising i (length pairs - 1) d (omega arith) (omega arith) in
          let at_low : low_key ≡ key_of_pair (get_or pairs 0 d) = low_is ∙ ap key_of_pair (get_or_read pairs 0 a some low_read d) in
          let at_high : high_key ≡ key_of_pair (get_or pairs (length pairs - 1) d) = high_is ∙ ap key_of_pair (get_or_read pairs (length pairs - 1) b (omega arith) high_read d) in
          (omega (arith, low, at_low), omega (arith, high, at_high, halves)),
    )
