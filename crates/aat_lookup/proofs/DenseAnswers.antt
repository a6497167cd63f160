-- The span of rising pairs, beside which no glyph has a value.
use Rattle.std.proofs.Common.{◌≡◌, ℕ, ◌+◌, ◌-◌, ◌<◌, ◌≤◌, List, length, get_or, None, option_map, ap, sym, arith}
use Rattle.std.proofs.lemmas.List.{get_or_read}
use Rattle.aat_lookup.specs.Keys.{first, value_in, IsRising}
use Rattle.aat_lookup.specs.inside.Dense.{PairsWithin}
use Rattle.aat_lookup.specs.facts.Rising.{keys_rise}
use Rattle.aat_lookup.specs.facts.Search.{at_key_none}

module _ (lowest count : ℕ) (pairs : List (ℕ × ℕ)) where
  pub none_below : (glyph : ℕ) → PairsWithin lowest count pairs → glyph < lowest → None ≡ value_in pairs glyph
  none_below glyph within low =
      sym (ap (option_map (λ (p : ℕ × ℕ). p.1)) (at_key_none first pairs glyph (λ i d lt. λ e. omega (arith, e, (within i d lt).0))))

  pub none_above : (glyph : ℕ) → PairsWithin lowest count pairs → lowest + count ≤ glyph → None ≡ value_in pairs glyph
  none_above glyph within high =
      sym (ap (option_map (λ (p : ℕ × ℕ). p.1)) (at_key_none first pairs glyph (λ i d lt. λ e. omega (arith, e, (within i d lt).1))))

-- the span of rising pairs holds each of them
pub span_holds :
    (pairs : List (ℕ × ℕ)) (a b : ℕ × ℕ) → IsRising first pairs → 0 < length pairs
    → a ≡ get_or pairs 0 a → b ≡ get_or pairs (length pairs - 1) b
    → (a.0 ≤ b.0) × PairsWithin a.0 (b.0 - a.0 + 1) pairs
span_holds pairs a b rising some low_read high_read =
    let ends = keys_rise first pairs rising 0 (length pairs - 1) a (omega arith) (omega arith) in
    let high_end : b.0 ≡ first (get_or pairs (length pairs - 1) a) = ap first (get_or_read pairs (length pairs - 1) b (omega arith) high_read a) in
    let low_end : a.0 ≡ first (get_or pairs 0 a) = ap first low_read in (
      omega (arith, ends),
      λ i d lt.
          let low = keys_rise first pairs rising 0 i d (omega arith) lt in
          let high = keys_rise first pairs rising i (length pairs - 1) d (omega arith) (omega arith) in
          let at_low : a.0 ≡ first (get_or pairs 0 d) = ap first (get_or_read pairs 0 a some low_read d) in
          let at_high : b.0 ≡ first (get_or pairs (length pairs - 1) d) = ap first (get_or_read pairs (length pairs - 1) b (omega arith) high_read d) in
          (omega (arith, low), omega (arith, low, high)),
    )
