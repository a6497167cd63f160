-- What the bits of words say of the subtables.
use Rattle.std.proofs.Common.{◌≡◌, ℕ, suc, ◌<◌, ◌⊎◌, inl, inr, List, [], ◌∷◌, length, get_or, Some, None, Option, is_none, Bool, true, false, ap, refl, subst, ◌∙◌, arith}
use Rattle.std.specs.Int.{bit_at}
use Rattle.std.proofs.lemmas.Bool.{cases_eq}
use Rattle.std.proofs.lemmas.Bool.Decides.{nat_tests}
use Rattle.std.proofs.lemmas.Option.{none-some}
use Rattle.aat_lookup.specs.Keys.{value_in}
use Rattle.aat_font.specs.Wakers.{word_of}
use Rattle.aat_font.specs.declared.wakers.GlyphWords.{GlyphWords}

-- the place of a pair that a look-up finds
pub place_of : (pairs : List (ℕ × ℕ)) (g v : ℕ) → value_in pairs g ≡ Some v → (i : ℕ) × (i < length pairs) × (get_or pairs i (0, 0) ≡ (g, v))
place_of [] g v found = absurd (none-some v found)
place_of (p ∷ pairs) g v found = by_test (place_of pairs g v) (cases_eq p.0 g)
  where
    by_test : (value_in pairs g ≡ Some v → (i : ℕ) × (i < length pairs) × (get_or pairs i (0, 0) ≡ (g, v))) → (p.0 ≡ g) ⊎ (p.0 ≡ g → ⊥) → (i : ℕ) × (i < length (p ∷ pairs)) × (get_or (p ∷ pairs) i (0, 0) ≡ (g, v))
    by_test deeper (inl same) = (0, omega arith, grind (arith, nat_tests, found, same))
    by_test deeper (inr other) =
        let later = deeper (grind (arith, nat_tests, found, other)) in
        (suc later.0, omega (arith, later.1), later.2)

module _ (pairs : List (ℕ × ℕ)) (w : GlyphWords) (bit : ℕ) where
  -- the bit is set of the glyph that a look-up finds
  set_where_found :
      ((i : ℕ) → i < length pairs → bit_at (word_of w (get_or pairs i (0, 0)).0) bit ≡ 1)
      → (g v : ℕ) → value_in pairs g ≡ Some v → bit_at (word_of w g) bit ≡ 1
  set_where_found marked g v found =
      let at = place_of pairs g v found in
      subst (λ (p : ℕ × ℕ). bit_at (word_of w p.0) bit ≡ 1) at.2 (marked at.0 at.1)

  -- where each glyph of pairs has a bit, one without it has no value
  pub clear_values :
      ((i : ℕ) → i < length pairs → bit_at (word_of w (get_or pairs i (0, 0)).0) bit ≡ 1)
      → (g : ℕ) → bit_at (word_of w g) bit ≡ 0 → is_none (value_in pairs g) ≡ true
  clear_values marked g clear = by_value (value_in pairs g) refl
    where
      by_value : (o : Option ℕ) → value_in pairs g ≡ o → is_none o ≡ true
      by_value None e = refl
      by_value (Some v) e = absurd (omega (arith, clear, set_where_found marked g v e))

  -- where each glyph of pairs that fails a test has a bit, one without it passes
  pub clear_classes :
      (test : ℕ → Bool)
      → ((i : ℕ) → i < length pairs → test (get_or pairs i (0, 0)).1 ≡ false → bit_at (word_of w (get_or pairs i (0, 0)).0) bit ≡ 1)
      → (g class : ℕ) → bit_at (word_of w g) bit ≡ 0 → value_in pairs g ≡ Some class → test class ≡ true
  clear_classes test marked g class clear found = by_test (test class) refl
    where
      at : (i : ℕ) × (i < length pairs) × (get_or pairs i (0, 0) ≡ (g, class))
      at = place_of pairs g class found

      by_test : (b : Bool) → test class ≡ b → b ≡ true
      by_test true e = refl
      by_test false e =
          let fails : test (get_or pairs at.0 (0, 0)).1 ≡ false = ap (λ (p : ℕ × ℕ). test p.1) at.2 ∙ e in
          let is_set : bit_at (word_of w g) bit ≡ 1 = subst (λ (p : ℕ × ℕ). bit_at (word_of w p.0) bit ≡ 1) at.2 (marked at.0 at.1 fails) in
          absurd (omega (arith, clear, is_set))
