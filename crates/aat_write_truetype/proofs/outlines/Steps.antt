-- Steps that a loop appends, one after the other.
use Rattle.std.proofs.Common.{◌≡◌, ◌∙◌, ap, refl, sym, ℕ, suc, ◌+◌, ◌<◌, Bool, true, false, List, [], ◌∷◌, ◌++◌, length, get_or, drop, drop-cons, append_assoc, arith}
use Rattle.std.specs.Prelude.{◌&&◌, ◌-ℤ◌}
use Rattle.std.specs.Int.{to_be_bytes, w16}
use Rattle.std.proofs.lemmas.List.Concat.{flat_map-append}
use Rattle.aat_read_outlines.specs.declared.outline.OutlinePoint.{OutlinePoint}
use Rattle.aat_write_machine.specs.Words.{word_bytes}
use Rattle.aat_write_truetype.specs.outlines.GlyphData.{are_short_steps, is_short, is_short_step, word_of, x_words, y_words}

both : (b c : Bool) → (b && c) ≡ true → (b ≡ true) × (c ≡ true)
both true c is = (refl, is)
both false c is = cc

module _ (points : List OutlinePoint) (i : ℕ) (d from : OutlinePoint) (below : i < length points) where
  abbrev point : OutlinePoint
  point = get_or points i d

  now : drop i points ≡ point ∷ drop (i + 1) points
  now = let place : suc i ≡ i + 1 = omega arith in drop-cons points i d below ∙ ap (λ k. point ∷ drop k points) place

  module _ (short : are_short_steps from (drop i points) ≡ true) where
    parts : (is_short_step from point ≡ true) × (are_short_steps point (drop (i + 1) points) ≡ true)
    parts = both (is_short_step from point) (are_short_steps point (drop (i + 1) points)) (sym (ap (are_short_steps from) now) ∙ short)

    -- the step to the next point is short, and so are those behind it
    pub x_short : is_short (point.x -ℤ from.x) ≡ true
    x_short = (both (is_short (point.x -ℤ from.x)) (is_short (point.y -ℤ from.y)) parts.0).0

    pub y_short : is_short (point.y -ℤ from.y) ≡ true
    y_short = (both (is_short (point.x -ℤ from.x)) (is_short (point.y -ℤ from.y)) parts.0).1

    pub short_behind : are_short_steps point (drop (i + 1) points) ≡ true
    short_behind = parts.1

  one_word : (here new : List ℕ) (word : ℕ) (words all : List ℕ)
      → new ≡ here ++ word_bytes (word ∷ [])
      → here ++ word_bytes (word ∷ words) ≡ all
      → new ++ word_bytes words ≡ all
  one_word here new word words all appended was =
      ap (λ (xs : List ℕ). xs ++ word_bytes words) appended
      ∙ append_assoc here (word_bytes (word ∷ [])) (word_bytes words)
      ∙ ap (λ (xs : List ℕ). here ++ xs) (sym (flat_map-append (to_be_bytes w16) (word ∷ []) words))
      ∙ was

  -- the step along x to the next point, and that along y
  pub x_pushed :
      (here new all : List ℕ) (word : ℕ)
      → word ≡ word_of (point.x -ℤ from.x)
      → new ≡ here ++ word_bytes (word ∷ [])
      → here ++ word_bytes (x_words from (drop i points)) ≡ all
      → new ++ word_bytes (x_words point (drop (i + 1) points)) ≡ all
  x_pushed here new all word is appended was =
      one_word here new word (x_words point (drop (i + 1) points)) all appended
      (ap (λ w. here ++ word_bytes (w ∷ x_words point (drop (i + 1) points))) is
      ∙ sym (ap (λ ps. here ++ word_bytes (x_words from ps)) now)
      ∙ was)

  pub y_pushed :
      (here new all : List ℕ) (word : ℕ)
      → word ≡ word_of (point.y -ℤ from.y)
      → new ≡ here ++ word_bytes (word ∷ [])
      → here ++ word_bytes (y_words from (drop i points)) ≡ all
      → new ++ word_bytes (y_words point (drop (i + 1) points)) ≡ all
  y_pushed here new all word is appended was =
      one_word here new word (y_words point (drop (i + 1) points)) all appended
      (ap (λ w. here ++ word_bytes (w ∷ y_words point (drop (i + 1) points))) is
      ∙ sym (ap (λ ps. here ++ word_bytes (y_words from ps)) now)
      ∙ was)
