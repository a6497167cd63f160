-- Words of glyphs that get more bits.
use Rattle.std.proofs.Common.{◌≡◌, ℕ, ◌*◌, ◌%◌, ◌<◌, ◌≤◌, ◌^◌, ◌⊎◌, inl, inr, List, length, get_or, set, bit_or, arith, w64}
use Rattle.std.specs.Int.{bit_at}
use Rattle.std.proofs.lemmas.Bool.{cases_eq}
use Rattle.std.proofs.lemmas.List.{get_or-set_same, get_or-set_other}
use Rattle.std.proofs.lemmas.Nat.Bits.{bit_at_or, bit_at_set_same, bit_at-lt}
use Rattle.aat_font.specs.Wakers.{word_of, word_place}
use Rattle.aat_font.specs.inside.MarkedWords.{SameWords}
use Rattle.aat_font.specs.declared.wakers.GlyphWords.{GlyphWords}

-- no bit is lost where others are added on either side
pub or_wider : (a b c d k : ℕ) → bit_at a k ≤ bit_at c k → bit_at b k ≤ bit_at d k → bit_at (bit_or a b) k ≤ bit_at (bit_or c d) k
or_wider a b c d k left right = omega (arith, bit_at_or a b k, bit_at_or c d k)

-- a word that gets a bit loses none
pub wider : (a m k : ℕ) → bit_at a k ≤ bit_at (bit_or a m) k
wider a m k = omega (arith, bit_at_or a m k)

module _ (words : List ℕ) (place m : ℕ) (within : place < length words) where
  at_place : (i k : ℕ) → (i ≡ place) ⊎ ((i ≡ place) → ⊥) → bit_at (get_or words i 0) k ≤ bit_at (get_or (set words place (bit_or (get_or words place 0) m)) i 0) k
  at_place i k (inl same) = rw same (rw (get_or-set_same words place (bit_or (get_or words place 0) m) 0 within) (wider (get_or words place 0) m k))
  at_place i k (inr other) = rw (get_or-set_other words place i (bit_or (get_or words place 0) m) 0 other) (omega arith)

  -- a word of a list that gets a bit
  pub words_wider : (i k : ℕ) → bit_at (get_or words i 0) k ≤ bit_at (get_or (set words place (bit_or (get_or words place 0) m)) i 0) k
  words_wider i k = at_place i k (cases_eq i place)

-- a glyph's word gets a mask, and no glyph loses a bit
pub mark_keeps :
    (old w : GlyphWords) (place was m : ℕ) → place < length w.words.items → was ≡ get_or w.words.items place 0 → SameWords old w
    → (g k : ℕ) → bit_at (word_of old g) k ≤ bit_at (bit_or w.everywhere (get_or (set w.words.items place (bit_or was m)) (word_place g) 0)) k
mark_keeps old w place was m within is same g k =
    rw is (rw (← same g) (or_wider w.everywhere (get_or w.words.items (word_place g) 0) w.everywhere _ k (omega arith) (words_wider w.words.items place m within (word_place g) k)))

-- the glyph whose word it is has the bit
pub mark_sets :
    (w : GlyphWords) (place was bit : ℕ) → bit < 64 → place < length w.words.items
    → bit_at (bit_or w.everywhere (get_or (set w.words.items place (bit_or was (1 * 2 ^ bit % 18446744073709551616))) place 0)) bit ≡ 1
mark_sets w place was bit small within =
    rw (get_or-set_same w.words.items place (bit_or was (1 * 2 ^ bit % 18446744073709551616)) 0 within)
    (omega (arith, bit_at_or w.everywhere (bit_or was (1 * 2 ^ bit % 18446744073709551616)) bit, bit_at_set_same w64 was bit small, bit_at-lt w.everywhere bit))
