-- What a glyph of a text says of its character is read of its glyph on the line.
use Rattle.std.proofs.Common.{◌≡◌, ◌∙◌, sym, ap, refl, ℕ, ◌+◌, ◌-◌, ◌*◌, ◌/◌, ◌%◌, ◌<◌, ◌≤◌, ◌==◌, Bool, true, false, not, cond, nat_lt, arith, bit_and}
use Rattle.std.proofs.lemmas.Nat.{and_le_r, and_mod, div-mul-add, mod-mul-add}
use Rattle.std.proofs.lemmas.Bool.{le-ltb}
use Rattle.std.proofs.Math.Nat.{mod-eq_of_lt}
use Rattle.std.specs.Prelude.{slice_index_or}
use Rattle.aat_shaped_text.specs.Kinds.{kind_of_number, number_of_kind, unmarked_kinds}
use Rattle.aat_shaped_text.specs.ShapedText.{CharactersAreRead}
use Rattle.aat_shaped_text.specs.declared.text.CharacterKind.{CharacterKind}
use Rattle.aat_shaped_text.specs.declared.text.CharacterKind.TheVariants.{Mark, Other, Space}
use Rattle.aat_shaped_text.specs.declared.text.SpaceWidth.TheVariants.{Em, FifthOfEm, Figure, FourEighteenthsOfEm, FourthOfEm, HalfEm, Narrow, Punctuation, SixteenthOfEm, SixthOfEm, ThirdOfEm}

-- a number of a mark is read as that mark
mark_is_read : (class : ℕ) → kind_of_number (256 + class) ≡ Mark class
mark_is_read class =
    by (nat_lt (256 + class) 256) (le-ltb (256 + class) 256 (omega arith)) (256 + class - 256) (omega arith)
  where
    by : (t : Bool) → t ≡ false → (n : ℕ) → n ≡ class → cond t (slice_index_or unmarked_kinds (256 + class) Other) (Mark n) ≡ Mark class
    by t e n f = rw (e, f) refl

-- the kind of the number of a kind is that kind
pub kind_is_read : (kind : CharacterKind) → kind_of_number (number_of_kind kind) ≡ kind
kind_is_read Other = refl
kind_is_read (Space Em) = refl
kind_is_read (Space HalfEm) = refl
kind_is_read (Space ThirdOfEm) = refl
kind_is_read (Space FourthOfEm) = refl
kind_is_read (Space FifthOfEm) = refl
kind_is_read (Space SixthOfEm) = refl
kind_is_read (Space SixteenthOfEm) = refl
kind_is_read (Space FourEighteenthsOfEm) = refl
kind_is_read (Space Figure) = refl
kind_is_read (Space Punctuation) = refl
kind_is_read (Space Narrow) = refl
kind_is_read (Mark class) = mark_is_read class

-- a bit below 0x80 is one of what stands below
low_bit : (n low : ℕ) → low < 0x80 → bit_and (n * 0x80 + low) 0x40 ≡ bit_and low 0x40
low_bit n low small =
    let little : bit_and (n * 0x80 + low) 0x40 < 0x80 = omega (arith, and_le_r (n * 0x80 + low) 0x40) in
    sym (mod-eq_of_lt little) ∙ (and_mod (n * 0x80 + low) 0x40 7 ∙ ap (λ m. bit_and m 0x40) (mod-mul-add n 0x80 low small))

pub characters_are_read : CharactersAreRead
characters_are_read face features g =
    (by g.is_ignorable, high g.is_ignorable ∙ kind_is_read g.kind)
  where
    by : (t : Bool) → not (bit_and (number_of_kind g.kind * 0x80 + cond t 0x60 0) 0x40 == 0) ≡ t
    by true = ap (λ n. not (n == 0)) (low_bit (number_of_kind g.kind) 0x60 (omega arith))
    by false = ap (λ n. not (n == 0)) (low_bit (number_of_kind g.kind) 0 (omega arith))

    high : (t : Bool) → kind_of_number ((number_of_kind g.kind * 0x80 + cond t 0x60 0) / 0x80) ≡ kind_of_number (number_of_kind g.kind)
    high true = ap kind_of_number (div-mul-add (number_of_kind g.kind) 0x80 0x60 (omega arith))
    high false = ap kind_of_number (div-mul-add (number_of_kind g.kind) 0x80 0 (omega arith))
