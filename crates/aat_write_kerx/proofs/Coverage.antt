-- The bits of a coverage that is written are read again.
use Rattle.std.proofs.Common.{◌≡◌, ℕ, ◌+◌, ◌*◌, ◌/◌, ◌%◌, ◌^◌, ◌<◌, ◌≤◌, Bool, true, false, not, refl, ap, ◌∙◌, arith}
use Rattle.std.specs.Prelude.{bit_and, ◌==◌}
use Rattle.std.proofs.lemmas.Nat.Bits.{and_pow}
use Rattle.aat_kerning_tables.specs.declared.kerx.KerxFormat.{KerxFormat}
use Rattle.aat_kerning_tables.specs.declared.kerx.KerxFormat.TheVariants.{Format0, Format1, Format2, Format2Classes, Format4, Format6, Format6Classes}
use Rattle.aat_write_kerx.specs.KerxBytes.{flag, format_number}

-- the number of three flags and a format
abbrev pub number_of : Bool → Bool → Bool → ℕ → ℕ
number_of v x l format = flag 0x80000000 v + flag 0x40000000 x + flag 0x10000000 l + format

abbrev pub has_bit : ℕ → ℕ → Bool
has_bit number bit = not (bit_and number bit == 0)

-- the flags and the format of a number of 32 bits, which has not the flag of variations
pub record HasFlags (number : ℕ) (v x l : Bool) (format : ℕ) : Type 0 where
  pub vertical : has_bit number 0x80000000 ≡ v
  pub cross : has_bit number 0x40000000 ≡ x
  pub plain : has_bit number 0x20000000 ≡ false
  pub last : has_bit number 0x10000000 ≡ l
  pub format_is : number % 256 ≡ format
  pub small : number < 4294967296

scaled : (n : ℕ) (b : Bool) → flag n b ≡ n * flag 1 b
scaled n true = omega arith
scaled n false = omega arith

at_most : (b : Bool) → flag 1 b ≤ 1
at_most true = omega arith
at_most false = omega arith

-- a bit is set where the quotient by its power of 2 is odd
bit_by : (number k : ℕ) (b : Bool) → not (1 * 2 ^ k == 0) ≡ true → number / 2 ^ k % 2 ≡ flag 1 b → has_bit number (2 ^ k) ≡ b
bit_by number k true some is = ap (λ n. not (n == 0)) (and_pow number k ∙ ap (λ n. n * 2 ^ k) is) ∙ some
bit_by number k false some is =
    let none : 0 * 2 ^ k ≡ 0 = omega arith in
    ap (λ n. not (n == 0)) (and_pow number k ∙ ap (λ n. n * 2 ^ k) is ∙ none)

flags_by : (v x l : Bool) (format : ℕ) → format < 256 → HasFlags (number_of v x l format) v x l format
flags_by v x l format small =
    let number : ℕ = number_of v x l format in
    let a = scaled 0x80000000 v in
    let b = scaled 0x40000000 x in
    let c = scaled 0x10000000 l in
    let d = at_most v in
    let e = at_most x in
    let f = at_most l in
    record {
      vertical = bit_by number 31 v refl (omega (arith, a, b, c, d, e, f));
      cross = bit_by number 30 x refl (omega (arith, a, b, c, d, e, f));
      plain = bit_by number 29 false refl (omega (arith, a, b, c, d, e, f));
      last = bit_by number 28 l refl (omega (arith, a, b, c, d, e, f));
      format_is = omega (arith, a, b, c, d, e, f);
      small = omega (arith, a, b, c, d, e, f);
    }

number_is_byte : (format : KerxFormat) → format_number format < 256
number_is_byte (Format0 pairs) = omega arith
number_is_byte (Format1 t) = omega arith
number_is_byte (Format2 pairs) = omega arith
number_is_byte (Format2Classes t) = omega arith
number_is_byte (Format4 t) = omega arith
number_is_byte (Format6 pairs) = omega arith
number_is_byte (Format6Classes t) = omega arith

pub has_flags :
    (format : KerxFormat) (v x l : Bool) → HasFlags (number_of v x l (format_number format)) v x l (format_number format)
has_flags format v x l = flags_by v x l (format_number format) (number_is_byte format)
