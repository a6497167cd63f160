-- What is known of pairs by classes that are not refused.
use Rattle.std.proofs.Common.{◌≡◌, ℕ, ◌*◌, ◌<◌, ◌≤◌, ◌^◌, length, take, ◌||◌, ◌==◌, Some, None, cond, false, arith}
use Rattle.std.specs.Prelude.{nat_lt, nat_le, option_map}
use Rattle.std.proofs.lemmas.Bool.{leb-false, ltb-false}
use Rattle.std.proofs.lemmas.Bool.Decides.{nat_tests}
use Rattle.aat_kerning_tables.specs.Classes.{ClassValues}
use Rattle.aat_write_truetype.specs.kern.ClassBytes.{array_offset, classes_refusal, left_limit, lists_refusal, value_from, wrong_value}
use Rattle.aat_write_truetype.specs.kern.DenseClasses.{class_gap}
use Rattle.aat_write_truetype.specs.declared.kern.error.KernWriteError.TheVariants.{ClassCount, TooLong, Class, Value}
use Rattle.aat_write_truetype.proofs.kern.Opened.{either_false, neither, not_first, unmapped}

pub record AreFit (p : ClassValues) : Type 0 where
  pub some : 0 < p.right_count
  pub narrow : p.right_count ≤ 32767
  pub near : array_offset (length p.left) (length p.right) ≤ 65535
  pub few : length p.values < 2 ^ 30
  pub left : class_gap (left_limit (array_offset (length p.left) (length p.right)) (2 * p.right_count)) p.left ≡ None
  pub right : class_gap p.right_count p.right ≡ None
  pub rows : 2 * p.right_count ≤ length p.values
  pub zeros : value_from 0 (take p.right_count p.values) ≡ None

not_zero : (n : ℕ) → (n == 0) ≡ false → 0 < n
not_zero n is = grind (arith, nat_tests)

pub are_fit : (p : ClassValues) → classes_refusal p ≡ None → AreFit p
are_fit p none =
    let array = array_offset (length p.left) (length p.right) in
    let lists = lists_refusal p array in
    let count = not_first ((p.right_count == 0) || nat_lt 32767 p.right_count) ClassCount (cond (nat_lt 65535 array || nat_le (2 ^ 30) (length p.values)) (Some TooLong) lists) none in
    let counts = either_false (p.right_count == 0) (nat_lt 32767 p.right_count) count.0 in
    let long = not_first (nat_lt 65535 array || nat_le (2 ^ 30) (length p.values)) TooLong lists count.1 in
    let longs = either_false (nat_lt 65535 array) (nat_le (2 ^ 30) (length p.values)) long.0 in
    let left = neither (option_map Class (class_gap (left_limit array (2 * p.right_count)) p.left)) _ long.1 in
    let right = neither (option_map Class (class_gap p.right_count p.right)) _ left.1 in
    let value = unmapped Value (wrong_value p.right_count p.values) right.1 in
    let values = not_first (nat_lt (length p.values) (2 * p.right_count)) (length p.values) (value_from 0 (take p.right_count p.values)) value in
    record {
      some = not_zero p.right_count counts.0;
      narrow = ltb-false 32767 p.right_count counts.1;
      near = ltb-false 65535 array longs.0;
      few = leb-false (2 ^ 30) (length p.values) longs.1;
      left = unmapped Class (class_gap (left_limit array (2 * p.right_count)) p.left) left.0;
      right = unmapped Class (class_gap p.right_count p.right) right.0;
      rows = ltb-false (length p.values) (2 * p.right_count) values.0;
      zeros = values.1;
    }
