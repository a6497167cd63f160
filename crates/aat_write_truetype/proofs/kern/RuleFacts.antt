-- What is known of the rules of a machine that are not refused.
use Rattle.std.proofs.Common.{◌≡◌, ℕ, zero, suc, ◌+◌, ◌*◌, ◌/◌, ◌%◌, ◌<◌, ◌≤◌, List, [], ◌∷◌, length, get_or, max, true, not, ◌&&◌, ◌||◌, ◌==◌, cond, None, Some, ap, ◌∙◌, arith}
use Rattle.std.specs.Prelude.{nat_lt, option_map}
use Rattle.std.proofs.Math.Nat.{mul-div-le, mul-le-mul_right}
use Rattle.std.proofs.lemmas.Bool.{ltb-false}
use Rattle.std.proofs.lemmas.Bool.Decides.{nat_tests}
use Rattle.aat_machine_tables.specs.Table.{rule_key}
use Rattle.aat_write_truetype.specs.kern.DenseClasses.{class_gap}
use Rattle.aat_write_truetype.specs.kern.MachineBytes.{KernRule, fill_rows, fits_flags, is_at_cell, parts_refusal, rules_refusal, value_offset, wrong_from, wrong_rule}
use Rattle.aat_write_truetype.specs.declared.kern.error.KernWriteError.TheVariants.{ClassCount, RuleCount, TooLong, Class, Rule as RuleError}
use Rattle.aat_write_truetype.proofs.kern.Opened.{below_by, both_true, either_false, in_place, neither, not_false, not_first, same_by, unmapped}

-- what is known of the rule of a cell
pub record IsAt (width states values cell highest : ℕ) (rule : KernRule) : Type 0 where
  pub key : rule_key rule ≡ cell / width * 65536 + cell % width
  pub reached : cell / width < highest + 1
  pub named : rule.2.new_state < states
  pub fits : fits_flags values rule.2 ≡ true

module _ (width states values : ℕ) where
  -- a rule that is in its place, and those behind it
  opened :
      (cell highest : ℕ) (rule : KernRule) (rules : List KernRule)
      → wrong_from width states values cell highest (rule ∷ rules) ≡ None
      → IsAt width states values cell highest rule
      × (wrong_from width states values (cell + 1) (max highest rule.2.new_state) rules ≡ None)
  opened cell highest rule rules none =
      let key = rule_key rule == cell / width * 65536 + cell % width in
      let reached = nat_lt (cell / width) (highest + 1) in
      let named = nat_lt rule.2.new_state states in
      let here = in_place (is_at_cell width states cell highest rule && fits_flags values rule.2) (wrong_from width states values (cell + 1) (max highest rule.2.new_state) rules) cell none in
      let fits = both_true (is_at_cell width states cell highest rule) (fits_flags values rule.2) here.0 in
      let name = both_true (key && reached) named fits.0 in
      let keys = both_true key reached name.0 in (
        record {
          key = same_by (rule_key rule) (cell / width * 65536 + cell % width) keys.0;
          reached = below_by (cell / width) (highest + 1) keys.1;
          named = below_by rule.2.new_state states name.1;
          fits = fits.1;
        },
        here.1,
      )

  -- each rule from a cell on
  pub each_rule :
      (cell highest : ℕ) (rules : List KernRule) → wrong_from width states values cell highest rules ≡ None
      → (k : ℕ) (d : KernRule) → k < length rules
      → (rule_key (get_or rules k d) ≡ (cell + k) / width * 65536 + (cell + k) % width)
      × ((get_or rules k d).2.new_state < states)
      × (fits_flags values (get_or rules k d).2 ≡ true)
  each_rule cell highest [] none k d below = absurd (omega arith)
  each_rule cell highest (r ∷ rules) none zero d below =
      let here = (opened cell highest r rules none).0 in
      let same : cell ≡ cell + 0 = omega arith in
      (here.key ∙ ap (λ n. n / width * 65536 + n % width) same, here.named, here.fits)
  each_rule cell highest (r ∷ rules) none (suc k) d below =
      let there = each_rule (cell + 1) (max highest r.2.new_state) rules (opened cell highest r rules none).1 k d (omega arith) in
      let same : cell + 1 + k ≡ cell + suc k = omega arith in
      (there.0 ∙ ap (λ n. n / width * 65536 + n % width) same, there.1, there.2)

  -- where the rules before a cell name states below one alone, so is the state of the cell
  pub reached_below :
      (cell highest : ℕ) (rules : List KernRule) → wrong_from width states values cell highest rules ≡ None
      → (k most : ℕ) → k < length rules → highest < most
      → ((j : ℕ) (d : KernRule) → j < k → (get_or rules j d).2.new_state < most)
      → (cell + k) / width < most
  reached_below cell highest [] none k most below low each = absurd (omega arith)
  reached_below cell highest (r ∷ rules) none zero most below low each =
      let here = (opened cell highest r rules none).0.reached in
      let same : cell ≡ cell + 0 = omega arith in
      let moved : cell / width ≡ (cell + 0) / width = ap (λ n. n / width) same in
      omega (arith, here, low, moved)
  reached_below cell highest (r ∷ rules) none (suc k) most below low each =
      let here : r.2.new_state < most = each 0 r (omega arith) in
      let greater : max highest r.2.new_state < most = grind (arith, nat_tests) in
      let there = reached_below (cell + 1) (max highest r.2.new_state) rules (opened cell highest r rules none).1 k most (omega arith) greater (λ j d lt. each (suc j) d (omega arith)) in
      let same : cell + 1 + k ≡ cell + suc k = omega arith in
      let moved : (cell + 1 + k) / width ≡ (cell + suc k) / width = ap (λ n. n / width) same in
      omega (arith, there, moved)

-- what is known of classes and rules that are not refused, beside so many values
pub record AreWhole (width : ℕ) (glyphs : List (ℕ × ℕ)) (cells : List KernRule) (values : ℕ) : Type 0 where
  pub wide : 4 ≤ width
  pub some : 0 < length cells
  pub few : length cells ≤ 256
  pub even : length cells % width ≡ 0
  pub near : value_offset (length glyphs) (length cells) ≤ 65535
  pub count : values ≤ 16384
  pub classes : class_gap 256 glyphs ≡ None
  pub rules : wrong_rule width (value_offset (length glyphs) (length cells)) cells ≡ None

pub are_whole :
    (width : ℕ) (classes : List (ℕ × ℕ)) (rules : List KernRule) (count : ℕ)
    → rules_refusal width classes rules count ≡ None → AreWhole width classes rules count
are_whole width classes rules count none =
    let cells = length rules in
    let values = value_offset (length classes) cells in
    let behind_long = parts_refusal width values classes rules in
    let behind_rows = cond (nat_lt 65535 values || nat_lt 16384 count) (Some TooLong) behind_long in
    let wide = not_first (nat_lt width 4) ClassCount (cond (not (fill_rows width cells)) (Some RuleCount) behind_rows) none in
    let rows = not_first (not (fill_rows width cells)) RuleCount behind_rows wide.1 in
    let filled = not_false (fill_rows width cells) rows.0 in
    let even = both_true (nat_lt 0 cells && nat_lt cells 257) (cells % width == 0) filled in
    let some = both_true (nat_lt 0 cells) (nat_lt cells 257) even.0 in
    let long = not_first (nat_lt 65535 values || nat_lt 16384 count) TooLong behind_long rows.1 in
    let longs = either_false (nat_lt 65535 values) (nat_lt 16384 count) long.0 in
    let lists = neither (option_map Class (class_gap 256 classes)) _ long.1 in
    let few : cells < 257 = below_by cells 257 some.1 in
    record {
      wide = ltb-false width 4 wide.0;
      some = below_by 0 cells some.0;
      few = omega (arith, few);
      even = same_by (cells % width) 0 even.1;
      near = ltb-false 65535 values longs.0;
      count = ltb-false 16384 count longs.1;
      classes = unmapped Class (class_gap 256 classes) lists.0;
      rules = unmapped RuleError (wrong_rule width values rules) lists.1;
    }

-- the rows of the states that rules name start within 16 bits
pub row_is_near :
    (width : ℕ) (classes : List (ℕ × ℕ)) (rules : List KernRule) (count : ℕ)
    → AreWhole width classes rules count
    → (k : ℕ) (d : KernRule) → k < length rules
    → 14 + length classes + (get_or rules k d).2.new_state * width < 65536
row_is_near width classes rules count fit k d below =
    let cells = length rules in
    let state = (get_or rules k d).2.new_state in
    let named = (each_rule width (cells / width) (value_offset (length classes) cells) 0 0 rules fit.rules k d below).1 in
    let le : state ≤ cells / width = omega (arith, named) in
    let rows : state * width ≤ cells / width * width = mul-le-mul_right width le in
    let whole = mul-div-le cells width in
    let near = fit.near in
    omega (arith, rows, whole, near)
