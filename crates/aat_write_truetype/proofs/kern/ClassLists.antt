-- Class tables of offsets that are written are read again.
use Rattle.std.proofs.Common.{◌≡◌, ℕ, zero, suc, ◌+◌, ◌*◌, ◌-◌, ◌/◌, ◌%◌, ◌<◌, ◌≤◌, List, length, get_or, min, true, false, ◌==◌, ◌&&◌, cond, Option, Some, None, Result, Ok, Err, refl, sym, ap, ◌∙◌, arith}
use Rattle.std.specs.Prelude.{nat_lt, unwrap_or}
use Rattle.std.specs.Option.{is_none}
use Rattle.std.proofs.Math.Nat.{mul-div_cancel, mul-mod_left}
use Rattle.std.proofs.lemmas.Bool.{le-ltb, lt-ltb}
use Rattle.std.proofs.lemmas.Bool.Decides.{nat_tests}
use Rattle.std.proofs.lemmas.List.FromFn.{fill_by_all}
use Rattle.aat_bytes.specs.Faults.{after, fault_at}
use Rattle.aat_bytes.specs.Numbers.{be16}
use Rattle.aat_bytes.specs.declared.error.Fault.{Fault}
use Rattle.aat_bytes.specs.declared.error.FaultKind.TheVariants.{UnknownFormat}
use Rattle.aat_bytes.specs.facts.Ranges.{none_found}
use Rattle.aat_bytes.specs.declared.tags.TheConstants.{KERN}
use Rattle.aat_read_pairs.specs.ClassTables.{class_table_at, offset_of, offset_place}
use Rattle.aat_read_pairs.specs.KernClasses.{checked_table_at, class_of, classes_of, first_odd}
use Rattle.aat_write_truetype.specs.kern.ClassBytes.{left_word, right_word}
use Rattle.aat_write_truetype.specs.kern.DenseClasses.{class_gap, first_glyph}
use Rattle.aat_write_truetype.proofs.kern.DenseFacts.{below_limit, glyph_is}
use Rattle.aat_write_truetype.proofs.kern.Readers.{ClassTable, KernGrid, Side}

-- a class table whose numbers are known
table_by :
    (bytes : List ℕ) (place first count : ℕ)
    → be16 bytes place ≡ first → be16 bytes (place + 2) ≡ count
    → place + 4 + 2 * count ≤ length bytes → first + count ≤ 65536
    → class_table_at bytes place ≡ Ok (record { offsets = place + 4; first = first; count = count })
unfolding class_table_at
table_by bytes place first count is_first is_count inside fits =
    let header : place + 4 ≤ length bytes = omega (arith, inside) in
    let all : min count (65536 - first) ≡ count = grind (arith, nat_tests, fits) in
    let table : ℕ → ClassTable = λ n. record { offsets = place + 4; first = first; count = n } in
    rw (le-ltb (length bytes) (place + 4) header)
    (rw is_count (rw (le-ltb (length bytes) (place + 4 + 2 * count) inside) (rw is_first (ap (λ n. Ok (table n)) all))))

-- a class table that has the word of each class at its place, and a side that reads the word as the class
pub record IsTable (bytes : List ℕ) (grid : KernGrid) (side : Side) (limit : ℕ) (word : ℕ → ℕ) (place : ℕ) (classes : List (ℕ × ℕ)) : Type 0 where
  pub first : be16 bytes place ≡ first_glyph classes
  pub count : be16 bytes (place + 2) ≡ length classes
  pub inside : place + 4 + 2 * length classes ≤ length bytes
  pub fits : first_glyph classes + length classes ≤ 65536
  pub dense : class_gap limit classes ≡ None
  pub words : (k : ℕ) (d : ℕ × ℕ) → k < length classes → be16 bytes (place + 4 + 2 * k) ≡ word (get_or classes k d).1
  pub reads : (class : ℕ) → class < limit → class_of grid side (word class) ≡ Some class

module _ (bytes : List ℕ) (grid : KernGrid) (side : Side) (limit : ℕ) (word : ℕ → ℕ) (place : ℕ) (classes : List (ℕ × ℕ))
    (is : IsTable bytes grid side limit word place classes) where
  abbrev pub table : ClassTable
  table = record { offsets = place + 4; first = first_glyph classes; count = length classes }

  class_is : (k : ℕ) → k < length classes → class_of grid side (offset_of bytes table k) ≡ Some (get_or classes k (0, 0)).1
  class_is k below =
      ap (class_of grid side) (is.words k (0, 0) below)
      ∙ is.reads (get_or classes k (0, 0)).1 (below_limit limit classes is.dense k (0, 0) below)

  none_odd : first_odd bytes grid side table ≡ None
  none_odd =
      none_found (λ k. is_none (class_of grid side (offset_of bytes table k))) 0 (length classes)
      (λ k from below. ap is_none (class_is k (omega arith)))

  pub table_is_read : checked_table_at bytes grid side place ≡ Ok table
  unfolding checked_table_at
  table_is_read =
      ap (λ (r : Result ClassTable Fault). after r (λ table. elim (first_odd bytes grid side table) [
        | None ↦ Ok table
        | Some k ↦ Err (fault_at KERN UnknownFormat (offset_place table k))
      ])) (table_by bytes place (first_glyph classes) (length classes) is.first is.count is.inside is.fits)
      ∙ ap (λ (o : Option ℕ). elim o [ None ↦ Ok table | Some k ↦ Err (fault_at KERN UnknownFormat (offset_place table k)) ]) none_odd

  both_parts : (p : ℕ × ℕ) (a b : ℕ) → p.0 ≡ a → b ≡ p.1 → p ≡ (a, b)
  both_parts p a b left right =
      let of_left : ℕ → ℕ × ℕ = λ i. (i, p.1) in
      let of_right : ℕ → ℕ × ℕ = λ i. (a, i) in
      ap of_left left ∙ ap of_right (sym right)

  pub classes_are_read : classes_of bytes grid side table ≡ classes
  classes_are_read =
      sym (fill_by_all (λ k. (first_glyph classes + k, unwrap_or (class_of grid side (offset_of bytes table k)) 0)) classes (length classes) (0, 0) refl
      (λ k below. both_parts (get_or classes k (0, 0)) (first_glyph classes + k) (unwrap_or (class_of grid side (offset_of bytes table k)) 0)
      (glyph_is limit classes is.dense k (0, 0) below)
      (ap (λ (o : Option ℕ). unwrap_or o 0) (class_is k below))))

-- a side that reads the offsets of right classes, and one that reads those of left classes
abbrev pub IsRight : KernGrid → Side → Type 0
IsRight grid side =
    (offset : ℕ) → class_of grid side offset
    ≡ cond (nat_lt offset grid.width && (offset % 2 == 0)) (Some (offset / 2)) None

abbrev pub IsLeft : KernGrid → Side → Type 0
IsLeft grid side =
    (offset : ℕ) → class_of grid side offset
    ≡ cond (offset == 0) (Some 0) (cond (nat_lt offset grid.array) None
    (cond ((offset - grid.array) % grid.width == 0) (Some ((offset - grid.array) / grid.width + 1)) None))

-- a right class of its offset
pub right_reads :
    (grid : KernGrid) (side : Side) (columns : ℕ) → IsRight grid side → grid.width ≡ 2 * columns
    → (class : ℕ) → class < columns → class_of grid side (right_word class) ≡ Some class
right_reads grid side columns is wide class below =
    let inside : nat_lt (2 * class) grid.width ≡ true = lt-ltb (2 * class) grid.width (omega (arith, wide)) in
    let even : 2 * class % 2 ≡ 0 = omega arith in
    let half : 2 * class / 2 ≡ class = omega arith in
    is (2 * class) ∙ rw inside (rw even (rw half refl))

-- a left class of its offset
left_of : (array row before : ℕ) → 0 < array → 0 < row
    → (((array + before * row) == 0) ≡ false) × (nat_lt (array + before * row) array ≡ false)
    × (((array + before * row - array) % row == 0) ≡ true) × ((array + before * row - array) / row + 1 ≡ suc before)
left_of array row before some wide =
    let less : array + before * row - array ≡ before * row = omega arith in
    let whole : before * row % row ≡ 0 = mul-mod_left before row in
    let part : before * row / row ≡ before = mul-div_cancel before wide in
    let even : (array + before * row - array) % row ≡ 0 = ap (λ n. n % row) less ∙ whole in
    let quotient : (array + before * row - array) / row ≡ before = ap (λ n. n / row) less ∙ part in (
      grind (arith, nat_tests, some),
      le-ltb (array + before * row) array (omega arith),
      ap (λ n. n == 0) even,
      omega (arith, quotient),
    )

pub left_reads :
    (grid : KernGrid) (side : Side) → IsLeft grid side → 0 < grid.array → 0 < grid.width
    → (class : ℕ) → class_of grid side (left_word grid.array grid.width class) ≡ Some class
left_reads grid side is some wide zero = is 0
left_reads grid side is some wide (suc before) =
    let less : suc before - 1 ≡ before = omega arith in
    let known = left_of grid.array grid.width before some wide in
    let behind : (suc before == 0) ≡ false = grind (arith, nat_tests) in
    rw behind (
    ap (λ n. class_of grid side (grid.array + n * grid.width)) less
    ∙ is (grid.array + before * grid.width)
    ∙ rw known.0 (rw known.1 (rw known.2 (ap Some known.3))))
