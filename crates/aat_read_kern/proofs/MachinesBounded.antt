-- What machines of the kerning table weigh that are read.
use Rattle.std.proofs.Common.{◌≡◌, ℕ, zero, suc, ◌+◌, ◌-◌, ◌*◌, ◌/◌, ◌%◌, ◌<◌, ◌≤◌, List, [], ◌∷◌, length, Bool, true, false, cond, None, Ok, refl, sym, ap, ◌∙◌, subst, arith}
use Rattle.std.specs.List.{fold, range_with_len}
use Rattle.std.specs.Prelude.{max, min, nat_lt, slice_index, ◌&&◌}
use Rattle.std.proofs.Math.Nat.{mul-div-le}
use Rattle.std.proofs.lemmas.Bool.{ltb-false, ltb-true}
use Rattle.std.proofs.lemmas.List.FromFn.{length-map-range_with_len}
use Rattle.std.proofs.lemmas.Nat.{div-mul-add, mod-mul-add}
use Rattle.aat_bytes.specs.Numbers.{be16, signed16}
use Rattle.aat_bytes.specs.facts.Parts.{none_of, ok_parts, parts, passes}
use Rattle.aat_kerning_tables.specs.KerningTables.{KernMachineTables}
use Rattle.aat_read_kern.specs.ByteMachines.{byte_machine_at, cell_count, entry_place, has_entry, has_index, index_place, row_offset, rows_before}
use Rattle.aat_read_kern.specs.ByteStates.{are_closed, closed_rows, first_row, missing_entry, missing_index, rows_of, rule_of, whole_rows, with_all_named, with_named}
use Rattle.aat_read_kern.specs.KernLaws.{MachinesAreBounded}
use Rattle.aat_read_kern.specs.KernMachines.{byte_classes_at, classes_of, kern_machine_at, tables_of}
use Rattle.aat_read_kern.specs.Weights.{machine_tables_weight}
use Rattle.aat_read_kern.specs.declared.byte_classes.ByteClasses.{ByteClasses}
use Rattle.aat_read_kern.specs.declared.byte_machine.ByteMachine.{ByteMachine}
use Rattle.aat_read_kern.specs.declared.rows.Rows.{Rows}
use Rattle.aat_read_kern.proofs.ClassSizes.{numbered_size}
use Rattle.aat_read_kern.proofs.Closing.{all_indexed}

-- rows of which there is one behind the first state or more, and those before it do not start before the machine
record Near (m : ByteMachine) (rows : Rows) : Type 0 where
  some : 0 < rows.behind
  before : rows.before * m.class_count ≤ m.states

-- the greater of two numbers of rows before the first state
greater : (a b w states : ℕ) → a * w ≤ states → b * w ≤ states → max a b * w ≤ states
greater a b w states one other = by_order (nat_lt a b) refl where
  by_order : (c : Bool) → nat_lt a b ≡ c → max a b * w ≤ states
  by_order true is =
      let same : max a b ≡ b = (let below = ltb-true a b is in omega (arith, below)) in
      rw same other
  by_order false is =
      let same : max a b ≡ a = (let above = ltb-false a b is in omega (arith, above)) in
      rw same one

module _ (bytes : List ℕ) (m : ByteMachine) where
  -- an entry names no row before the machine
  names_near : (offset : ℕ) → rows_before m offset * m.class_count ≤ m.states
  names_near offset =
      let fit = mul-div-le (m.states - offset) m.class_count in omega (arith, fit)

  named_near : (b : Bool) (found : Rows) (offset more : ℕ) → Near m found
      → Near m (cond b (record { behind = max found.behind (more + 1); before = max found.before (rows_before m offset) }) found)
  named_near true found offset more near =
      let below = near.before in record {
        some = omega arith;
        before = greater found.before (rows_before m offset) m.class_count m.states below (names_near offset);
      }
  named_near false found offset more near = near

  with_near : (rows found : Rows) (cell : ℕ) → Near m found → Near m (with_named bytes m rows found cell)
  unfolding with_named
  with_near rows found cell near =
      named_near (has_index bytes m rows cell && has_entry bytes m rows cell) found
      (be16 bytes (entry_place bytes m rows cell)) _ near

  fold_near : (rows found : Rows) (cells : List ℕ) → Near m found → Near m (fold (with_named bytes m rows) found cells)
  fold_near rows found [] near = near
  fold_near rows found (cell ∷ cells) near =
      fold_near rows (with_named bytes m rows found cell) cells (with_near rows found cell near)

  closed_by : (b : Bool) (rows next : Rows) → Near m rows → Near m next → Near m (elim b [ true ↦ rows | false ↦ next ])
  closed_by true rows next near later = near
  closed_by false rows next near later = later

  closed_near : (more : ℕ) (rows : Rows) → Near m rows → Near m (closed_rows bytes m more rows)
  unfolding closed_rows
  closed_near zero rows near = near
  closed_near (suc more) rows near =
      let next = with_all_named bytes m rows in
      closed_by (are_closed bytes m rows) rows (closed_rows bytes m more next) near
      (closed_near more next (fold_near rows rows (range_with_len 0 (cell_count m rows)) near))

  rows_near : Near m (rows_of bytes m)
  unfolding rows_of
  rows_near = closed_near 65536 first_row (record { some = omega arith; before = omega arith })

  -- cells whose indexes are there stand in the bytes: the last one of the rows behind the first state does, and the rows
  -- before it stand between the machine and the first state
  last_cell : (rows : Rows) (more : ℕ) → rows.behind ≡ suc more → 0 < m.class_count
      → index_place m rows (more * m.class_count + (m.class_count - 1))
      ≡ m.place + (m.states + more * m.class_count) + (m.class_count - 1)
  last_cell rows more behind some =
      let w = m.class_count in
      let below : w - 1 < w = omega (arith, some) in
      let state : (more * w + (w - 1)) / w ≡ more = div-mul-add more w (w - 1) below in
      let class : (more * w + (w - 1)) % w ≡ w - 1 = mod-mul-add more w (w - 1) below in
      let is_behind : nat_lt more rows.behind ≡ true = rw behind grind arith in
      let offset : row_offset m rows more ≡ m.states + more * w =
      ap (λ (b : Bool). cond b (m.states + more * w) (m.states - (more + 1 - rows.behind) * w)) is_behind in
      ap (λ s. m.place + row_offset m rows s + (more * w + (w - 1)) % w) state
      ∙ ap (λ c. m.place + row_offset m rows more + c) class
      ∙ ap (λ o. m.place + o + (w - 1)) offset

  indexed_fit : (rows : Rows) → 0 < m.class_count → Near m rows → missing_index bytes m rows ≡ None
      → m.place + cell_count m rows ≤ length bytes
  unfolding has_index
  indexed_fit rows some near none =
      let w = m.class_count in
      let more = rows.behind - 1 in
      let one = near.some in
      let before = near.before in
      let behind : rows.behind ≡ suc more = omega (arith, one) in
      let cell : ℕ = more * w + (w - 1) in
      let row : (more + 1) * w ≡ more * w + w = grind arith in
      let all : cell_count m rows ≡ rows.behind * w + rows.before * w = grind arith in
      let next : rows.behind ≡ more + 1 = omega (arith, one) in
      let here : rows.behind * w ≡ more * w + w = ap (λ n. n * w) next ∙ row in
      let below : cell < cell_count m rows = omega (arith, all, here, some) in
      let there : has_index bytes m rows cell ≡ true = all_indexed bytes m rows none cell below in
      let inside : index_place m rows cell < length bytes = ltb-true (index_place m rows cell) (length bytes) there in
      let place = last_cell rows more behind some in
      omega (arith, all, here, inside, place, before, some)

-- the machine of a header
header_parts : (bytes : List ℕ) (place : ℕ) (m : ByteMachine) → byte_machine_at bytes place ≡ Ok m
    → (place ≡ m.place) × (0 < m.class_count) × (place + 10 ≤ length bytes)
unfolding byte_machine_at
header_parts bytes place m is =
    let whole = passes (nat_lt (length bytes) (place + 10)) _ _ m is in
    let wide = passes (nat_lt (be16 bytes place) 4) _ _ m whole.1 in
    let same = ok_parts _ m wide.1 in
    let class : be16 bytes place ≡ m.class_count = ap (λ (k : ByteMachine). k.class_count) same in
    let many : 4 ≤ be16 bytes place = ltb-false (be16 bytes place) 4 wide.0 in (
      ap (λ (k : ByteMachine). k.place) same,
      omega (arith, class, many),
      ltb-false (length bytes) (place + 10) whole.0,
    )

-- a machine that is read has its header of 10 bytes
pub machine_inside : (bytes : List ℕ) (place : ℕ) (t : KernMachineTables) → kern_machine_at bytes place ≡ Ok t
    → place + 10 ≤ length bytes
unfolding kern_machine_at
machine_inside bytes place t is =
    let machine = parts (byte_machine_at bytes place) _ t is in
    (header_parts bytes place machine.0 machine.1).2

-- rows that are there stand in the bytes
rows_fit : (bytes : List ℕ) (m : ByteMachine) (rows : Rows) → 0 < m.class_count
    → whole_rows bytes m (rows_of bytes m) ≡ Ok rows → m.place + cell_count m rows ≤ length bytes
unfolding whole_rows
rows_fit bytes m rows some is =
    let found = rows_of bytes m in
    let indexed = none_of (missing_index bytes m found) _ _ rows is in
    let entries = none_of (missing_entry bytes m found) _ _ rows indexed.1 in
    let same : found ≡ rows = ok_parts found rows entries.1 in
    subst (λ (r : Rows). m.place + cell_count m r ≤ length bytes) same
    (indexed_fit bytes m found some (rows_near bytes m) indexed.0)

-- the classes of a class table of bytes stand in them
classes_fit : (bytes : List ℕ) (place : ℕ) (table : ByteClasses) → byte_classes_at bytes place ≡ Ok table
    → place + table.count ≤ length bytes
unfolding byte_classes_at
classes_fit bytes place table is =
    let count = be16 bytes (place + 2) in
    let header = passes (nat_lt (length bytes) (place + 4)) _ _ table is in
    let whole = passes (nat_lt (length bytes) (place + 4 + count)) _ _ table header.1 in
    let same : min count (65536 - be16 bytes place) ≡ table.count =
    ap (λ (k : ByteClasses). k.count) (ok_parts _ table whole.1) in
    let inside = ltb-false (length bytes) (place + 4 + count) whole.0 in
    omega (arith, same, inside)

-- what a machine weighs of rows and classes that stand in the bytes
tables_light : (bytes : List ℕ) (m : ByteMachine) (rows : Rows) (table : ByteClasses)
    → m.place + cell_count m rows ≤ length bytes → m.place + m.classes + table.count ≤ length bytes
    → machine_tables_weight (tables_of bytes m rows (classes_of bytes table)) ≤ 27 * (length bytes - m.place)
tables_light bytes m rows table cells classes =
    let rules = length-map-range_with_len (rule_of bytes m rows) 0 (cell_count m rows) in
    let listed = numbered_size table.first (λ k. (table.first + k, slice_index bytes (table.place + k))) (λ k. refl) table.count in
    let start = m.place + m.values in
    let count : ℕ = min 16384 ((length bytes - start) / 2) in
    let values = length-map-range_with_len (λ i. signed16 (be16 bytes (start + 2 * i))) 0 count in
    let list = mul-div-le (length bytes - start) 2 in
    omega (arith, rules, listed, values, list, cells, classes)

-- the law
pub machines_bounded : MachinesAreBounded
unfolding kern_machine_at
machines_bounded bytes place t is =
    let machine = parts (byte_machine_at bytes place) _ t is in
    let m = machine.0 in
    let rows = parts (whole_rows bytes m (rows_of bytes m)) _ t machine.2 in
    let classes = parts (byte_classes_at bytes (m.place + m.classes)) _ t rows.2 in
    let header = header_parts bytes place m machine.1 in
    let same : tables_of bytes m rows.0 (classes_of bytes classes.0) ≡ t = ok_parts _ t classes.2 in
    let light =
    tables_light bytes m rows.0 classes.0 (rows_fit bytes m rows.0 header.1 rows.1)
    (classes_fit bytes (m.place + m.classes) classes.0 classes.1) in
    let here : place ≡ m.place = header.0 in
    let weighs : machine_tables_weight t ≤ 27 * (length bytes - m.place) =
    subst (λ (k : KernMachineTables). machine_tables_weight k ≤ 27 * (length bytes - m.place)) same light in
    subst (λ (p : ℕ). machine_tables_weight t ≤ 27 * (length bytes - p)) (sym here) weighs
