use Rattle.std.proofs.Common.{◌≡◌, ℕ, zero, suc, ◌<◌, ◌+◌, ◌-◌, ◌*◌, ◌≤◌, true, length, max, sym, ◌∙◌, ap, arith}
use Rattle.std.specs.Ordering.{nat_cmp, ord_max}
use Rattle.std.proofs.lemmas.Bool.{leb-true}
use Rattle.std.proofs.lemmas.Bool.Decides.{nat_tests}
use Rattle.aat_bytes.specs.Numbers.{be16}
use Rattle.aat_bytes.specs.facts.Ranges.{fold_more}
use Rattle.aat_read_machine.specs.Lookups.{lookup_count, lookups_named, lookups_to}
use Rattle.aat_read_machine.specs.StateArray.{StateArray, entry_place, has_entry, index_place}
use Rattle.aat_read_machine.specs.inside.Passed.{entry_lookups}
use Rattle.aat_read_machine.proofs.state_array.StateArray.lookup_count.Goals as goal
use Rattle.aat_read_machine.proofs.state_array.StateArray.lookup_count.Goals.{then-index-passed+else-passed-cells, else-index-passed}

-- the greater of two numbers, as it is compared
greater_is : (a b : ℕ) → ord_max nat_cmp a b ≡ max a b
greater_is a b = grind (arith, nat_tests)

not_greater : (a b : ℕ) → b ≤ a → a ≡ max a b
not_greater a b le = grind (arith, nat_tests)

-- the entry of a cell stands inside
stands : (m : StateArray) (cell : ℕ) → m.entry_size ≡ 8 → has_entry m cell ≡ true
    → m.entries + 8 * be16 m.bytes (index_place m cell) + 8 ≤ length m.bytes
unfolding has_entry
stands m cell size whole =
    let inside : entry_place m cell + m.entry_size ≤ length m.bytes = leb-true _ _ whole in
    let place : entry_place m cell ≡ m.entries + 8 * be16 m.bytes (index_place m cell) =
    ap (λ n. m.entries + n * be16 m.bytes (index_place m cell)) size in
    omega (arith, inside, place, size)

-- a cell asks for the lookups of its entry
asks : (m : StateArray) (cell : ℕ) → m.entry_size ≡ 8 → lookups_named m cell ≡ entry_lookups m (be16 m.bytes (index_place m cell))
asks m cell size =
    let index = be16 m.bytes (index_place m cell) in
    ap (λ n. max (lookups_to (be16 m.bytes (m.entries + n * index + 4))) (lookups_to (be16 m.bytes (m.entries + n * index + 6)))) size

inside_at : (m : StateArray) (cell index : ℕ) → m.entry_size ≡ 8 → has_entry m cell ≡ true → index ≡ be16 m.bytes (index_place m cell)
    → m.entries + 8 * index + 8 ≤ length m.bytes
inside_at m cell index size whole is = rw is (stands m cell size whole)

pub entry_lookups-requires-clause-inside : goal.entry_lookups-requires-clause-inside
entry_lookups-requires-clause-inside c =
    inside_at c.args.self.now c.loop-cell.cell c.index-index.result c.requires.size (c.requires.whole c.loop-cell.cell c.loop-cell-test.true) c.index-index.ensures

stays :
    (m : StateArray) (count from more : ℕ) → count ≡ lookup_count m from
    → ((k : ℕ) → k < from + more → lookups_named m k ≤ count) → count ≡ lookup_count m (from + more)
stays m count from zero is low = let same : from ≡ from + 0 = omega arith in is ∙ ap (lookup_count m) same
stays m count from (suc more) is low =
    let before = stays m count from more is (λ k lt. low k (omega (arith, lt))) in
    let here = low (from + more) (omega arith) in
    let same : from + more + 1 ≡ from + suc more = omega arith in
    not_greater count (lookups_named m (from + more)) here
    ∙ ap (λ n. max n (lookups_named m (from + more))) before
    ∙ sym (fold_more (λ most cell. max most (lookups_named m cell)) 0 (from + more))
    ∙ ap (lookup_count m) same

pub returns-then-passed-cells-clause-count : goal.returns-then-passed-cells-clause-count
returns-then-passed-cells-clause-count c =
    let m = c.args.self.now in
    let cell = c.loop-cell.cell in
    let count = c.max-count.result in
    let more = fold_more (λ most cell. max most (lookups_named m cell)) 0 cell in
    let named : lookups_named m cell ≡ entry_lookups m c.index-index.result =
    asks m cell c.requires.size ∙ ap (entry_lookups m) (sym c.index-index.ensures) in
    let greater : count ≡ max c.loop-cell.count c.entry_lookups.result = c.max-count.ensures ∙ greater_is c.loop-cell.count c.entry_lookups.result in
    let so_far = ap (λ n. max n c.entry_lookups.result) c.loop-cell.invariant.count in
    let here = ap (max (lookup_count m cell)) (c.entry_lookups.ensures.named ∙ sym named) in
    let all : cell + 1 + (c.args.cells.count - (cell + 1)) ≡ c.args.cells.count = omega (arith, c.loop-cell-test.true) in
    let low : (k : ℕ) → k < cell + 1 + (c.args.cells.count - (cell + 1)) → lookups_named m k ≤ count =
    λ k lt. rw (asks m k c.requires.size) (c.passed_lookups-passed.ensures (be16 m.bytes (index_place m k))
    (omega (arith, c.requires.named k (omega (arith, all, lt)), c.if-passed-cells.true))) in
    stays m count (cell + 1) (c.args.cells.count - (cell + 1)) (greater ∙ so_far ∙ here ∙ sym more) low
    ∙ ap (lookup_count m) all

pub loop-cell-preserved : goal.loop-cell-preserved
loop-cell-preserved c =
    let m = c.args.self.now in
    let cell = c.loop-cell.cell in
    let before = c.loop-cell.invariant in
    let more = fold_more (λ most cell. max most (lookups_named m cell)) 0 cell in
    let named : lookups_named m cell ≡ entry_lookups m c.index-index.result =
    asks m cell c.requires.size ∙ ap (entry_lookups m) (sym c.index-index.ensures) in
    elim c.if-index-passed.branch [
      | then-index-passed+else-passed-cells w ↦
          let greater : w.max-count.result ≡ max c.loop-cell.count w.entry_lookups.result = w.max-count.ensures ∙ greater_is c.loop-cell.count w.entry_lookups.result in
          let so_far = ap (λ n. max n w.entry_lookups.result) before.count in
          let here = ap (max (lookup_count m cell)) (w.entry_lookups.ensures.named ∙ sym named) in
          record {
            count = w.count-is ∙ greater ∙ so_far ∙ here ∙ sym more;
            few = omega (arith, w.count-is, greater, w.entry_lookups.ensures.few, before.few);
            passed = λ index below. rw w.count-is (w.passed_lookups-passed.ensures index (rw (← w.passed-is) below));
          }
      | else-index-passed w ↦
          let low : lookups_named m cell ≤ c.loop-cell.count = rw named (before.passed c.index-index.result (omega (arith, w.if-index-passed.false))) in
          let same : c.loop-cell.count ≡ max c.loop-cell.count (lookups_named m cell) = not_greater _ _ low in
          record {
            count = w.count-is ∙ same ∙ ap (λ n. max n (lookups_named m cell)) before.count ∙ sym more;
            few = omega (arith, w.count-is, before.few);
            passed = λ index below. rw w.count-is (before.passed index (rw (← w.passed-is) below));
          }
    ]
