use Rattle.std.proofs.Common.{rules, ◌≡◌, ◌+◌, ◌-◌, ◌*◌, ◌<◌, true, Err, sym, ap, ◌∙◌, arith}
use Rattle.std.proofs.Math.Nat.{le_trans}
use Rattle.aat_read_machine.specs.StateArray.{StateArray, has_index}
use Rattle.aat_read_machine.proofs.Counting.{all_indexed, count_high, count_low, first_missing}
use Rattle.aat_read_machine.proofs.Walks.{index_before, row_small, row_within}
use Rattle.aat_read_machine.proofs.state_array.StateArray.states.Goals as goal

pub loop-state-init : goal.loop-state-init
loop-state-init c = record {
  walk = record {
    low = omega arith;
    high = count_low c.args.self.now;
    named = λ cell below. absurd (omega arith);
    reached = λ cell below. absurd (omega arith);
    few = omega arith;
    passed = λ index below. absurd (omega arith);
    within = omega arith;
  };
  indexed = λ cell below. absurd (omega arith);
  within = omega arith;
}

pub overflow_mul-row : goal.overflow_mul-row
overflow_mul-row c =
    let small = row_small c.args.self.now c.loop-state.state c.loop-state.walk.count c.self.inside.class_count c.loop-state.invariant.walk.high (omega arith) c.loop-state-test.true in
    omega (arith, small)

pub overflow_add-row : goal.overflow_add-row
overflow_add-row c =
    let small = row_small c.args.self.now c.loop-state.state c.loop-state.walk.count c.self.inside.class_count c.loop-state.invariant.walk.high (omega arith) c.loop-state-test.true in
    omega (arith, small)

pub has_index-requires : goal.has_index-requires
has_index-requires c =
    let small = row_small c.args.self.now c.loop-state.state c.loop-state.walk.count c.self.inside.class_count c.loop-state.invariant.walk.high (omega arith) c.loop-state-test.true in
    omega (arith, small)

pub missing_from-requires-clause-small : goal.missing_from-requires-clause-small
missing_from-requires-clause-small c =
    let small = row_small c.args.self.now c.loop-state.state c.loop-state.walk.count c.self.inside.class_count c.loop-state.invariant.walk.high (omega arith) c.loop-state-test.true in
    let width = ap (λ (m : StateArray). m.class_count) c.self.view_is in
    omega (arith, small, width)

pub row_fault-requires : goal.row_fault-requires
row_fault-requires c =
    let small = row_small c.args.self.now c.loop-state.state c.loop-state.walk.count c.self.inside.class_count c.loop-state.invariant.walk.high (omega arith) c.loop-state-test.true in
    let width = ap (λ (m : StateArray). m.class_count) c.self.view_is in
    omega (arith, small, width, c.missing_from.ensures.within)

pub returns-then-not-has_index-clause-states : goal.returns-then-not-has_index-clause-states
returns-then-not-has_index-clause-states c =
    let m = c.args.self.now in
    let state = c.loop-state.state in
    let count = c.loop-state.walk.count in
    let width = ap (λ (m : StateArray). m.class_count) c.self.view_is in
    let row = ap (λ n. state * n) width in
    let end = row_within state count m.class_count c.loop-state-test.true in
    let below : c.missing_from.result < count * m.class_count = omega (arith, row, end, c.missing_from.ensures.within) in
    first_missing m count c.missing_from.result c.loop-state.invariant.walk.high below c.missing_from.ensures.before c.missing_from.ensures.missing
    ∙ sym (ap Err c.row_fault.ensures)

pub walk_row-walk-requires-clause-small : goal.walk_row-walk-requires-clause-small
walk_row-walk-requires-clause-small c =
    let small = row_small c.args.self.now c.loop-state.state c.loop-state.walk.count c.self.inside.class_count c.loop-state.invariant.walk.high (omega arith) c.loop-state-test.true in
    let width = ap (λ (m : StateArray). m.class_count) c.self.view_is in
    omega (arith, small, width)

pub walk_row-walk-requires-clause-indexed : goal.walk_row-walk-requires-clause-indexed
walk_row-walk-requires-clause-indexed c =
    let m = c.args.self.now in
    let last = c.loop-state.state * c.self.inside.class_count + c.self.inside.class_count - 1 in
    let width = ap (λ (m : StateArray). m.class_count) c.self.view_is in
    let there : has_index m last ≡ true = search rules in
    λ cell below. index_before m cell last (omega (arith, width, below)) there

pub loop-state-smaller : goal.loop-state-smaller
loop-state-smaller c =
    let high = le_trans c.loop-state.invariant.walk.high (count_high c.args.self.now) in
    omega (arith, high, c.loop-state-test.true)

pub loop-state-preserved : goal.loop-state-preserved
loop-state-preserved c =
    let m = c.args.self.now in
    let state = c.loop-state.state in
    let last = state * c.self.inside.class_count + c.self.inside.class_count - 1 in
    let width = ap (λ (m : StateArray). m.class_count) c.self.view_is in
    let row = ap (λ n. state * n) width in
    let same : (state + 1) * m.class_count ≡ state * c.self.inside.class_count + m.class_count = omega (arith, row) in
    let there : has_index m last ≡ true = search rules in
    record {
      walk = rw same c.walk_row-walk.ensures.walk;
      indexed = λ cell below. index_before m cell last (omega (arith, same, width, below)) there;
      within = omega (arith, c.loop-state-test.true, c.walk_row-walk.ensures.rises);
    }

pub returns-clause-states : goal.returns-clause-states
returns-clause-states c =
    let m = c.args.self.now in
    let count = c.loop-state.walk.count in
    let same : count ≡ c.loop-state.state = omega (arith, c.loop-state-test.false, c.loop-state.invariant.within) in
    let cells : count * m.class_count ≡ c.loop-state.state * m.class_count = ap (λ n. n * m.class_count) same in
    let walk = c.loop-state.invariant.walk in
    all_indexed m count walk.low walk.high (λ cell below. walk.named cell (omega (arith, cells, below))) (λ cell below. c.loop-state.invariant.indexed cell (omega (arith, cells, below)))

pub returns-clause-few : goal.returns-clause-few
returns-clause-few c = le_trans c.loop-state.invariant.walk.high (count_high c.args.self.now)
