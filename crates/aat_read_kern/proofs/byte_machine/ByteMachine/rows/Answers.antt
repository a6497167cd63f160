use Rattle.std.proofs.Common.{◌≡◌, ◌+◌, ◌-◌, false, sym, ap, ◌∙◌}
use Rattle.aat_read_kern.specs.ByteStates.{are_closed, closed_rows, rows_of}
use Rattle.aat_read_kern.proofs.Closing.{closed_by, goes_on, is_done, open_before, open_behind, stops}
use Rattle.aat_read_kern.proofs.byte_machine.ByteMachine.rows.Goals as goal
use Rattle.aat_read_kern.proofs.byte_machine.ByteMachine.rows.Goals.{else-rows-next-via-then-rows-next+else-rows-next-2, else-rows-next-via-else-rows-next}

pub returns-then-rows-next-2-clause-is : goal.returns-then-rows-next-2-clause-is
unfolding rows_of
returns-then-rows-next-2-clause-is c =
    let closed = closed_by c.args.bytes.now c.args.self c.loop.rows c.with_all_named-next.result c.with_all_named-next.ensures.is c.if-rows-next.true c.if-rows-next-2.true in
    sym (stops c.args.bytes.now c.args.self 65536 c.loop.counter c.loop.rows c.loop-test.true closed) ∙ c.loop.invariant.left

pub loop-preserved : goal.loop-preserved
loop-preserved c =
    let unclosed : are_closed c.args.bytes.now c.args.self c.loop.rows ≡ false = elim c.else-rows-next.branch [
      | else-rows-next-via-then-rows-next+else-rows-next-2 w ↦ open_before c.args.bytes.now c.args.self c.loop.rows c.with_all_named-next.result c.with_all_named-next.ensures.is w.if-rows-next-2.false
      | else-rows-next-via-else-rows-next w ↦ open_behind c.args.bytes.now c.args.self c.loop.rows c.with_all_named-next.result c.with_all_named-next.ensures.is w.if-rows-next.false
    ] in
    record {
      left =
          ap (closed_rows c.args.bytes.now c.args.self (65536 - (c.loop.counter + 1))) c.with_all_named-next.ensures.is
          ∙ sym (goes_on c.args.bytes.now c.args.self 65536 c.loop.counter c.loop.rows c.loop-test.true unclosed)
          ∙ c.loop.invariant.left;
      near = c.with_all_named-next.ensures.near;
    }

pub returns-clause-is : goal.returns-clause-is
unfolding rows_of
returns-clause-is c =
    sym (is_done c.args.bytes.now c.args.self 65536 c.loop.counter c.loop.rows c.loop-test.false) ∙ c.loop.invariant.left
