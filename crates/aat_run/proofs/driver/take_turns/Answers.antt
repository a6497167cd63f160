use Rattle.std.proofs.Common.{arith}
use Rattle.aat_run.specs.Context.{machine_with}
use Rattle.aat_run.specs.Ranges.{is_driven_on}
use Rattle.aat_run.specs.facts.ThroughoutHolds.{driven_nowhere}
use Rattle.aat_run.proofs.Ran.{kept_past, ran_past, through_past}
use Rattle.aat_run.proofs.driver.take_turns.Goals as goal

pub returns-then-is_nowhere_on-clause-run : goal.returns-then-is_nowhere_on-clause-run
returns-then-is_nowhere_on-clause-run g c =
    let context = g.C.driver_context_t in
    let b = c.args.buffer.now in
    let m = machine_with (is_driven_on c.args.ranges.now c.args.feature_flags) c.args.machine.now context.advances context.actionable context.act in
    let off = driven_nowhere c.args.ranges.now c.args.feature_flags c.is_nowhere_on.result c.is_nowhere_on.ensures c.if-is_nowhere_on.true (omega (arith, c.if-ranges-gt1.true)) in
    ran_past m b c.args.context.now c.len.result off c.requires.front c.len.ensures.count

pub returns-then-is_nowhere_on-clause-registers : goal.returns-then-is_nowhere_on-clause-registers
returns-then-is_nowhere_on-clause-registers g c =
    let context = g.C.driver_context_t in
    let b = c.args.buffer.now in
    let m = machine_with (is_driven_on c.args.ranges.now c.args.feature_flags) c.args.machine.now context.advances context.actionable context.act in
    let off = driven_nowhere c.args.ranges.now c.args.feature_flags c.is_nowhere_on.result c.is_nowhere_on.ensures c.if-is_nowhere_on.true (omega (arith, c.if-ranges-gt1.true)) in
    kept_past m b c.args.context.now off c.requires.front

pub returns-then-is_nowhere_on-clause-through : goal.returns-then-is_nowhere_on-clause-through
returns-then-is_nowhere_on-clause-through g c =
    let context = g.C.driver_context_t in
    let b = c.args.buffer.now in
    let m = machine_with (is_driven_on c.args.ranges.now c.args.feature_flags) c.args.machine.now context.advances context.actionable context.act in
    let off = driven_nowhere c.args.ranges.now c.args.feature_flags c.is_nowhere_on.result c.is_nowhere_on.ensures c.if-is_nowhere_on.true (omega (arith, c.if-ranges-gt1.true)) in
    through_past m b c.args.context.now off c.requires.front

pub run_turns-requires-clause-others : goal.run_turns-requires-clause-others
run_turns-requires-clause-others g c = c.requires.others

pub run_turns-requires-clause-ids : goal.run_turns-requires-clause-ids
run_turns-requires-clause-ids g c = c.requires.ids

pub run_turns-requires-clause-fit : goal.run_turns-requires-clause-fit
run_turns-requires-clause-fit g c = rw c.requires.front c.requires.fit
