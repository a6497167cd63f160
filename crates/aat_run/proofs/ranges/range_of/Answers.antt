use Rattle.std.proofs.Common.{length, arith}
use Rattle.aat_run.proofs.Bisected.{are_some, at_start, behind_middle, is_held, up_to_middle}
use Rattle.aat_run.proofs.Digits.{at_most}
use Rattle.aat_run.proofs.ranges.range_of.Goals as goal

pub overflow_sub-high : goal.overflow_sub-high
overflow_sub-high c = omega (arith, are_some c.args.ranges.now c.requires.whole)

pub loop-low-init : goal.loop-low-init
loop-low-init c = at_start c.args.ranges.now c.args.cluster c.requires.gapless c.requires.whole (omega arith)

pub overflow_add-probes : goal.overflow_add-probes
overflow_add-probes c = omega (arith, c.loop-low.invariant.few, at_most 64 (length c.args.ranges.now) (omega arith))

pub loop-low-preserved-then-last-cluster : goal.loop-low-preserved-then-last-cluster
loop-low-preserved-then-last-cluster c =
    let low = c.loop-low.low in
    let high = c.loop-low.high in
    behind_middle c.args.ranges.now c.args.cluster c.loop-low.probes low high _ c.requires.gapless c.loop-low.invariant c.loop-low-test.true (omega arith) c.if-last-cluster.true

pub loop-low-preserved : goal.loop-low-preserved
loop-low-preserved c =
    let low = c.loop-low.low in
    let high = c.loop-low.high in
    up_to_middle c.args.ranges.now c.args.cluster c.loop-low.probes low high _ c.loop-low.invariant c.loop-low-test.true (omega arith) c.if-last-cluster.false

pub returns-clause-place : goal.returns-clause-place
returns-clause-place c =
    is_held c.args.ranges.now c.args.cluster c.loop-low.probes c.loop-low.low c.loop-low.high c.loop-low.invariant c.loop-low-test.false
