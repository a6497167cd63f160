use Rattle.std.proofs.Common.{arith, map, take, slice_index_or}
use Rattle.std.proofs.lemmas.List.{get_or_default}
use Rattle.aat_run.specs.Ranges.{range}
use Rattle.aat_map.proofs.CompileLemmas.{length-with_ranges, pushed_follows, pushed_more}
use Rattle.aat_map.proofs.remembered.push_flags.Goals as goal

pub push-requires-clause-exists : goal.push-requires-clause-exists
push-requires-clause-exists g c =
    let n = length-with_ranges (map (range c.args.span.0 c.args.span.1) (take c.loop-i.i c.args.flags.now)) c.args.map.now in
    rw c.loop-i.invariant (omega (arith, n, c.requires.lists))

pub push-requires-clause-follows : goal.push-requires-clause-follows
push-requires-clause-follows g c =
    let i = c.loop-i.i in
    pushed_follows (range c.args.span.0 c.args.span.1) c.args.flags.now c.args.map.now c.loop-i.map i (slice_index_or c.args.flags.now i 0) c.range_of_span.result
    c.loop-i-test.true c.loop-i.invariant c.range_of_span.ensures (c.requires.follows i c.loop-i-test.true)

pub loop-i-preserved : goal.loop-i-preserved
loop-i-preserved g c =
    let flags = c.args.flags.now in
    let i = c.loop-i.i in
    let x = slice_index_or flags i 0 in
    pushed_more (range c.args.span.0 c.args.span.1) flags c.args.map.now c.loop-i.map c.push.new.self i x c.range_of_span.result
    c.loop-i-test.true c.requires.lists (get_or_default flags i 0 x c.loop-i-test.true) c.loop-i.invariant c.range_of_span.ensures c.in_ok-push.ensures.ok
