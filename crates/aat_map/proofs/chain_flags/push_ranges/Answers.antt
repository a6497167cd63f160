use Rattle.std.proofs.Common.{arith, map, take}
use Rattle.aat_map.specs.Compiled.{compiled_range}
use Rattle.aat_map.proofs.CompileLemmas.{length-with_ranges, pushed_follows, pushed_more}
use Rattle.aat_map.proofs.chain_flags.push_ranges.Goals as goal

pub push-requires-clause-exists : goal.push-requires-clause-exists
push-requires-clause-exists g c =
    let f = compiled_range c.args.builder.now in
    let n = length-with_ranges (map f (take c.loop-i.i c.args.chains.now)) c.args.map.now in
    rw c.loop-i.invariant (omega (arith, n, c.requires.lists))

pub push-requires-clause-follows : goal.push-requires-clause-follows
push-requires-clause-follows g c =
    let i = c.loop-i.i in
    pushed_follows (compiled_range c.args.builder.now) c.args.chains.now c.args.map.now c.loop-i.map i c.index-chains-i.result c.compiled_range.result
    c.loop-i-test.true c.loop-i.invariant c.compiled_range.ensures.range (c.requires.follows i c.loop-i-test.true)

pub loop-i-preserved : goal.loop-i-preserved
loop-i-preserved g c =
    pushed_more (compiled_range c.args.builder.now) c.args.chains.now c.args.map.now c.loop-i.map c.push.new.self c.loop-i.i c.index-chains-i.result c.compiled_range.result
    c.loop-i-test.true c.requires.lists c.index-chains-i.is c.loop-i.invariant c.compiled_range.ensures.range c.in_ok-push.ensures.ok
