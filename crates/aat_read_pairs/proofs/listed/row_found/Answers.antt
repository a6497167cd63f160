use Rattle.std.proofs.Common.{arith}
use Rattle.aat_bytes.specs.facts.Bisections.{begins, ended, on_above, on_below}
use Rattle.aat_read_pairs.specs.ListedPairs.{key_at}
use Rattle.aat_read_pairs.proofs.listed.row_found.Goals as goal

pub loop-from-init : goal.loop-from-init
loop-from-init c =
    let key = key_at c.args.bytes.now c.args.place in begins key key c.args.count c.args.key

pub loop-from-preserved-then-key-found : goal.loop-from-preserved-then-key-found
loop-from-preserved-then-key-found c =
    let key = key_at c.args.bytes.now c.args.place in
    on_below key key c.args.count c.args.key c.loop-from.from c.loop-from.to c.loop-from.invariant c.loop-from-test.true
    (omega (arith, c.key_at-found.ensures))

pub loop-from-preserved : goal.loop-from-preserved
loop-from-preserved c =
    let key = key_at c.args.bytes.now c.args.place in
    on_above key key c.args.count c.args.key c.loop-from.from c.loop-from.to c.loop-from.invariant c.loop-from-test.true
    (omega (arith, c.key_at-found.ensures)) (omega (arith, c.key_at-found.ensures))

pub returns-else-found-key : goal.returns-else-found-key
returns-else-found-key c =
    let key = key_at c.args.bytes.now c.args.place in
    ended key key c.args.count c.args.key c.loop-from.from c.loop-from.to c.loop-from.invariant c.loop-from-test.true
    (omega (arith, c.key_at-found.ensures)) (omega (arith, c.key_at-found.ensures))
