use Rattle.std.proofs.Common.{arith}
use Rattle.aat_bytes.specs.facts.Bisections.{begins, ended, on_above, on_below}
use Rattle.aat_read_lookup.specs.Features.{kind_at}
use Rattle.aat_read_lookup.proofs.feat.row_found.Goals as goal

pub loop-from-init : goal.loop-from-init
loop-from-init c =
    let key = kind_at c.args.bytes.now in begins key key c.args.count c.args.kind

pub loop-from-preserved-then-kind-found : goal.loop-from-preserved-then-kind-found
loop-from-preserved-then-kind-found c =
    let key = kind_at c.args.bytes.now in
    on_below key key c.args.count c.args.kind c.loop-from.from c.loop-from.to c.loop-from.invariant c.loop-from-test.true
    (omega (arith, c.kind_at-found.ensures))

pub loop-from-preserved : goal.loop-from-preserved
loop-from-preserved c =
    let key = kind_at c.args.bytes.now in
    on_above key key c.args.count c.args.kind c.loop-from.from c.loop-from.to c.loop-from.invariant c.loop-from-test.true
    (omega (arith, c.kind_at-found.ensures)) (omega (arith, c.kind_at-found.ensures))

pub returns-else-found-kind-clause-is : goal.returns-else-found-kind-clause-is
returns-else-found-kind-clause-is c =
    let key = kind_at c.args.bytes.now in
    ended key key c.args.count c.args.kind c.loop-from.from c.loop-from.to c.loop-from.invariant c.loop-from-test.true
    (omega (arith, c.kind_at-found.ensures)) (omega (arith, c.kind_at-found.ensures))
