use Rattle.std.proofs.Common.{arith, add-one}
use Rattle.aat_map.proofs.SpanLemmas.{span_inner, span_last}
use Rattle.aat_map.proofs.compile.span_at.Goals as goal

pub returns-then-i-starts-clause-span : goal.returns-then-i-starts-clause-span
returns-then-i-starts-clause-span c =
    rw add-one (span_inner c.args.starts.now c.args.i (rw add-one at c.if-i-starts.true))

pub returns-else-i-starts-clause-span : goal.returns-else-i-starts-clause-span
returns-else-i-starts-clause-span c = span_last c.args.starts.now c.args.i (omega (arith, c.if-i-starts.false, c.requires.exists))
