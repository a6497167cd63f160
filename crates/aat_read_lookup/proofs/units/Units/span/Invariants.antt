use Rattle.std.proofs.Common.{◌≤◌}
use Rattle.aat_read_lookup.proofs.Spans.{HasEnds, pairs_to}
use Rattle.aat_read_lookup.proofs.units.Units.span.Given as goal

abbrev pub invariant-loop-i : goal.invariant-loop-i
invariant-loop-i l = HasEnds (pairs_to l.bytes l.self l.i) l.ends × (l.ends.1 ≤ 65536)
