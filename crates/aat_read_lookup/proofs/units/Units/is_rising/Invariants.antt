use Rattle.std.proofs.Common.{◌≤◌}
use Rattle.aat_read_lookup.specs.inside.Sound.{RiseTo}
use Rattle.aat_read_lookup.proofs.units.Units.is_rising.Given as goal

abbrev pub invariant-loop-i : goal.invariant-loop-i
invariant-loop-i l = RiseTo l.bytes l.self l.i l.end × (l.end ≤ 65536)
