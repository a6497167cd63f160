use Rattle.std.proofs.Common.{◌-◌}
use Rattle.aat_bytes.specs.facts.Bisections.{GoesOn}
use Rattle.aat_read_lookup.specs.Features.{kind_at}
use Rattle.aat_read_lookup.proofs.feat.row_found.Given as goal

abbrev pub invariant-loop-from : goal.invariant-loop-from
invariant-loop-from l = GoesOn (kind_at l.bytes) (kind_at l.bytes) l.count l.kind l.from l.to

abbrev pub decreases-loop-from : goal.decreases-loop-from
decreases-loop-from l = l.to - l.from
