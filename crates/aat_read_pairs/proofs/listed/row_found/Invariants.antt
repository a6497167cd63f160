use Rattle.std.proofs.Common.{◌-◌}
use Rattle.aat_bytes.specs.facts.Bisections.{GoesOn}
use Rattle.aat_read_pairs.specs.ListedPairs.{key_at}
use Rattle.aat_read_pairs.proofs.listed.row_found.Given as goal

abbrev pub invariant-loop-from : goal.invariant-loop-from
invariant-loop-from l = GoesOn (key_at l.bytes l.place) (key_at l.bytes l.place) l.count l.key l.from l.to

abbrev pub decreases-loop-from : goal.decreases-loop-from
decreases-loop-from l = l.to - l.from
