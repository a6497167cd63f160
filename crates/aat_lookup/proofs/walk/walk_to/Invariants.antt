use Rattle.aat_lookup.specs.inside.Walks.{AreBelow}
use Rattle.aat_lookup.proofs.walk.walk_to.Given as goal

abbrev pub invariant-loop-place : goal.invariant-loop-place
invariant-loop-place g l = AreBelow g.R.Keyed.key_of l.rows l.place l.key
