use Rattle.aat_cuts.specs.inside.Waiting.{AreLinks}
use Rattle.aat_cuts.proofs.links.links_of.Given as goal

abbrev pub invariant-loop-place : goal.invariant-loop-place
invariant-loop-place l = AreLinks l.edges l.place l.last.items l.before.items
