use Rattle.std.proofs.Common.{drop}
use Rattle.std.specs.Prelude.{◌↔◌}
use Rattle.aat_read_outlines.specs.Outlines.{Divides}
use Rattle.aat_read_outlines.proofs.outline.divides.Given as goal

abbrev pub invariant-loop-end : goal.invariant-loop-end
invariant-loop-end l = Divides 0 l.ends l.count ↔ Divides l.start (drop l.end-index l.ends) l.count
