use Rattle.std.proofs.Common.{◌≡◌, length}
use Rattle.aat_cut_kinds.specs.inside.OpenRuns.{least_of}
use Rattle.aat_cut_kinds.proofs.kerning_stack.Places.drain.Given as goal

abbrev pub invariant-loop-place : goal.invariant-loop-place
invariant-loop-place l = least_of l.self l.least ≡ least_of l.fn.self l.most

abbrev pub decreases-loop-place : goal.decreases-loop-place
decreases-loop-place l = length l.self
