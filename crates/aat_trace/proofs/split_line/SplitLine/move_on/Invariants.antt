use Rattle.std.proofs.Common.{◌≡◌}
use Rattle.aat_trace.specs.inside.Split.{line_of}
use Rattle.aat_trace.proofs.split_line.SplitLine.move_on.Given as goal

abbrev pub invariant-loop-id : goal.invariant-loop-id
invariant-loop-id l = line_of l.self ≡ line_of l.fn.self
