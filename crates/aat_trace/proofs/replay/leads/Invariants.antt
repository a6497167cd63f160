use Rattle.std.proofs.Common.{◌≡◌, Some, take}
use Rattle.aat_trace.specs.Replay.{replayed}
use Rattle.aat_trace.specs.inside.Split.{line_of}
use Rattle.aat_trace.proofs.replay.leads.Given as goal

abbrev pub invariant-loop-act : goal.invariant-loop-act
invariant-loop-act l = replayed (take l.act-index l.acts) l.fn.first.items ≡ Some (line_of l.line)
