use Rattle.std.proofs.Common.{◌≡◌}
use Rattle.aat_read_machine.specs.inside.OfRows.{entries_of}
use Rattle.aat_read_machine.proofs.state_array.StateArray.entries.Given as goal

abbrev pub invariant-loop-index : goal.invariant-loop-index
invariant-loop-index g l = l.entries.items ≡ entries_of g.T.EntryRead.extra_at l.self l.index
