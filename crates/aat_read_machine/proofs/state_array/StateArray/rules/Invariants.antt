use Rattle.std.proofs.Common.{◌≡◌, ◌+◌, ◌*◌, ◌<◌}
use Rattle.aat_read_machine.specs.StateArray.{rules_of}
use Rattle.aat_read_machine.proofs.state_array.StateArray.rules.Given as goal

abbrev pub invariant-loop-cell : goal.invariant-loop-cell
invariant-loop-cell g l = record {
  rules : l.rules.items ≡ rules_of g.T.EntryRead.extra_at l.self l.cell;
  place : l.state * l.self.class_count + l.class ≡ l.cell;
  class : l.class < l.self.class_count;
}
