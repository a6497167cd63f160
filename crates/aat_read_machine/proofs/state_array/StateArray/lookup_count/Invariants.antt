use Rattle.std.proofs.Common.{◌≡◌, ◌≤◌}
use Rattle.aat_read_machine.specs.Lookups.{lookup_count}
use Rattle.aat_read_machine.specs.inside.Passed.{AskFor}
use Rattle.aat_read_machine.proofs.state_array.StateArray.lookup_count.Given as goal

abbrev pub invariant-loop-cell : goal.invariant-loop-cell
invariant-loop-cell l = record {
  count : l.count ≡ lookup_count l.self l.cell;
  few : l.count ≤ 65535;
  passed : AskFor l.self l.passed l.count;
}
