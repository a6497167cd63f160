use Rattle.std.proofs.Common.{◌≡◌, ◌-◌, find}
use Rattle.std.specs.List.{range_with_len}
use Rattle.std.specs.Prelude.{nat_lt}
use Rattle.aat_write_machine.specs.MachineRefusals.{highest_named, not_named}
use Rattle.aat_write_machine.proofs.refusals.not_named.Given as goal

abbrev pub invariant-loop-state : goal.invariant-loop-state
invariant-loop-state g l = record {
  found : find (λ state. nat_lt (highest_named l.class_count l.rules state) state) (range_with_len l.state (l.states - l.state))
      ≡ not_named l.class_count l.rules;
  highest : l.highest ≡ highest_named l.class_count l.rules (l.state - 1);
}
