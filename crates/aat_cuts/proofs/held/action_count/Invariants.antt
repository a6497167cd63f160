use Rattle.std.proofs.Common.{◌≡◌, ◌+◌, ◌≤◌, drop}
use Rattle.aat_cuts.specs.Held.{action_count}
use Rattle.aat_cuts.proofs.held.action_count.Given as goal

abbrev pub invariant-loop-action : goal.invariant-loop-action
invariant-loop-action l = record {
  count : l.count ≡ l.action-index + 1;
  few : l.count ≤ 66;
  rest : action_count l.actions ≡ l.action-index + action_count (drop l.action-index l.actions);
}
