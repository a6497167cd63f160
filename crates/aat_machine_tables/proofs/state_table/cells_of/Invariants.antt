use Rattle.std.proofs.Common.{◌≡◌, ℕ, ◌+◌, ◌*◌, ◌<◌, length, get_or}
use Rattle.aat_machine_tables.specs.declared.judged.JudgedEntry.TheVariants.{Missing}
use Rattle.aat_machine_tables.specs.inside.Grid.{judged_rule}
use Rattle.aat_machine_tables.proofs.state_table.cells_of.Given as goal

abbrev pub invariant-loop-state : goal.invariant-loop-state
invariant-loop-state g l = record {
  long : length l.cells.items ≡ l.state * l.fn.class_count;
  entries : (s k : ℕ) → s < l.state → k < l.fn.class_count → get_or l.cells.items (s * l.fn.class_count + k) Missing ≡ judged_rule g.T.Acting.may_act l.fn.rules s k;
}
