use Rattle.std.proofs.Common.{◌≡◌, ℕ, ◌+◌, ◌<◌, length, get_or}
use Rattle.aat_machine_tables.specs.declared.judged.JudgedEntry.TheVariants.{Missing}
use Rattle.aat_machine_tables.specs.inside.Grid.{judged_rule}
use Rattle.aat_machine_tables.proofs.state_table.append_row.Given as goal

abbrev pub invariant-loop-class : goal.invariant-loop-class
invariant-loop-class g l = record {
  long : length l.cells.items ≡ length l.fn.cells.items + l.class;
  kept : (k : ℕ) → k < length l.fn.cells.items → get_or l.cells.items k Missing ≡ get_or l.fn.cells.items k Missing;
  entries : (k : ℕ) → k < l.class → get_or l.cells.items (length l.fn.cells.items + k) Missing ≡ judged_rule g.T.Acting.may_act l.fn.rules l.fn.state k;
}
