use Rattle.std.proofs.Common.{◌≡◌}
use Rattle.std.specs.List.{flat_map, range_with_len}
use Rattle.aat_machine_tables.specs.Rows.{entry_of_cell, rule_of_cell}
use Rattle.aat_machine_tables.proofs.rows.rules_of_rows.Given as goal

abbrev pub invariant-loop-cell : goal.invariant-loop-cell
invariant-loop-cell g l = l.rules.items ≡ flat_map (λ cell. rule_of_cell l.fn.class_count cell (entry_of_cell l.fn.entries l.fn.rows cell)) (range_with_len 0 l.cell)
