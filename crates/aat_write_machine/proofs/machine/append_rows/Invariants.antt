use Rattle.std.proofs.Common.{◌≡◌, ◌++◌}
use Rattle.std.specs.List.{range_with_len}
use Rattle.aat_write_machine.specs.Words.{word_bytes}
use Rattle.aat_write_machine.proofs.machine.append_rows.Given as goal

abbrev pub invariant-loop-cell : goal.invariant-loop-cell
invariant-loop-cell g l = l.out.items ≡ l.fn.out.items ++ word_bytes (range_with_len 0 l.cell)
