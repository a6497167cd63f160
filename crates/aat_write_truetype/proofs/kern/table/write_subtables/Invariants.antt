use Rattle.std.proofs.Common.{◌≡◌, drop}
use Rattle.aat_write_truetype.specs.kern.KernBytes.{subtables_written}
use Rattle.aat_write_truetype.proofs.kern.EachWritten.{behind}
use Rattle.aat_write_truetype.proofs.kern.table.write_subtables.Given as goal

abbrev pub invariant-loop-subtable : goal.invariant-loop-subtable
invariant-loop-subtable l =
    subtables_written l.subtables ≡ behind l.out.items (subtables_written (drop l.subtable-index l.subtables))
