use Rattle.std.proofs.Common.{◌≡◌, drop}
use Rattle.aat_write_machine.specs.MorxBytes.{each_written, subtable_content}
use Rattle.aat_write_machine.proofs.EachWritten.{behind}
use Rattle.aat_write_machine.proofs.morx.subtable_contents.Given as goal

abbrev pub invariant-loop-subtable : goal.invariant-loop-subtable
invariant-loop-subtable l =
    each_written subtable_content l.subtables ≡ behind subtable_content l.contents.items (drop l.subtable-index l.subtables)
