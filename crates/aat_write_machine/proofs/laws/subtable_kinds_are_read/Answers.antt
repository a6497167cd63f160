use Rattle.aat_write_machine.proofs.KindsAgain.{subtable_kinds_are_read}
use Rattle.aat_write_machine.proofs.laws.subtable_kinds_are_read.Goals as goal

pub returns : goal.returns
returns c =
    subtable_kinds_are_read c.written_lookups_are_read.ensures c.machines_are_read.ensures c.contextuals_are_read.ensures
    c.ligatures_are_read.ensures c.insertions_are_read.ensures
