use Rattle.std.proofs.Common.{◌≡◌, ◌≤◌, List, length}
use Rattle.std.specs.List.{filter_map}
use Rattle.aat_read_machine.specs.InTurn.{in_turn}
use Rattle.aat_read_machine.specs.facts.Turns.{behind}
use Rattle.aat_read_extended.specs.kerx.KerxSubtables.{KerxStart, subtable_at}
use Rattle.aat_read_extended.specs.kerx.KerxTables.{first_subtable, kerning_of, left_out_of}
use Rattle.aat_read_extended.specs.declared.kerx.subtables.SubtableRead.{SubtableRead}
use Rattle.aat_read_extended.proofs.kerx.table.subtables.Given as goal

abbrev pub invariant-loop-number : goal.invariant-loop-number
invariant-loop-number l =
    let start : KerxStart = record { place = l.place; number = l.number } in
    (reads : List SubtableRead)
    × (in_turn (subtable_at l.bytes l.glyph_count l.count) l.count first_subtable
    ≡ behind (subtable_at l.bytes l.glyph_count l.count) l.count reads l.number start)
    × (l.kerning.items ≡ filter_map kerning_of reads)
    × (l.left_out.items ≡ filter_map left_out_of reads)
    × (length reads ≤ l.number)
    × (l.place ≤ length l.bytes)
