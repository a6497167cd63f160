use Rattle.std.proofs.Common.{◌≡◌, ◌-◌, ◌≤◌, List, length}
use Rattle.std.specs.List.{filter_map}
use Rattle.aat_read_kern.specs.Kern.{KernStart, kerning_of, left_out_of, subtable_at, subtables_of}
use Rattle.aat_read_kern.specs.declared.subtables.SubtableRead.{SubtableRead}
use Rattle.aat_read_machine.specs.facts.Turns.{behind}
use Rattle.aat_read_kern.proofs.kern.subtables.Given as goal

abbrev pub invariant-loop-number : goal.invariant-loop-number
invariant-loop-number l =
    let start : KernStart = record { place = l.place; left = l.list.count - l.number } in
    (reads : List SubtableRead)
    × (subtables_of l.bytes l.list ≡ behind (subtable_at l.bytes l.list) l.list.count reads l.number start)
    × (l.kerning.items ≡ filter_map kerning_of reads)
    × (l.left_out.items ≡ filter_map left_out_of reads)
    × (length reads ≤ l.number)
    × (l.place ≤ length l.bytes)
