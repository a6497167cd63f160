use Rattle.std.proofs.Common.{◌≡◌, ◌++◌}
use Rattle.std.specs.List.{flat_map, range_with_len}
use Rattle.aat_write_sfnt.specs.TrakBytes.{entry_of}
use Rattle.aat_write_machine.specs.Words.{word_bytes}
use Rattle.aat_write_sfnt.proofs.trak.append_entries.Given as goal

abbrev pub invariant-loop-k : goal.invariant-loop-k
invariant-loop-k g l =
    l.out.items ≡ l.fn.out.items ++ word_bytes (flat_map (entry_of l.at l.table) (range_with_len 0 l.k))
