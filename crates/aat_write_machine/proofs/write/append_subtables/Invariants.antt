use Rattle.std.proofs.Common.{◌≡◌, ◌++◌, take}
use Rattle.std.specs.List.{flat_map}
use Rattle.aat_write_machine.specs.ChainBytes.{subtable_bytes}
use Rattle.aat_write_machine.proofs.write.append_subtables.Given as goal

abbrev pub invariant-loop-subtable : goal.invariant-loop-subtable
invariant-loop-subtable l = l.out.items ≡ l.fn.out.items ++ flat_map subtable_bytes (take l.subtable-index l.subtables)
