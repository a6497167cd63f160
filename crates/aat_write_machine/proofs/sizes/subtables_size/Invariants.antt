use Rattle.std.proofs.Common.{◌≡◌, ◌^◌, take}
use Rattle.std.specs.Prelude.{min, sum_by}
use Rattle.aat_write_machine.specs.ChainBytes.{subtable_size}
use Rattle.aat_write_machine.proofs.sizes.subtables_size.Given as goal

abbrev pub invariant-loop-subtable : goal.invariant-loop-subtable
invariant-loop-subtable l = l.size ≡ min (sum_by subtable_size (take l.subtable-index l.subtables)) (2 ^ 32)
