use Rattle.std.proofs.Common.{◌≡◌, ◌^◌, take}
use Rattle.std.specs.Prelude.{min}
use Rattle.aat_write_kerx.specs.KerxBytes.{table_size}
use Rattle.aat_write_kerx.proofs.kerx.table_size.Given as goal

abbrev pub invariant-loop-subtable : goal.invariant-loop-subtable
invariant-loop-subtable l = l.size ≡ min (table_size (take l.subtable-index l.subtables)) (2 ^ 32)
