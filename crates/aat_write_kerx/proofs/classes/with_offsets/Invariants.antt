use Rattle.std.proofs.Common.{◌≡◌, map, take}
use Rattle.aat_write_kerx.specs.PairBytes.{with_offset}
use Rattle.aat_write_kerx.proofs.classes.with_offsets.Given as goal

abbrev pub invariant-loop-pair : goal.invariant-loop-pair
invariant-loop-pair l = l.rows.items ≡ map (with_offset l.width) (take l.pair-index l.pairs)
