use Rattle.std.proofs.Common.{◌≡◌, ◌++◌, take}
use Rattle.aat_write_kerx.specs.PairBytes.{value_bytes}
use Rattle.aat_write_kerx.proofs.values.append_values.Given as goal

abbrev pub invariant-loop-value : goal.invariant-loop-value
invariant-loop-value l = l.out.items ≡ l.fn.out.items ++ value_bytes (take l.value-index l.values)
