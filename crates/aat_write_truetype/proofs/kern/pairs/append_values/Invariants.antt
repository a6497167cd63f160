use Rattle.std.proofs.Common.{◌≡◌, ◌++◌, map, take}
use Rattle.aat_write_machine.specs.Words.{word_bytes}
use Rattle.aat_write_truetype.specs.kern.PairBytes.{value_word}
use Rattle.aat_write_truetype.proofs.kern.pairs.append_values.Given as goal

abbrev pub invariant-loop-value : goal.invariant-loop-value
invariant-loop-value l = l.out.items ≡ l.fn.out.items ++ word_bytes (map value_word (take l.value-index l.values))
