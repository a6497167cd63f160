use Rattle.std.proofs.Common.{◌≡◌, ◌++◌, take}
use Rattle.std.specs.List.{flat_map}
use Rattle.aat_write_machine.specs.Words.{word_bytes}
use Rattle.aat_write_kerx.specs.PairBytes.{kerning_words}
use Rattle.aat_write_kerx.proofs.pairs.append_pairs.Given as goal

abbrev pub invariant-loop-pair : goal.invariant-loop-pair
invariant-loop-pair l =
    l.out.items ≡ l.fn.out.items ++ word_bytes (flat_map kerning_words (take l.pair-index l.pairs))
