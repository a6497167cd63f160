use Rattle.std.proofs.Common.{◌≡◌, ◌++◌, take}
use Rattle.std.specs.List.{flat_map}
use Rattle.aat_write_sfnt.specs.TrakBytes.{fixed_words}
use Rattle.aat_write_machine.specs.Words.{word_bytes}
use Rattle.aat_write_sfnt.proofs.trak.append_sizes.Given as goal

abbrev pub invariant-loop-size : goal.invariant-loop-size
invariant-loop-size g l =
    l.out.items ≡ l.fn.out.items ++ word_bytes (flat_map fixed_words (take l.size-index l.sizes))
