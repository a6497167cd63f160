use Rattle.std.proofs.Common.{◌≡◌, ◌++◌, take}
use Rattle.aat_write_machine.specs.Words.{long_bytes}
use Rattle.aat_write_machine.proofs.words.append_longs.Given as goal

abbrev pub invariant-loop-long : goal.invariant-loop-long
invariant-loop-long g l = l.out.items ≡ l.fn.out.items ++ long_bytes (take l.long-index l.longs)
