use Rattle.std.proofs.Common.{◌≡◌, ◌++◌, take}
use Rattle.aat_write_machine.specs.Words.{word_bytes}
use Rattle.aat_write_machine.proofs.words.append_words.Given as goal

abbrev pub invariant-loop-word : goal.invariant-loop-word
invariant-loop-word g l = l.out.items ≡ l.fn.out.items ++ word_bytes (take l.word-index l.words)
