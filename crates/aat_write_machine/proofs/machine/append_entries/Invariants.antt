use Rattle.std.proofs.Common.{◌≡◌, ◌++◌, take}
use Rattle.std.specs.List.{flat_map}
use Rattle.aat_write_machine.specs.Words.{word_bytes}
use Rattle.aat_write_machine.specs.EntryWords.{rule_words}
use Rattle.aat_write_machine.proofs.machine.append_entries.Given as goal

abbrev pub invariant-loop-rule : goal.invariant-loop-rule
invariant-loop-rule g l =
    l.out.items ≡ l.fn.out.items ++ word_bytes (flat_map (rule_words g.T.EntryWrite.words_of) (take l.rule-index l.rules))
