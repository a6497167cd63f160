use Rattle.std.proofs.Common.{◌≡◌, ◌++◌, take}
use Rattle.std.specs.List.{flat_map}
use Rattle.aat_write_machine.specs.Words.{word_bytes}
use Rattle.aat_write_truetype.specs.kern.MachineBytes.{entry_words}
use Rattle.aat_write_truetype.proofs.kern.machine.append_entries.Given as goal

abbrev pub invariant-loop-rule : goal.invariant-loop-rule
invariant-loop-rule l =
    l.out.items
    ≡ l.fn.out.items ++ word_bytes (flat_map (entry_words l.offsets.width l.offsets.rows l.offsets.values) (take l.rule-index l.rules))
