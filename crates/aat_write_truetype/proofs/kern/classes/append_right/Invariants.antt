use Rattle.std.proofs.Common.{◌≡◌, ◌++◌, map, take}
use Rattle.aat_write_machine.specs.Words.{word_bytes}
use Rattle.aat_write_truetype.specs.kern.ClassBytes.{right_word}
use Rattle.aat_write_truetype.proofs.kern.classes.append_right.Given as goal

abbrev pub invariant-loop-class : goal.invariant-loop-class
invariant-loop-class l =
    l.out.items ≡ l.initial.out.items ++ word_bytes (map (λ pair. right_word pair.1) (take l.class-index l.classes))
