use Rattle.std.proofs.Common.{◌≡◌, ◌++◌, map, take}
use Rattle.aat_write_truetype.proofs.kern.machine.append_classes.Given as goal

abbrev pub invariant-loop-class : goal.invariant-loop-class
invariant-loop-class l = l.out.items ≡ l.fn.out.items ++ map (λ class. class.1) (take l.class-index l.classes)
