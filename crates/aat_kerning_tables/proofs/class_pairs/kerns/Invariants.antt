use Rattle.std.proofs.Common.{◌≡◌, ℕ, ◌<◌, pos}
use Rattle.aat_kerning_tables.specs.Classes.{value_of_classes}
use Rattle.aat_kerning_tables.proofs.class_pairs.kerns.Given as goal

abbrev pub invariant-loop-right : goal.invariant-loop-right
invariant-loop-right l =
    (right : ℕ) → right < l.right → value_of_classes l.fn.values l.fn.right_count l.fn.left right ≡ pos 0
