use Rattle.std.proofs.Common.{◌≡◌, ◌++◌, drop, take}
use Rattle.aat_showing.specs.Columns.{in_columns}
use Rattle.aat_showing.specs.FaceMetrics.{column_metrics}
use Rattle.aat_showing.proofs.columns.set_in_columns.Given as goal

-- the glyphs before this one are done, and those from it on are still to be
abbrev pub invariant-loop-i : goal.invariant-loop-i
invariant-loop-i l = l.glyphs ≡ in_columns (column_metrics l.face) (take l.i l.initial.glyphs) ++ drop l.i l.initial.glyphs
