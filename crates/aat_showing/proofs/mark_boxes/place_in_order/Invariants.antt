use Rattle.std.proofs.Common.{◌≡◌, ◌++◌, drop, take}
use Rattle.std.specs.List.{scan}
use Rattle.aat_showing.specs.FaceMetrics.{mark_placing}
use Rattle.aat_showing.specs.MarkBoxes.{next_base, placed, placed_in_order}
use Rattle.aat_showing.specs.inside.KnownBases.{told_base}
use Rattle.aat_showing.proofs.mark_boxes.place_in_order.Given as goal

-- the glyphs before this one are placed, and those from it on are still to be
abbrev pub invariant-loop-i : goal.invariant-loop-i
invariant-loop-i l =
    take l.i l.glyphs
    ++ scan (next_base (mark_placing l.face l.direction l.moves)) (placed (mark_placing l.face l.direction l.moves))
    (told_base (mark_placing l.face l.direction l.moves) l.known) (drop l.i l.glyphs)
    ≡ placed_in_order (mark_placing l.face l.direction l.moves) l.initial.glyphs
