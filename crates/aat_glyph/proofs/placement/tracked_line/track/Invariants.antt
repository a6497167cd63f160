use Rattle.std.proofs.Common.{◌≡◌, ◌++◌, drop, take}
use Rattle.aat_glyph.specs.placement.TrackedLines.{tracked, tracked_behind}
use Rattle.aat_glyph.proofs.placement.tracked_line.track.Given as goal

-- the glyphs before this one are tracked, and those from it on are still to be
abbrev pub invariant-loop-i : goal.invariant-loop-i
invariant-loop-i l =
    take l.i l.positions
    ++ tracked_behind l.last l.direction l.value (drop l.i l.clusters) (drop l.i l.positions)
    ≡ tracked l.direction l.value l.clusters l.initial.positions
