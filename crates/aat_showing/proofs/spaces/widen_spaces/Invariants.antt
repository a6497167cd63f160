use Rattle.std.proofs.Common.{◌≡◌, ◌++◌, drop, take}
use Rattle.aat_showing.specs.FaceMetrics.{space_metrics}
use Rattle.aat_showing.specs.Spaces.{widen_spaces}
use Rattle.aat_showing.proofs.spaces.widen_spaces.Given as goal

-- the glyphs before this one are done, and those from it on are still to be
abbrev pub invariant-loop-i : goal.invariant-loop-i
invariant-loop-i l = l.glyphs ≡ widen_spaces (space_metrics l.face l.direction) (take l.i l.initial.glyphs) ++ drop l.i l.initial.glyphs
