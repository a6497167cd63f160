use Rattle.std.proofs.Common.{◌≡◌, ◌++◌, Bool, drop, take}
use Rattle.std.specs.List.{scan}
use Rattle.aat_shaped_text.specs.declared.text.ShapedGlyph.{ShapedGlyph}
use Rattle.aat_showing.specs.MarkBoxes.{begins_run, held, held_runs}
use Rattle.aat_showing.proofs.mark_boxes.hold_runs.Given as goal

-- the glyphs before this one are held, and those from it on are still to be
abbrev pub invariant-loop-i : goal.invariant-loop-i
invariant-loop-i l =
    take l.i l.glyphs ++ scan (λ (begun : Bool) (g : ShapedGlyph). begins_run g) (held l.direction) l.begun (drop l.i l.glyphs)
    ≡ held_runs l.direction l.initial.glyphs
