use Rattle.std.proofs.Common.{◌≡◌, ◌-◌, drop}
use Rattle.aat_read_outlines.specs.Composites.{drawn_at, drawn_with}
use Rattle.aat_read_outlines.proofs.composites.+drawn_at.Given as goal

abbrev pub decreases-drawn_at : goal.decreases-drawn_at
decreases-drawn_at g l = l.depth

abbrev pub invariant-loop-component : goal.invariant-loop-component
invariant-loop-component g l =
    drawn_with (drawn_at l.tables (l.depth - 1)) (drop l.component-index l.component-items) (record {
      outline = l.outline;
      left = l.unused;
    })
    ≡ drawn_at l.tables l.depth l.left l.glyph
