use Rattle.std.proofs.Common.{◌≡◌, map}
use Rattle.std.specs.List.{range_with_len}
use Rattle.aat_glyph.specs.placement.inside.Pens.{pen_at}
use Rattle.aat_glyph.proofs.placement.pens.pens_of.Given as goal

-- the pens before this glyph stand, and this one's is at hand
abbrev pub invariant-loop-position : goal.invariant-loop-position
invariant-loop-position g l =
    (l.pens.items ≡ map (pen_at l.positions) (range_with_len 0 l.position-index))
    × (l.pen ≡ pen_at l.positions l.position-index)
