use Rattle.std.proofs.Common.{◌≤◌, ◌-◌}
use Rattle.aat_face.specs.inside.GlyphRows.{IsRow}
use Rattle.aat_face.proofs.characters.row_end.Given as goal

abbrev pub invariant-loop-end : goal.invariant-loop-end
invariant-loop-end l = (32 ≤ l.end) × (l.end ≤ 127) × IsRow l.map l.delta l.end

abbrev pub decreases-loop-end : goal.decreases-loop-end
decreases-loop-end l = 127 - l.end
