use Rattle.std.proofs.Common.{◌-◌}
use Rattle.aat_bytes.specs.Numbers.{be16}
use Rattle.aat_bytes.specs.facts.Bisections.{GoesOn}
use Rattle.aat_read_sfnt.specs.VerticalOrigins.{origin_glyph}
use Rattle.aat_read_sfnt.proofs.vertical_origins.row_of.Given as goal

abbrev pub invariant-loop-from : goal.invariant-loop-from
invariant-loop-from l = GoesOn (origin_glyph l.vorg) (origin_glyph l.vorg) (be16 l.vorg 6) l.glyph l.from l.to

abbrev pub decreases-loop-from : goal.decreases-loop-from
decreases-loop-from l = l.to - l.from
