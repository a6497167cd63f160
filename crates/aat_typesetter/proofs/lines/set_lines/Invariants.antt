use Rattle.std.proofs.Common.{◌≡◌, ◌++◌, drop}
use Rattle.aat_typesetter.specs.TypesetLines.{set_lines}
use Rattle.aat_typesetter.specs.inside.Inside.{showing_by}
use Rattle.aat_typesetter.proofs.lines.set_lines.Given as goal

abbrev pub invariant-loop-line : goal.invariant-loop-line
invariant-loop-line g l =
    l.set.items ++ set_lines (showing_by l.fn.face l.showing) l.glyphs l.start (drop l.line-index l.lines)
    ≡ set_lines (showing_by l.fn.face l.showing) l.glyphs 0 l.lines
