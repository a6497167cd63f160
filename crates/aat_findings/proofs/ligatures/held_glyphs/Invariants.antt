use Rattle.std.proofs.Common.{◌≡◌, ◌<◌, true}
use Rattle.aat_findings.specs.Reached.{AreExactly}
use Rattle.aat_findings.specs.inside.Making.{is_held}
use Rattle.aat_findings.proofs.ligatures.held_glyphs.Given as goal

abbrev pub invariant-loop-glyph : goal.invariant-loop-glyph
invariant-loop-glyph l =
    AreExactly (λ g. (g < l.glyph) × (is_held l.table l.classes l.ligatures g ≡ true)) l.held.items
