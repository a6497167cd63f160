use Rattle.std.proofs.Common.{◌≡◌}
use Rattle.aat_findings.specs.inside.Making.{AreMore, IsAmong}
use Rattle.aat_findings.proofs.ligatures.mark_glyphs.Given as goal

abbrev pub invariant-loop-glyph : goal.invariant-loop-glyph
invariant-loop-glyph l = AreMore l.fn.marks (λ n. IsAmong l.glyphs l.glyph-index (λ place g. g.0 ≡ n)) l.marks
