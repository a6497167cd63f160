use Rattle.aat_findings.specs.inside.Making.{AreMore, IsAmong, IsValued}
use Rattle.aat_findings.proofs.ligatures.add_values.Given as goal

abbrev pub invariant-loop-glyph : goal.invariant-loop-glyph
invariant-loop-glyph l =
    AreMore l.fn.marks (λ n. IsAmong l.held l.glyph-index (λ place glyph. IsValued l.values l.held l.action l.sum n glyph))
    l.marks
