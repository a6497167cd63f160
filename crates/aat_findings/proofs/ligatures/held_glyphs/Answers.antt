use Rattle.std.proofs.Common.{◌≡◌, ◌+◌, ◌<◌, ℕ, List, true, subst, sym}
use Rattle.aat_findings.specs.Reached.{AreExactly}
use Rattle.aat_findings.specs.inside.Making.{is_held}
use Rattle.aat_findings.proofs.Exactly.{exactly_more}
use Rattle.aat_findings.proofs.ligatures.held_glyphs.Goals as goal

pub loop-glyph-preserved : goal.loop-glyph-preserved
loop-glyph-preserved c =
    let table = c.args.table.now in
    let classes = c.args.classes.now in
    let ligatures = c.args.ligatures.now in
    let glyph = c.loop-glyph.glyph in
    subst (λ (l : List ℕ). AreExactly (λ m. (m < glyph + 1) × (is_held table classes ligatures m ≡ true)) l) (sym c.in_ok-push_where.ensures) (exactly_more (is_held table classes ligatures) glyph c.loop-glyph.held.items c.is_held-may.result (sym c.is_held-may.ensures) c.loop-glyph.invariant)
