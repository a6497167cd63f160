use Rattle.aat_showing.proofs.HiddenGlyphs.{glyph_gone, glyph_kept}
use Rattle.aat_showing.proofs.ignorables.kept_glyphs.Goals as goal
use Rattle.aat_showing.proofs.ignorables.kept_glyphs.Goals.{then-not-glyphs-i+in_ok-push, else-not-glyphs-i}

pub loop-i-preserved : goal.loop-i-preserved
loop-i-preserved g c =
    let glyphs = c.args.glyphs.now in
    let l = c.loop-i in
    elim c.if-not-glyphs-i.branch [
      | then-not-glyphs-i+in_ok-push w ↦ rw w.drawn-is
          (glyph_kept glyphs l.i c.loop-i-test.true l.drawn.items _ w.kept_glyph.result w.if-not-glyphs-i.true w.kept_glyph.ensures
          w.in_ok-push.ensures.items l.invariant)
      | else-not-glyphs-i w ↦ rw w.drawn-is (glyph_gone glyphs l.i c.loop-i-test.true l.drawn.items w.if-not-glyphs-i.false l.invariant)
    ]
