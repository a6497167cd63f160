use Rattle.aat_showing.proofs.HiddenGlyphs.{count_gone, count_kept, place_gone, place_kept}
use Rattle.aat_showing.proofs.ignorables.kept_places.Goals as goal
use Rattle.aat_showing.proofs.ignorables.kept_places.Goals.{then-glyph+in_ok-push, else-glyph+in_ok-push-2}

pub loop-glyph-preserved : goal.loop-glyph-preserved
loop-glyph-preserved g c =
    let glyphs = c.args.glyphs.now in
    let l = c.loop-glyph in
    elim c.if-glyph.branch [
      | then-glyph+in_ok-push w ↦ record {
        listed = rw w.places-is (place_gone glyphs l.glyph-index c.loop-glyph-test.true l.places.items _ w.if-glyph.true
            w.in_ok-push.ensures.items l.invariant.listed);
        counted = rw w.kept-is (count_gone glyphs l.glyph-index c.loop-glyph-test.true l.kept w.if-glyph.true l.invariant.counted);
      }
      | else-glyph+in_ok-push-2 w ↦ record {
        listed = rw w.places-is (place_kept glyphs l.glyph-index c.loop-glyph-test.true l.places.items _ l.kept w.if-glyph.false
            l.invariant.counted w.in_ok-push-2.ensures.items l.invariant.listed);
        counted = rw w.kept-is (count_kept glyphs l.glyph-index c.loop-glyph-test.true l.kept w.if-glyph.false l.invariant.counted);
      }
    ]
