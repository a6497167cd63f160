use Rattle.std.proofs.Common.{◌≡◌, ◌<◌, List, ap, arith, length}
use Rattle.aat_buffer.specs.Buffer.{glyph_at}
use Rattle.aat_glyph.specs.declared.glyph.hb_glyph_info_t.{hb_glyph_info_t}
use Rattle.aat_shaped_text.specs.ShapedText.{drawn_glyph}
use Rattle.aat_drawn_text.specs.inside.Drawing.{may_break}
use Rattle.aat_shaped_text.proofs.KeptCounts.{counted_gone, counted_kept, few_before}
use Rattle.aat_drawn_text.proofs.DrawnPlaces.{put_kept, put_none}
use Rattle.aat_drawn_text.proofs.drawn.put_glyphs.Goals as goal
use Rattle.aat_drawn_text.proofs.drawn.put_glyphs.Goals.{then-is_kept, else-is_kept}

pub overflow_add-kept : goal.overflow_add-kept
overflow_add-kept g c =
    omega (arith, c.loop-i.invariant.counted, few_before c.args.buffer.now.line c.loop-i.i, c.loop-i-test.true, c.loop-i.auto.i-end)

pub loop-i-preserved : goal.loop-i-preserved
loop-i-preserved g c =
    let line = c.args.buffer.now.line in
    let i = c.loop-i.i in
    let x = glyph_at c.args.line.now i in
    let read : x ≡ glyph_at line i = ap (λ (gs : List hb_glyph_info_t). glyph_at gs i) c.requires.line in
    let low : i < length line = omega (arith, c.loop-i-test.true, ap (λ (gs : List hb_glyph_info_t). length gs) c.requires.line) in
    elim c.if-is_kept.branch [
      | then-is_kept w ↦ record {
        put = rw w.glyphs-is
            (put_kept line i x read c.is_kept.result c.is_kept.ensures (drawn_glyph (may_break c.args.breaks line) c.args.buffer.now)
            c.loop-i.glyphs.items c.loop-i.invariant.put w.drawn_glyph.result w.if-is_kept.true w.drawn_glyph.ensures w.push_reserved.ensures.items);
        counted = counted_kept line i x read c.is_kept.result c.is_kept.ensures c.loop-i.kept low w.if-is_kept.true w.kept-is c.loop-i.invariant.counted;
        few = rw w.glyphs-is (omega (arith, w.push_reserved.ensures.len, c.loop-i.invariant.few));
        room = rw w.glyphs-is (omega (arith, w.push_reserved.ensures.capacity, c.loop-i.invariant.room));
        steady = c.next_span-span.ensures;
      }
      | else-is_kept w ↦ record {
        put = rw w.glyphs-is
            (put_none line i x read c.is_kept.result c.is_kept.ensures (drawn_glyph (may_break c.args.breaks line) c.args.buffer.now)
            c.loop-i.glyphs.items c.loop-i.invariant.put w.if-is_kept.false);
        counted = counted_gone line i x read c.is_kept.result c.is_kept.ensures c.loop-i.kept low w.if-is_kept.false w.kept-is c.loop-i.invariant.counted;
        few = rw w.glyphs-is (omega (arith, c.loop-i.invariant.few));
        room = rw w.glyphs-is c.loop-i.invariant.room;
        steady = c.next_span-span.ensures;
      }
    ]
