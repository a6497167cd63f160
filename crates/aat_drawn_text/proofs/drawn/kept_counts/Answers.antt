use Rattle.std.proofs.Common.{◌<◌, List, ap, arith, length, refl}
use Rattle.aat_buffer.specs.Buffer.{glyph_at}
use Rattle.aat_glyph.specs.declared.glyph.hb_glyph_info_t.{hb_glyph_info_t}
use Rattle.aat_shaped_text.proofs.KeptCounts.{counted_gone, counted_kept, few_before}
use Rattle.aat_drawn_text.proofs.DrawnPlaces.{counts_more}
use Rattle.aat_drawn_text.proofs.drawn.kept_counts.Goals as goal
use Rattle.aat_drawn_text.proofs.drawn.kept_counts.Goals.{then-is_kept, else-is_kept}

pub overflow_add-kept : goal.overflow_add-kept
overflow_add-kept g c =
    omega (
      arith,
      c.loop-i.invariant.counted,
      few_before c.args.line.now c.loop-i.i,
      c.loop-i-test.true,
      c.len.ensures.small,
      c.len.ensures.count,
      ap (λ (gs : List hb_glyph_info_t). length gs) c.requires.line,
    )

pub loop-i-preserved : goal.loop-i-preserved
loop-i-preserved g c =
    let line = c.args.line.now in
    let i = c.loop-i.i in
    let low : i < length line = omega (arith, c.loop-i-test.true) in
    record {
      listed = counts_more c.push.new.self.items line i c.loop-i.kept c.loop-i.counts.items c.in_ok-push.ensures.items c.loop-i.invariant.listed c.loop-i.invariant.counted;
      counted = elim c.if-is_kept.branch [
        | then-is_kept w ↦ counted_kept line i (glyph_at line i) refl c.is_kept.result c.is_kept.ensures c.loop-i.kept low w.if-is_kept.true w.kept-is c.loop-i.invariant.counted
        | else-is_kept w ↦ counted_gone line i (glyph_at line i) refl c.is_kept.result c.is_kept.ensures c.loop-i.kept low w.if-is_kept.false w.kept-is c.loop-i.invariant.counted
      ];
    }
