use Rattle.std.proofs.Common.{◌∙◌, ◌<◌, arith, length}
use Rattle.std.proofs.lemmas.List.{length-set}
use Rattle.aat_buffer.specs.Buffer.{glyph_at}
use Rattle.aat_shaped_text.specs.Breaks.{may_break_by}
use Rattle.aat_shaped_text.proofs.KeptCounts.{changed_more, counted_gone, counted_kept, few_before}
use Rattle.aat_shaped_text.proofs.open_line.tell_by_glyphs.Goals as goal
use Rattle.aat_shaped_text.proofs.open_line.tell_by_glyphs.Goals.{then-is_kept, else-is_kept}
use Rattle.std.proofs.Common.{refl}

pub overflow_add-kept : goal.overflow_add-kept
overflow_add-kept c =
    omega (arith, c.loop-i.invariant.counted, few_before c.args.line.now c.loop-i.i, c.loop-i-test.true, c.loop-i.auto.i-end)

pub loop-i-preserved : goal.loop-i-preserved
loop-i-preserved c =
    let rules = c.args.rules in
    let line = c.args.line.now in
    let old = c.args.places.now in
    let so_far = c.loop-i.places in
    let i = c.loop-i.i in
    let v = c.loop-i.invariant in
    let count = c.requires.count in
    let low : i < length old = omega (arith, c.loop-i-test.true, v.len) in
    let x = c.may_break_at.result in
    record {
      counted = elim c.if-is_kept.branch [
        | then-is_kept w ↦ counted_kept line i (glyph_at line i) refl c.is_kept.result c.is_kept.ensures c.loop-i.kept (omega (arith, low, count)) w.if-is_kept.true w.kept-is v.counted
        | else-is_kept w ↦ counted_gone line i (glyph_at line i) refl c.is_kept.result c.is_kept.ensures c.loop-i.kept (omega (arith, low, count)) w.if-is_kept.false w.kept-is v.counted
      ];
      len = length-set so_far i x ∙ v.len;
      done = λ j below within. changed_more so_far i x (may_break_by rules line) (omega (arith, low, v.len)) c.may_break_at.ensures j (λ other. v.done j (omega (arith, below, other)) within);
    }
