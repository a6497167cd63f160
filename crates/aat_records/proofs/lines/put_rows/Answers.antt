use Rattle.std.proofs.Common.{◌∙◌, ◌<◌, ℕ, ap, arith, length}
use Rattle.aat_records.specs.Lines.{place_behind}
use Rattle.aat_records.proofs.LinesPut.{all_rows, row_more}
use Rattle.aat_records.proofs.lines.put_rows.Goals as goal

pub loop-i-preserved : goal.loop-i-preserved
loop-i-preserved c =
    let inside : c.loop-i.i < length c.args.lines.now = omega arith in
    let more =
    row_more c.args.text.now c.args.size c.args.lines.now c.loop-i.i c.index-lines-i.result c.args.rows.now
    c.loop-i.rows c.put_row.new.rows c.loop-i.count c.place_behind.result c.glyphs.result.now inside
    c.index-lines-i.is c.glyphs.ensures
    (c.place_behind.ensures ∙ ap (λ (n : ℕ). place_behind c.args.text.now c.args.size n) c.text_end.ensures)
    c.put_row.ensures c.loop-i.invariant.counted c.loop-i.invariant.put c.loop-i.invariant.follow
    in
    record { counted = more.0; put = more.1; follow = more.2 }

pub returns : goal.returns
returns c =
    all_rows c.args.text.now c.args.size c.args.lines.now c.loop-i.i c.args.rows.now c.loop-i.rows c.loop-i.count
    (omega arith) c.loop-i.invariant.put c.loop-i.invariant.follow
