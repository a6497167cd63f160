use Rattle.std.proofs.Common.{◌-◌, refl}
use Rattle.aat_buffer.specs.Buffer.{glyph_at}
use Rattle.aat_shaped_text.proofs.Fronts.{one_more}
use Rattle.aat_shaped_text.proofs.breaks.front_of.Goals as goal

pub loop-behind-preserved : goal.loop-behind-preserved
loop-behind-preserved c =
    let line = c.args.line.now in
    one_more line c.args.i c.loop-behind.behind (glyph_at line c.args.i) (glyph_at line (c.args.i - 1 - c.loop-behind.behind)) refl c.requires c.loop-behind-test.true
    refl c.loop-behind.invariant c.is_deleted_of.result c.is_deleted_of.ensures c.if-not-is_deleted_of.false
