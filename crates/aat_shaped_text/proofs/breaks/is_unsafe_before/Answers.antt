use Rattle.std.proofs.Common.{◌-◌, refl}
use Rattle.aat_buffer.specs.Buffer.{glyph_at}
use Rattle.aat_shaped_text.proofs.Unsafe.{marked_back, other_back, unmarked_back}
use Rattle.aat_shaped_text.proofs.breaks.is_unsafe_before.Goals as goal

pub returns-then-glyph-cluster : goal.returns-then-glyph-cluster
returns-then-glyph-cluster c =
    let line = c.args.line.now in
    other_back line c.args.end c.loop-behind.behind (glyph_at line (c.args.end - 1)) (glyph_at line (c.args.end - 1 - c.loop-behind.behind)) refl c.loop-behind-test.true c.requires.in_line refl
    c.loop-behind.invariant c.if-glyph-cluster.true

pub returns-then-is_unsafe : goal.returns-then-is_unsafe
returns-then-is_unsafe c =
    let line = c.args.line.now in
    marked_back line c.args.end c.loop-behind.behind (glyph_at line (c.args.end - 1)) (glyph_at line (c.args.end - 1 - c.loop-behind.behind)) refl c.loop-behind-test.true c.requires.in_line refl
    c.loop-behind.invariant c.if-glyph-cluster.false c.is_unsafe.result c.is_unsafe.ensures c.if-is_unsafe.true

pub loop-behind-preserved : goal.loop-behind-preserved
loop-behind-preserved c =
    let line = c.args.line.now in
    unmarked_back line c.args.end c.loop-behind.behind (glyph_at line (c.args.end - 1)) (glyph_at line (c.args.end - 1 - c.loop-behind.behind)) refl c.loop-behind-test.true c.requires.in_line refl
    c.loop-behind.invariant c.if-glyph-cluster.false c.is_unsafe.result c.is_unsafe.ensures c.if-is_unsafe.false
