use Rattle.std.proofs.Common.{arith, refl}
use Rattle.aat_buffer.specs.Buffer.{glyph_at}
use Rattle.aat_shaped_text.proofs.Unsafe.{marked_on, other_on, unmarked_on}
use Rattle.aat_shaped_text.proofs.breaks.is_unsafe_from.Goals as goal

pub returns-then-glyph-cluster : goal.returns-then-glyph-cluster
returns-then-glyph-cluster c =
    let line = c.args.line.now in
    other_on line c.args.i c.loop-j.j (glyph_at line c.args.i) (glyph_at line c.loop-j.j) refl (omega (arith, c.loop-j-test.true)) refl
    c.loop-j.invariant c.if-glyph-cluster.true

pub returns-then-is_unsafe : goal.returns-then-is_unsafe
returns-then-is_unsafe c =
    let line = c.args.line.now in
    marked_on line c.args.i c.loop-j.j (glyph_at line c.args.i) (glyph_at line c.loop-j.j) refl (omega (arith, c.loop-j-test.true)) refl
    c.loop-j.invariant c.if-glyph-cluster.false c.is_unsafe.result c.is_unsafe.ensures c.if-is_unsafe.true

pub loop-j-preserved : goal.loop-j-preserved
loop-j-preserved c =
    let line = c.args.line.now in
    unmarked_on line c.args.i c.loop-j.j (glyph_at line c.args.i) (glyph_at line c.loop-j.j) refl (omega (arith, c.loop-j-test.true)) refl
    c.loop-j.invariant c.if-glyph-cluster.false c.is_unsafe.result c.is_unsafe.ensures c.if-is_unsafe.false
