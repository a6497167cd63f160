use Rattle.std.proofs.Common.{arith}
use Rattle.aat_bytes.specs.Numbers.{be16}
use Rattle.aat_bytes.specs.facts.Bisections.{ended, none_left, on_above, on_below}
use Rattle.aat_read_sfnt.specs.VerticalOrigins.{origin_glyph}
use Rattle.aat_read_sfnt.proofs.vertical_origins.row_of.Goals as goal

pub loop-from-preserved-then-glyph-key : goal.loop-from-preserved-then-glyph-key
loop-from-preserved-then-glyph-key c =
    let vorg = c.args.vorg.now in
    on_below (origin_glyph vorg) (origin_glyph vorg) (be16 vorg 6) c.args.glyph c.loop-from.from c.loop-from.to
    c.loop-from.invariant c.loop-from-test.true (omega (arith, c.be16-key.ensures))

pub loop-from-preserved : goal.loop-from-preserved
loop-from-preserved c =
    let vorg = c.args.vorg.now in
    on_above (origin_glyph vorg) (origin_glyph vorg) (be16 vorg 6) c.args.glyph c.loop-from.from c.loop-from.to
    c.loop-from.invariant c.loop-from-test.true (omega (arith, c.be16-key.ensures)) (omega (arith, c.be16-key.ensures))

pub returns-else-key-glyph-clause-is : goal.returns-else-key-glyph-clause-is
returns-else-key-glyph-clause-is c =
    let vorg = c.args.vorg.now in
    ended (origin_glyph vorg) (origin_glyph vorg) (be16 vorg 6) c.args.glyph c.loop-from.from c.loop-from.to
    c.loop-from.invariant c.loop-from-test.true (omega (arith, c.be16-key.ensures)) (omega (arith, c.be16-key.ensures))

pub returns-clause-is : goal.returns-clause-is
returns-clause-is c =
    let vorg = c.args.vorg.now in
    none_left (origin_glyph vorg) (origin_glyph vorg) (be16 vorg 6) c.args.glyph c.loop-from.from c.loop-from.to
    c.loop-from.invariant c.loop-from-test.false
