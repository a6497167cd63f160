use Rattle.aat_morx.proofs.LineBits.{more_bits}
use Rattle.aat_morx.proofs.waking.bits_of.Goals as goal

pub loop-glyph-preserved : goal.loop-glyph-preserved
loop-glyph-preserved c =
    record { has = more_bits c.args.listed.now c.args.glyphs.now c.loop-glyph.glyph-index c.loop-glyph.word c.bits_of_glyph-word.result c.loop-glyph.invariant.has c.bits_of_glyph-word.ensures }
