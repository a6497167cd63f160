use Rattle.aat_read_lookup.proofs.SizeBounds.{read_pairs_rise}
use Rattle.aat_bytes.specs.declared.tags.TheConstants.{ANKR}
use Rattle.aat_read_extended.proofs.kerx.ankr.read_ankr.Goals as goal

pub rows-requires-clause-rising : goal.rows-requires-clause-rising
rows-requires-clause-rising c =
    rw c.deref.ensures.value
    (read_pairs_rise ANKR c.args.bytes.now c.be32.result c.args.glyph_count c.in_ok-glyphs.glyphs.items
    c.in_ok-glyphs.ensures)
