use Rattle.std.proofs.Common.{◌≡◌, ◌<◌, arith, false, get_or, refl}
use Rattle.aat_shaped_text.specs.Parts.{cut_before}
use Rattle.aat_shaped_text.specs.declared.text.CharacterKind.TheVariants.{Other}
use Rattle.aat_shaped_text.specs.declared.text.TextGlyph.{TextGlyph}
use Rattle.aat_shaper.proofs.Texts.{opening}
use Rattle.aat_shaper.proofs.Told.{rising_where_told}
use Rattle.aat_shaper.proofs.lines.filling.Filling.opening_at.Goals as goal

abbrev zero_glyph : TextGlyph
zero_glyph = record { glyph_id = 0; cluster = 0; is_ignorable = false; is_mark = false; kind = Other }

pub returns-then-max-cluster : goal.returns-then-max-cluster
returns-then-max-cluster c =
    let f = c.args.self.now in
    let k = c.edge_of-k.result in
    let behind : 0 < k = omega (arith, c.if-k-eq0.false) in
    let cut : cut_before f.whole.now k ≡ (get_or f.text.now c.args.place zero_glyph).cluster =
    omega (arith, c.max.ensures, c.if-max-cluster.true)
    in
    opening f.text.now f.whole.now k c.args.place (get_or f.text.now c.args.place zero_glyph).cluster zero_glyph
    (rising_where_told f.value f.font.now f.direction f.features.now f.text.now f.whole.now k c.requires.ready.drawn c.if-k-self.false c.if-not-self-k.false)
    c.requires.inside c.requires.in_text
    refl c.if-self-place.false behind c.if-k-self.false
    c.if-not-self-k.false cut
