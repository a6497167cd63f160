use Rattle.std.proofs.Common.{ℕ, Bool, Option, ap₂, ◌∙◌}
use Rattle.aat_shaped_text.specs.Parts.{shaped_at}
use Rattle.aat_showing.proofs.HiddenGlyphs.{attached_kept, few_listed}
use Rattle.aat_showing.proofs.ignorables.kept_glyph.Goals as goal

pub attached_glyph-requires : goal.attached_glyph-requires
attached_glyph-requires c = few_listed c.args.glyphs.now c.args.places.now c.requires.places

pub returns : goal.returns
returns c =
    let glyphs = c.args.glyphs.now in
    let glyph = shaped_at glyphs c.args.i in
    c.attached_glyph.ensures
    ∙ ap₂ (λ (o : Option ℕ) (t : Bool). record glyph { attached_to = o; may_break_before = t })
    (attached_kept glyphs c.args.places.now c.requires.places glyph.attached_to) c.may_break.ensures
