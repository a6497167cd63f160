use Rattle.std.proofs.Common.{◌≡◌, List, rules, subst, sym}
use Rattle.aat_shaped_text.specs.declared.text.ShapedGlyph.{ShapedGlyph}
use Rattle.aat_typesetter.specs.Typeset.{BreaksHoldIn, IsWithinLimits, drawn_setting, setting_of_glyphs}
use Rattle.aat_typesetter.proofs.BreaksHeld.{breaks_hold}
use Rattle.aat_typesetter.proofs.typesetter.Typesetter.line_of_glyphs.Goals as goal

pub returns-clause-breaks : goal.returns-clause-breaks
returns-clause-breaks g c =
    let s = setting_of_glyphs c.args.self.now c.args.options.now c.args.text.items in
    let drawn : c.set.new.self.glyphs ≡ drawn_setting s = search rules in
    let fits : IsWithinLimits s = search rules in
    subst (λ (gs : List ShapedGlyph). BreaksHoldIn s gs) (sym drawn) (breaks_hold s c.breaks_hold_as_shown.ensures fits)
