use Rattle.std.proofs.Common.{◌∷◌, [], ◌++◌, ap, ◌∙◌}
use Rattle.aat_text.proofs.LoneTexts.{kept_glyph}
use Rattle.aat_text.proofs.lone.put_lone.Goals as goal

pub returns-then-glyph-ne0-clause-glyphs : goal.returns-then-glyph-ne0-clause-glyphs
returns-then-glyph-ne0-clause-glyphs g c =
    c.in_ok-push.ensures.items ∙ ap (λ glyph. c.args.glyphs.now.items ++ glyph ∷ []) c.placed_glyph-glyph.ensures.glyph
    ∙ ap (λ glyphs. c.args.glyphs.now.items ++ glyphs)
    (kept_glyph c.args.face.now c.args.character (rw c.placed_glyph-glyph.ensures.glyph at c.if-glyph-ne0.true))
