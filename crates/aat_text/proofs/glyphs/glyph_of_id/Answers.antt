use Rattle.std.proofs.Common.{sym, ◌∙◌}
use Rattle.aat_text.proofs.PlainCharacters.{plain_with_id}
use Rattle.aat_text.proofs.glyphs.glyph_of_id.Goals as goal

pub returns-then-is_plain : goal.returns-then-is_plain
returns-then-is_plain c =
    c.new.ensures ∙ plain_with_id c.args.glyph_id c.args.cluster c.args.character (sym c.is_plain.ensures ∙ c.if-is_plain.true)
