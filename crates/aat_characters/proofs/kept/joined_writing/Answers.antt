use Rattle.std.proofs.Common.{sym, ◌∙◌}
use Rattle.aat_characters.specs.Decomposed.{has_glyph}
use Rattle.aat_characters.proofs.KeptTexts.{joined_from}
use Rattle.aat_characters.proofs.kept.joined_writing.Goals as goal

pub returns-then-parts-ne2 : goal.returns-then-parts-ne2
returns-then-parts-ne2 c = c.other_writing.ensures (has_glyph c.args.face.now)

pub returns-then-not-joins_again : goal.returns-then-not-joins_again
returns-then-not-joins_again c = c.other_writing-then-not-joins_again.ensures (has_glyph c.args.face.now)

pub returns : goal.returns
returns c = record {
  class = c.mark_class.ensures;
  way = record {
    joined = joined_from (has_glyph c.args.face.now) c.args.character c.index-parts-0.result c.index-parts-1.result c.decomposition-parts.result.now
        c.decomposition-parts.ensures.value c.if-parts-ne2.false c.index-parts-0.is c.index-parts-1.is c.requires
        (sym c.joins_again.ensures ∙ c.if-not-joins_again.false);
    told = c.is_mark.ensures;
  };
}
