use Rattle.aat_characters.specs.Decomposed.{has_glyph}
use Rattle.aat_characters.proofs.WaysLemmas.{chosen_first, chosen_last}
use Rattle.aat_characters.proofs.decomposed.chosen_way.Goals as goal

pub returns-then-shortest-clause-way : goal.returns-then-shortest-clause-way
returns-then-shortest-clause-way c =
    chosen_first (has_glyph c.args.face.now) _ _ _ c.args.parts.now _ _ _ c.requires.some c.index-parts-0.is c.requires.parts
    c.way_here-own.ensures.way c.way_from-other.ensures.way c.if-shortest.true c.or.ensures

pub returns-else-shortest-clause-way : goal.returns-else-shortest-clause-way
returns-else-shortest-clause-way c =
    chosen_last (has_glyph c.args.face.now) _ _ _ c.args.parts.now _ _ _ c.requires.some c.index-parts-0.is c.requires.parts
    c.way_here-own.ensures.way c.way_from-other.ensures.way c.if-shortest.false c.or-else-shortest.ensures
