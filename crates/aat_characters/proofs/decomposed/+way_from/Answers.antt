use Rattle.std.proofs.Common.{◌≡◌, ap, ◌∙◌, option_map}
use Rattle.aat_characters.specs.Decomposed.{chosen_way, has_glyph}
use Rattle.aat_characters.specs.inside.Ways.{way_at}
use Rattle.aat_characters.proofs.WaysLemmas.{further_joined, further_none, further_ways, way_of_longest, way_of_shortest}
use Rattle.aat_characters.proofs.decomposed.+way_from.Goals as goal
use Rattle.aat_characters.proofs.decomposed.+way_from.Goals.{in-Some, in-None}

pub returns-then-shortest-clause-way : goal.returns-then-shortest-clause-way
returns-then-shortest-clause-way t c =
    let has = has_glyph c.args.face.now in
    let parts = c.args.parts.now in
    let f : option_map (way_at parts) c.match-joined_with.further ≡ chosen_way has c.args.shortest (further_ways c.args.first parts c.args.at) =
    elim c.match-joined_with.branch [
      | in-Some w ↦ ap (option_map (way_at parts)) w.further-is ∙ further_joined has _ _ _ parts _ _ w.in-Some.ensures w.way_from-further.ensures.way
      | in-None w ↦ ap (option_map (way_at parts)) w.further-is ∙ further_none has _ _ _ parts w.in-None.ensures
    ] in
    way_of_shortest has _ _ _ parts _ _ _ c.requires c.way_here-here.ensures.way f c.if-shortest.true c.or.ensures

pub returns-else-shortest-clause-way : goal.returns-else-shortest-clause-way
returns-else-shortest-clause-way t c =
    let has = has_glyph c.args.face.now in
    let parts = c.args.parts.now in
    let f : option_map (way_at parts) c.match-joined_with.further ≡ chosen_way has c.args.shortest (further_ways c.args.first parts c.args.at) =
    elim c.match-joined_with.branch [
      | in-Some w ↦ ap (option_map (way_at parts)) w.further-is ∙ further_joined has _ _ _ parts _ _ w.in-Some.ensures w.way_from-further.ensures.way
      | in-None w ↦ ap (option_map (way_at parts)) w.further-is ∙ further_none has _ _ _ parts w.in-None.ensures
    ] in
    way_of_longest has _ _ _ parts _ _ _ c.requires c.way_here-here.ensures.way f c.if-shortest.false c.or-else-shortest.ensures
