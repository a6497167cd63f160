use Rattle.std.proofs.Common.{◌∙◌, ap, arith}
use Rattle.aat_map.specs.inside.Placed.{setting_of, place_in}
use Rattle.aat_map.proofs.KeptSearch.{slice_to_end}
use Rattle.aat_map.proofs.PlacedLemmas.{place_behind}
use Rattle.aat_map.proofs.placed.place_from.Goals as goal

pub returns : goal.returns
returns c =
    let groups = c.args.groups.now in
    let info = setting_of c.args.is_exclusive c.args.wanted.0 c.args.wanted.1 in
    place_behind groups info c.args.from c.place_of.result c.requires.within (λ i d lt. c.requires.lower i d (omega arith) lt)
    (c.place_of.ensures.count ∙ ap (λ gs. place_in gs info) (slice_to_end groups c.args.from))
