use Rattle.std.proofs.Common.{◌∙◌}
use Rattle.aat_map.proofs.PlacedLemmas.{places_at}
use Rattle.aat_map.proofs.placed.write_flags.Goals as goal

pub flags_of_placed-requires-clause-places : goal.flags_of_placed-requires-clause-places
flags_of_placed-requires-clause-places g c =
    c.deref.ensures.value
    ∙ places_at c.args.placed.now.of_chains.items c.index.result.now c.args.live.now.groups.items c.args.chains.now c.index-chains-i.result c.loop-i.i
    c.requires.placed.of_chains c.loop-i-test.true c.index.ensures c.index-chains-i.is
