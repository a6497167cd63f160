use Rattle.aat_map.specs.inside.Placed.{place_lists, places_for}
use Rattle.aat_map.proofs.PlacedLemmas.{lists_pushed, mapped_more}
use Rattle.aat_map.proofs.placed.places_of_chains.Goals as goal

pub loop-chain-preserved : goal.loop-chain-preserved
loop-chain-preserved g c =
    let lists = c.loop-chain.lists.items in
    let now = c.push.new.self.items in
    let places = c.in_ok-places_for.field-0 in
    mapped_more (places_for c.args.groups.now) c.args.chains.now c.loop-chain.chain-index c.chain-item.result
    (place_lists lists) (place_lists now) places.items c.loop-chain-test.true c.chain-item.is
    c.loop-chain.invariant c.in_ok-places_for.ensures.ok (lists_pushed lists now places c.in_ok-push.ensures.items)
