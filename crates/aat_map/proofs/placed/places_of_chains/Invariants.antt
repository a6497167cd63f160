use Rattle.std.proofs.Common.{◌≡◌, take, map}
use Rattle.aat_map.specs.inside.Placed.{places_for, place_lists}
use Rattle.aat_map.proofs.placed.places_of_chains.Given as goal

abbrev pub invariant-loop-chain : goal.invariant-loop-chain
invariant-loop-chain g l = place_lists l.lists.items ≡ map (places_for l.fn.groups) (take l.chain-index l.fn.chains)
