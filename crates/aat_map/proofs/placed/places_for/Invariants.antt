use Rattle.std.proofs.Common.{◌≡◌, take, map}
use Rattle.aat_map.specs.inside.Placed.{places_of}
use Rattle.aat_machine_tables.specs.declared.morx.ChainFeature.{ChainFeature}
use Rattle.aat_map.proofs.placed.places_for.Given as goal

abbrev pub invariant-loop-feature : goal.invariant-loop-feature
invariant-loop-feature g l =
    l.places.items ≡ map (λ (f : ChainFeature). places_of l.fn.groups f.kind f.setting) (take l.feature-index l.fn.chain.features.items)
