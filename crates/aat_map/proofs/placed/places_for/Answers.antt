use Rattle.std.proofs.Common.{◌<◌, length, slice_index_or}
use Rattle.std.proofs.lemmas.List.{get_or_default}
use Rattle.aat_machine_tables.specs.declared.morx.ChainFeature.{ChainFeature}
use Rattle.aat_map.specs.inside.Placed.{places_of}
use Rattle.aat_map.proofs.PlacedLemmas.{mapped_more}
use Rattle.aat_map.proofs.placed.places_for.Goals as goal

pub loop-feature-preserved : goal.loop-feature-preserved
loop-feature-preserved g c =
    let fs = c.args.chain.now.features.items in
    let i = c.loop-feature.feature-index in
    let none : ChainFeature = record { kind = 0; setting = 0; enable_flags = 0; disable_flags = 0 } in
    let f = slice_index_or fs i none in
    let below : i < length fs = rw c.deref-feature-items.ensures.value at c.loop-feature-test.true in
    mapped_more (λ (h : ChainFeature). places_of c.args.groups.now h.kind h.setting) fs i f
    c.loop-feature.places.items c.push.new.self.items c.places_of.result below (get_or_default fs i none f below)
    c.loop-feature.invariant (rw c.deref-feature-items.ensures.value at c.places_of.ensures) c.in_ok-push.ensures.items
