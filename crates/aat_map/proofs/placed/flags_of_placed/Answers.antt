use Rattle.std.proofs.Common.{◌<◌, ℕ, length, slice_index_or}
use Rattle.std.proofs.lemmas.List.{get_or_default, length-map}
use Rattle.aat_machine_tables.specs.declared.morx.ChainFeature.{ChainFeature}
use Rattle.aat_map.specs.inside.Placed.{places_of}
use Rattle.aat_map.proofs.PlacedLemmas.{asked_more}
use Rattle.aat_map.proofs.placed.flags_of_placed.Goals as goal

pub loop-i-preserved : goal.loop-i-preserved
loop-i-preserved g c =
    let live = c.args.live.now in
    let chain = c.args.chain.now in
    let fs = chain.features.items in
    let i = c.loop-i.i in
    let none : ChainFeature = record { kind = 0; setting = 0; enable_flags = 0; disable_flags = 0 } in
    let f = slice_index_or fs i none in
    let p : ℕ × ℕ = slice_index_or c.args.places.now i (0, 0) in
    let below : i < length fs = rw c.deref-feature-items.ensures.value at c.loop-i-test.true in
    let held : i < length c.args.places.now = rw (c.requires.places, length-map fs (λ (h : ChainFeature). places_of live.groups.items h.kind h.setting)) below in
    asked_more live.groups.items live.active.items live.firsts.items fs c.args.places.now c.args.small_caps p f i chain.default_flags
    c.loop-i.flags c.changed_by-flags.result c.is_asked_at-is_asked.result
    c.requires.apart c.requires.firsts c.requires.places c.requires.small_caps below
    (get_or_default c.args.places.now i (0, 0) p held) (get_or_default fs i none f below)
    (rw (c.deref-feature-items.ensures.value, c.deref.ensures.value) at c.is_asked_at-is_asked.ensures)
    c.loop-i.invariant
    (rw c.deref-feature-items.ensures.value at c.changed_by-flags.ensures)
