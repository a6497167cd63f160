use Rattle.std.proofs.Common.{◌<◌, length, arith}
use Rattle.aat_write_sfnt.proofs.TrackEntries.{entry_more, near_each}
use Rattle.aat_write_sfnt.proofs.trak.append_entries.Goals as goal

pub overflow_cast-place : goal.overflow_cast-place
overflow_cast-place g c =
    let below : c.loop-k.k < length c.args.table.now.tracks = omega (arith, c.loop-k-test.true, c.track_count-k-end.ensures) in
    let near = near_each c.args.at c.args.table.now c.loop-k.k c.requires.near below in
    omega (arith, near, c.place_of_values-place.ensures.place)

pub loop-k-preserved : goal.loop-k-preserved
loop-k-preserved g c =
    entry_more c.args.at c.args.table.now c.args.out.now.items c.loop-k.out.items c.append_entry.new.out.items c.loop-k.k _ c.track_at.result c.track_at.ensures c.place_of_values-place.ensures.place c.loop-k.invariant c.in_ok-append_entry.ensures
