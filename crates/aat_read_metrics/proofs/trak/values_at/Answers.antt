use Rattle.aat_read_metrics.specs.Trak.{track_values}
use Rattle.aat_read_metrics.proofs.Appended.{list_more}
use Rattle.aat_read_metrics.proofs.trak.values_at.Goals as goal

pub loop-k-preserved : goal.loop-k-preserved
loop-k-preserved g c =
    list_more (track_values c.args.bytes.now c.args.at) c.loop-k.values.items c.append_track.new.values.items c.loop-k.k c.loop-k.invariant c.in_ok-append_track.ensures
