use Rattle.std.proofs.Common.{[]}
use Rattle.aat_read_metrics.specs.Trak.{track_at}
use Rattle.aat_read_metrics.proofs.Appended.{one_more}
use Rattle.aat_read_metrics.proofs.trak.tracks_at.Goals as goal

pub loop-k-preserved : goal.loop-k-preserved
loop-k-preserved g c =
    one_more (track_at c.args.bytes.now c.args.at) [] c.loop-k.tracks.items c.push.new.self.items c.loop-k.k c.track_at.result c.track_at.ensures c.loop-k.invariant c.in_ok-push.ensures.items
