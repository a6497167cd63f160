use Rattle.aat_read_lookup.specs.Kept.{single_segment}
use Rattle.aat_read_lookup.proofs.Appended.{one_more}
use Rattle.aat_read_lookup.proofs.KeptCounts.{single_made}
use Rattle.aat_read_lookup.proofs.segment.Segment.append_singles.Goals as goal

pub loop-k-preserved : goal.loop-k-preserved
loop-k-preserved g c =
    let bytes = c.args.bytes.now in
    let made = single_made bytes c.args.keep c.args.self c.loop-k.k c.kept.result c.new.result c.new.ensures c.kept.ensures in
    one_more (single_segment bytes c.args.keep c.args.self) c.args.segments.now.items c.loop-k.segments.items c.push.new.self.items c.loop-k.k c.new.result made c.loop-k.invariant c.in_ok-push.ensures.items
