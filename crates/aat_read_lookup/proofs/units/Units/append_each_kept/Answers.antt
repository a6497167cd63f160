use Rattle.aat_read_lookup.specs.Kept.{kept_segments}
use Rattle.aat_read_lookup.specs.Layouts.{segment_of}
use Rattle.aat_read_lookup.proofs.Appended.{list_more}
use Rattle.aat_read_lookup.proofs.units.Units.append_each_kept.Goals as goal

pub loop-i-preserved : goal.loop-i-preserved
loop-i-preserved g c =
    list_more (kept_segments c.args.bytes.now c.args.keep) (segment_of c.args.bytes.now c.args.self) c.args.segments.now.items c.loop-i.segments.items c.append_kept.new.segments.items c.loop-i.i c.segment.result c.segment.ensures.is c.loop-i.invariant c.in_ok-append_kept.ensures
