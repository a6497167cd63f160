use Rattle.aat_read_lookup.specs.Kept.{kept_value}
use Rattle.aat_read_lookup.specs.Layouts.{segment_of}
use Rattle.aat_read_lookup.specs.Segments.{pairs_by}
use Rattle.aat_read_lookup.proofs.Appended.{list_more}
use Rattle.aat_read_lookup.proofs.lookup.append_each.Goals as goal

pub loop-i-preserved : goal.loop-i-preserved
loop-i-preserved g c =
    list_more (pairs_by (kept_value c.args.bytes.now c.args.keep)) (segment_of c.args.bytes.now c.args.units) c.args.pairs.now.items c.loop-i.pairs.items c.append.new.pairs.items c.loop-i.i c.segment.result c.segment.ensures.is c.loop-i.invariant c.in_ok-append.ensures
