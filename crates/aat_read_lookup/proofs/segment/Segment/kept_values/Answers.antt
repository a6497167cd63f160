use Rattle.std.proofs.Common.{ℕ, []}
use Rattle.aat_read_lookup.specs.Kept.{kept_value}
use Rattle.aat_read_lookup.proofs.Appended.{one_more}
use Rattle.aat_read_lookup.proofs.segment.Segment.kept_values.Goals as goal

pub loop-k-preserved : goal.loop-k-preserved
loop-k-preserved g c =
    one_more (kept_value c.args.bytes.now c.args.keep c.args.self.values) [] c.loop-k.values.items c.push.new.self.items c.loop-k.k c.kept.result c.kept.ensures c.loop-k.invariant c.in_ok-push.ensures.items
