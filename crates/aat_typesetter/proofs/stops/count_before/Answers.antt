use Rattle.std.proofs.Common.{ltb, rules}
use Rattle.std.proofs.lemmas.Fn.{always_returns_same}
use Rattle.std.proofs.lemmas.List.Sorted.{IsPartitionedBy-ltb}
use Rattle.aat_shaped_text.specs.declared.text.TextGlyph.{TextGlyph}
use Rattle.aat_typesetter.proofs.Counted.{count_at_point, never_falls}
use Rattle.aat_typesetter.proofs.stops.count_before.Goals as goal

pub returns-clause-value : goal.returns-clause-value
returns-clause-value c =
    let parted = IsPartitionedBy-ltb (λ (g : TextGlyph). g.cluster) _ c.args.cluster (never_falls c.args.text.now c.requires) in
    let point = c.partition_point.ensures.partitioned (λ g. ltb g.cluster c.args.cluster) (search (rules, always_returns_same)) parted in
    count_at_point (λ (g : TextGlyph). ltb g.cluster c.args.cluster) c.args.text.now _ c.partition_point.ensures.bound point
