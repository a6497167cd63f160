use Rattle.std.proofs.Common.{length, sym, ap, ◌∙◌}
use Rattle.aat_read_lookup.specs.Kept.{layout_segments}
use Rattle.aat_read_lookup.specs.declared.kept.Keep.TheVariants.{Value}
use Rattle.aat_read_lookup.proofs.KeptCounts.{array_counted}
use Rattle.aat_read_lookup.proofs.layout.Layout.segment_count.Goals as goal

pub returns-in-Array-clause-is : goal.returns-in-Array-clause-is
returns-in-Array-clause-is c =
    let bytes = c.args.bytes.now in
    c.kept_count.ensures.is
    ∙ sym (array_counted bytes Value c.in-Array.segment)
    ∙ sym (ap (λ l. length (layout_segments bytes Value l)) c.in-Array.is)
