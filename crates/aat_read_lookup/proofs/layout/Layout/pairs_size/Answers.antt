use Rattle.std.proofs.Common.{sym, ap, ◌∙◌}
use Rattle.aat_read_lookup.specs.Lookups.{pairs_of}
use Rattle.aat_read_lookup.specs.Sizes.{pairs_size}
use Rattle.aat_read_lookup.proofs.Spans.{array_size}
use Rattle.aat_read_lookup.proofs.layout.Layout.pairs_size.Goals as goal

pub returns-in-Array : goal.returns-in-Array
returns-in-Array c =
    let bytes = c.args.bytes.now in
    c.size_of_pairs.ensures
    ∙ sym (array_size bytes c.in-Array.segment)
    ∙ sym (ap (λ l. pairs_size (pairs_of bytes l)) c.in-Array.is)
