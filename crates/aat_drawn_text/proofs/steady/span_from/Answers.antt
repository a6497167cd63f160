use Rattle.std.proofs.Common.{rules}
use Rattle.aat_drawn_text.proofs.SteadySpans.{steady_from}
use Rattle.aat_drawn_text.proofs.steady.span_from.Goals as goal

pub returns : goal.returns
returns c =
    steady_from c.args.features.now c.args.cluster c.change_behind.result c.saturating_sub.result c.change_behind.ensures
    (search rules)
