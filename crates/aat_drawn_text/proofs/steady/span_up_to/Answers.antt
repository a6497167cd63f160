use Rattle.aat_drawn_text.proofs.SteadySpans.{steady_up_to}
use Rattle.aat_drawn_text.proofs.steady.span_up_to.Goals as goal

pub returns : goal.returns
returns c = steady_up_to c.args.features.now c.args.cluster c.first_up_to.result c.first_up_to.ensures
