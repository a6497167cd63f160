use Rattle.aat_run.specs.Driven.{context_from}
use Rattle.aat_run.specs.facts.OrderedRuns.{run_keeps_order}
use Rattle.aat_run.proofs.laws.runs_keep_order.Goals as goal

pub returns : goal.returns
returns g c on table r b fit =
    let context = g.C.driver_context_t in
    let laws = g.met.C.driver_context_t in
    let x = context_from context.stays_in_place context.advances context.actionable context.act r in
    run_keeps_order on table x context.fits laws.keeps_fit laws.passes_fit laws.pays b fit laws.keeps_settings laws.keeps_order
