use Rattle.aat_run.specs.Context.{machine_with}
use Rattle.aat_run.specs.facts.MachineRuns.{runs_end}
use Rattle.aat_run.proofs.laws.runs_end.Goals as goal

pub returns : goal.returns
returns g c on table d fits =
    let context = g.C.driver_context_t in
    let laws = g.met.C.driver_context_t in
    runs_end (machine_with on table context.advances context.actionable context.act) context.fits laws.keeps_fit laws.passes_fit laws.pays d fits
