use Rattle.aat_kerning_machines.specs.KerningMachine.{driver_from, kerning_machine_of}
use Rattle.aat_kerning_machines.specs.facts.KerningPayments.{pays_for_staying}
use Rattle.aat_kerning_machines.specs.facts.KerningRuns.{runs_end}
use Rattle.aat_kerning_machines.proofs.laws.kerning_runs_end.Goals as goal

pub returns-clause-ends : goal.returns-clause-ends
returns-clause-ends g c pays_first state_table table is_cross kern_mask tuple_count fresh d fits =
    let driver = g.D.StateTableDriver in
    let laws = g.met.D.StateTableDriver in
    let act = driver.act table is_cross kern_mask tuple_count in
    runs_end (kerning_machine_of pays_first state_table (driver_from driver.actionable act fresh)) driver.fits
    (laws.positions_alone table is_cross kern_mask tuple_count) (laws.keeps_fit table is_cross kern_mask tuple_count) laws.passes_fit d fits

pub returns-clause-staying : goal.returns-clause-staying
returns-clause-staying g c pays_first state_table table is_cross kern_mask tuple_count fresh d e fits goes at =
    let driver = g.D.StateTableDriver in
    let laws = g.met.D.StateTableDriver in
    let act = driver.act table is_cross kern_mask tuple_count in
    pays_for_staying (kerning_machine_of pays_first state_table (driver_from driver.actionable act fresh)) driver.fits
    (laws.positions_alone table is_cross kern_mask tuple_count) d e fits goes at
