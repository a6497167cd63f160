use Rattle.aat_buffer.specs.Clusters.{IsSmall}
use Rattle.aat_run.specs.Budget.{potential}
use Rattle.aat_run.specs.Context.{first_config}
use Rattle.aat_run.specs.inside.Standing.{HasCome}
use Rattle.aat_kerning_machines.specs.KerningMachine.{kerning_machine_with, kerning_turn}
use Rattle.aat_kerning_machines.specs.Positions.{IsPlaced}
use Rattle.aat_kerning_machines.specs.Runs.{config}
use Rattle.aat_kerning_machines.proofs.kerning_run.run_turns.Given as goal

abbrev pub invariant-loop-run_state : goal.invariant-loop-run_state
invariant-loop-run_state g l =
    let d = g.D.StateTableDriver in
    let act = d.act l.fn.run.table.now l.fn.run.has_cross_stream l.fn.run.plan.now.kern_mask l.fn.run.tuple_count in
    let m = kerning_machine_with l.fn.pays_first l.fn.run.state_table.now d.actionable act in
    record {
      come : HasCome (kerning_turn m) d.fits (first_config l.fn.buffer l.fn.driver) (config l.buffer l.driver l.run_state);
      ids : IsSmall l.buffer;
      placed : IsPlaced l.buffer;
    }

abbrev pub decreases-loop-run_state : goal.decreases-loop-run_state
decreases-loop-run_state g l = potential l.buffer
