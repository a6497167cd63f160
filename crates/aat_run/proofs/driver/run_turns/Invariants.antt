use Rattle.std.specs.Prelude.{◌≤◌, length}
use Rattle.aat_buffer.specs.Clusters.{IsSmall}
use Rattle.aat_run.specs.Budget.{potential}
use Rattle.aat_run.specs.Context.{first_config, machine_with}
use Rattle.aat_run.specs.Laws.{SameSettings}
use Rattle.aat_run.specs.Machine.{turn}
use Rattle.aat_run.specs.Ranges.{is_driven_on}
use Rattle.aat_run.specs.inside.Places.{config}
use Rattle.aat_run.specs.inside.Standing.{HasCome}
use Rattle.aat_run.proofs.driver.run_turns.Given as goal

abbrev pub invariant-loop-wakers : goal.invariant-loop-wakers
invariant-loop-wakers g l =
    let context = g.C.driver_context_t in
    let m = machine_with (is_driven_on l.fn.ranges l.fn.feature_flags) l.fn.machine context.advances context.actionable context.act in
    record {
      come : HasCome (turn m) context.fits (first_config l.fn.buffer l.fn.context) (config l.buffer l.context l.run_state);
      ids : IsSmall l.buffer;
      settings : SameSettings l.fn.buffer l.buffer;
      longer : length l.fn.buffer.line ≤ length l.buffer.line;
    }

abbrev pub decreases-loop-wakers : goal.decreases-loop-wakers
decreases-loop-wakers g l = potential l.buffer
