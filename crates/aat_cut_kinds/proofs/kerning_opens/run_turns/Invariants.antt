use Rattle.std.proofs.Common.{◌≡◌, ◌<◌, ◌≤◌, ℕ, false, length, get_or}
use Rattle.aat_buffer.specs.Clusters.{IsSmall}
use Rattle.aat_run.specs.Budget.{potential}
use Rattle.aat_run.specs.Context.{first_config}
use Rattle.aat_run.specs.inside.Standing.{HasCome}
use Rattle.aat_kerning_machines.specs.KerningMachine.{kerning_turn}
use Rattle.aat_kerning_machines.specs.Positions.{IsPlaced}
use Rattle.aat_kerning_machines.specs.Runs.{config, machine_over}
use Rattle.aat_cut_kinds.specs.inside.ClosedSpans.{AreClosed}
use Rattle.aat_cut_kinds.specs.inside.OpenRuns.{will_open}
use Rattle.aat_cut_kinds.specs.inside.Standings.{found_at}
use Rattle.aat_cut_kinds.proofs.Opening.{Answer}
use Rattle.aat_cut_kinds.proofs.kerning_opens.run_turns.Given as goal

abbrev pub invariant-loop-span : goal.invariant-loop-span
invariant-loop-span g l =
    let d = g.D.StateTableDriver in
    let run = l.fn.telling.run in
    let k = g.D.TouchingDriver.touching run.table.now run.tuple_count in
    let turn = kerning_turn (machine_over run d.actionable d.act l.fn.pays_first) in
    let first = first_config l.fn.buffer l.fn.driver in
    let here = config l.buffer l.driver l.at in
    record {
      come : HasCome turn d.fits first here;
      ids : IsSmall l.buffer;
      placed : IsPlaced l.buffer;
      same_line : length l.buffer.line ≡ length l.fn.buffer.line;
      long : length l.opens ≡ length l.fn.buffer.line;
      within : l.buffer.cursor ≤ length l.fn.buffer.line;
      found : l.found ≡ found_at run.state_table.now l.at.state l.buffer;
      told : (q : ℕ) → 0 < q → q < length l.fn.buffer.line
          → Answer k run.state_table.now turn l.opens q here ≡ will_open k run.state_table.now turn q first;
      unseen : (q : ℕ) → l.buffer.cursor < q → get_or l.opens q false ≡ false;
      closed : AreClosed l.opens l.span;
      behind : l.span.up_to ≤ l.buffer.cursor;
    }

abbrev pub decreases-loop-span : goal.decreases-loop-span
decreases-loop-span g l = potential l.buffer
