use Rattle.std.proofs.Common.{◌≡◌, ◌∙◌, ◌++◌, ℕ, ◌<◌, Bool, List, drop, false, length, get_or, take, ap, sym, arith}
use Rattle.aat_buffer.specs.Buffer.{Buffer, with_cursor}
use Rattle.aat_kerning_machines.specs.KerningMachine.{driver_run, kerning_turn, kerning_whole}
use Rattle.aat_kerning_machines.specs.Runs.{driver_over, machine_over}
use Rattle.aat_run.specs.Context.{first_config}
use Rattle.aat_cut_kinds.specs.inside.OpenRuns.{will_open}
use Rattle.aat_cut_kinds.proofs.KerningFalls.{opens_by_turns}
use Rattle.aat_cut_kinds.proofs.WrittenBack.{written_back}
use Rattle.aat_cut_kinds.proofs.kerning_opens.kern_openly.Goals as goal

pub returns-clause-kerned : goal.returns-clause-kerned
unfolding driver_run
returns-clause-kerned g c =
    let d = g.D.StateTableDriver in
    let run = c.args.run in
    let k = g.D.TouchingDriver.touching run.table.now run.tuple_count in
    let table = run.state_table.now in
    let alone = g.met.D.TouchingDriver.places_alone run.table.now run.has_cross_stream run.plan.now.kern_mask run.tuple_count in
    let driver = driver_over run d.actionable d.act c.args.driver.now in
    let m = machine_over run d.actionable d.act c.args.pays_first in
    let b = c.args.buffer.now in
    let new = c.run_turns.new.opens in
    let front : c.sync.new.self ≡ with_cursor b 0 = c.sync.ensures in
    let same : length c.sync.new.self.line ≡ length b.line = ap (λ (x : Buffer). length x.line) front in
    let long : length new ≡ length b.line = c.run_turns.ensures.long ∙ same in
    let made = c.in_ok-opens.ensures.len in
    let asked = c.len.ensures.count in
    let whole : take c.in_ok-opens.opens.len (new ++ drop (length new) c.in_ok-opens.opens.items) ≡ new =
    written_back new c.in_ok-opens.opens.items c.in_ok-opens.opens.len (omega (arith, long, made, asked)) (sym c.in_ok-opens.opens.ok.0) in
    record {
      left = c.sync-2.ensures ∙ ap (λ (x : Buffer). with_cursor x 0)
          (c.run_turns.ensures.run ∙ ap (λ (x : Buffer). (kerning_whole m (first_config x c.args.driver.now)).buffer) front);
      long = ap length whole ∙ long;
      opens = λ q more inside.
          ap (λ (xs : List Bool). get_or xs q false) whole
          ∙ (c.run_turns.ensures.opens q more (omega (arith, inside, same))
          ∙ (ap (λ (x : Buffer). will_open k table (kerning_turn m) q (first_config x c.args.driver.now)) front
          ∙ sym (opens_by_turns k c.args.pays_first table driver alone q b)));
    }
