use Rattle.std.proofs.Common.{◌≡◌, ◌<◌, ap, arith}
use Rattle.aat_run.specs.Budget.{operations_left}
use Rattle.aat_run.specs.Context.{Config, first_config}
use Rattle.aat_run.specs.Machine.{Goes, Ends}
use Rattle.aat_kerning_machines.specs.KerningMachine.{kerning_machine_with, kerning_turn}
use Rattle.aat_kerning_machines.specs.Runs.{config}
use Rattle.aat_kerning_machines.proofs.Coming.{come_then, few_operations, goes_on, ends, ends_paid}
use Rattle.aat_kerning_machines.proofs.kerning_run.run_turns.Goals as goal

pub next_entry-entry-requires-clause-turns : goal.next_entry-entry-requires-clause-turns
next_entry-entry-requires-clause-turns g c =
    let spent : operations_left c.args.buffer.now.max_ops < 2147483648 = rw (← c.max_ops-budget.ensures) (few_operations c.max_ops-budget.result c.max_ops-budget.type_inv) in
    omega (arith, c.loop-run_state.invariant.come.counted, spent, c.len-length.ensures.count, c.len-length.ensures.small)

pub turn_once-requires-clause-fit : goal.turn_once-requires-clause-fit
turn_once-requires-clause-fit g c =
    let d = g.D.StateTableDriver in
    let laws = g.met.D.StateTableDriver in
    let run = c.args.run.now in
    let is_cross = run.has_cross_stream in
    let kern_mask = run.plan.now.kern_mask in
    let act = d.act run.table.now is_cross kern_mask run.tuple_count in
    let m = kerning_machine_with c.args.pays_first run.state_table.now d.actionable act in
    let from = first_config c.args.buffer.now c.args.driver.now in
    let old = config c.loop-run_state.buffer c.loop-run_state.driver c.loop-run_state.run_state in
    let mid = config c.next_entry-entry.new.buffer c.loop-run_state.driver c.next_entry-entry.new.run_state in
    let come = come_then (kerning_turn m) d.fits from old mid c.loop-run_state.invariant.come (c.next_entry-entry.ensures.come c.args.pays_first) in
    come.fit

pub turn_once-requires-clause-turns : goal.turn_once-requires-clause-turns
turn_once-requires-clause-turns g c =
    let d = g.D.StateTableDriver in
    let laws = g.met.D.StateTableDriver in
    let run = c.args.run.now in
    let is_cross = run.has_cross_stream in
    let kern_mask = run.plan.now.kern_mask in
    let act = d.act run.table.now is_cross kern_mask run.tuple_count in
    let m = kerning_machine_with c.args.pays_first run.state_table.now d.actionable act in
    let from = first_config c.args.buffer.now c.args.driver.now in
    let old = config c.loop-run_state.buffer c.loop-run_state.driver c.loop-run_state.run_state in
    let mid = config c.next_entry-entry.new.buffer c.loop-run_state.driver c.next_entry-entry.new.run_state in
    let come = come_then (kerning_turn m) d.fits from old mid c.loop-run_state.invariant.come (c.next_entry-entry.ensures.come c.args.pays_first) in
    let spent : operations_left c.args.buffer.now.max_ops < 2147483648 = rw (← c.max_ops-budget.ensures) (few_operations c.max_ops-budget.result c.max_ops-budget.type_inv) in
    omega (arith, come.counted, spent, c.len-length.ensures.count, c.len-length.ensures.small)

pub loop-run_state-smaller : goal.loop-run_state-smaller
loop-run_state-smaller g c =
    let d = g.D.StateTableDriver in
    let laws = g.met.D.StateTableDriver in
    let run = c.args.run.now in
    let is_cross = run.has_cross_stream in
    let kern_mask = run.plan.now.kern_mask in
    let act = d.act run.table.now is_cross kern_mask run.tuple_count in
    let m = kerning_machine_with c.args.pays_first run.state_table.now d.actionable act in
    let places = laws.positions_alone run.table.now is_cross kern_mask run.tuple_count in
    let keeps = laws.keeps_fit run.table.now is_cross kern_mask run.tuple_count in
    let from = first_config c.args.buffer.now c.args.driver.now in
    let old = config c.loop-run_state.buffer c.loop-run_state.driver c.loop-run_state.run_state in
    let mid = config c.next_entry-entry.new.buffer c.loop-run_state.driver c.next_entry-entry.new.run_state in
    let come = come_then (kerning_turn m) d.fits from old mid c.loop-run_state.invariant.come (c.next_entry-entry.ensures.come c.args.pays_first) in
    let new = config c.turn_once.new.buffer c.turn_once.new.driver c.turn_once.new.run_state in
    let goes : kerning_turn m mid ≡ Goes new = c.turn_once.ensures.goes c.if-not-turn_once.false in
    let on = goes_on m d.fits places keeps laws.passes_fit from mid come new goes in
    omega (arith, on.0, c.next_entry-entry.ensures.less)

pub loop-run_state-preserved : goal.loop-run_state-preserved
loop-run_state-preserved g c =
    let d = g.D.StateTableDriver in
    let laws = g.met.D.StateTableDriver in
    let run = c.args.run.now in
    let is_cross = run.has_cross_stream in
    let kern_mask = run.plan.now.kern_mask in
    let act = d.act run.table.now is_cross kern_mask run.tuple_count in
    let m = kerning_machine_with c.args.pays_first run.state_table.now d.actionable act in
    let places = laws.positions_alone run.table.now is_cross kern_mask run.tuple_count in
    let keeps = laws.keeps_fit run.table.now is_cross kern_mask run.tuple_count in
    let from = first_config c.args.buffer.now c.args.driver.now in
    let old = config c.loop-run_state.buffer c.loop-run_state.driver c.loop-run_state.run_state in
    let mid = config c.next_entry-entry.new.buffer c.loop-run_state.driver c.next_entry-entry.new.run_state in
    let come = come_then (kerning_turn m) d.fits from old mid c.loop-run_state.invariant.come (c.next_entry-entry.ensures.come c.args.pays_first) in
    let new = config c.turn_once.new.buffer c.turn_once.new.driver c.turn_once.new.run_state in
    let goes : kerning_turn m mid ≡ Goes new = c.turn_once.ensures.goes c.if-not-turn_once.false in
    let on = goes_on m d.fits places keeps laws.passes_fit from mid come new goes in
    record { come = on.1; ids = c.turn_once.ensures.ids; placed = c.turn_once.ensures.placed }

pub returns-then-not-turn_once-clause-run : goal.returns-then-not-turn_once-clause-run
returns-then-not-turn_once-clause-run g c =
    let d = g.D.StateTableDriver in
    let laws = g.met.D.StateTableDriver in
    let run = c.args.run.now in
    let is_cross = run.has_cross_stream in
    let kern_mask = run.plan.now.kern_mask in
    let act = d.act run.table.now is_cross kern_mask run.tuple_count in
    let m = kerning_machine_with c.args.pays_first run.state_table.now d.actionable act in
    let places = laws.positions_alone run.table.now is_cross kern_mask run.tuple_count in
    let keeps = laws.keeps_fit run.table.now is_cross kern_mask run.tuple_count in
    let from = first_config c.args.buffer.now c.args.driver.now in
    let old = config c.loop-run_state.buffer c.loop-run_state.driver c.loop-run_state.run_state in
    let mid = config c.next_entry-entry.new.buffer c.loop-run_state.driver c.next_entry-entry.new.run_state in
    let come = come_then (kerning_turn m) d.fits from old mid c.loop-run_state.invariant.come (c.next_entry-entry.ensures.come c.args.pays_first) in
    let new = config c.turn_once.new.buffer c.turn_once.new.driver c.turn_once.new.run_state in
    let last : kerning_turn m mid ≡ Ends new = c.turn_once.ensures.ends c.if-not-turn_once.true in
    let done = ends m d.fits places keeps laws.passes_fit from mid come new last in
    record {
      buffer = ap (λ (x : Config _). x.buffer) done;
      registers = ap (λ (x : Config _). x.registers) done;
      counted = ap (λ (x : Config _). x.turns) done;
    }

pub returns-then-not-turn_once-clause-paid : goal.returns-then-not-turn_once-clause-paid
returns-then-not-turn_once-clause-paid g c =
    let d = g.D.StateTableDriver in
    let laws = g.met.D.StateTableDriver in
    let run = c.args.run.now in
    let is_cross = run.has_cross_stream in
    let kern_mask = run.plan.now.kern_mask in
    let act = d.act run.table.now is_cross kern_mask run.tuple_count in
    let m = kerning_machine_with c.args.pays_first run.state_table.now d.actionable act in
    let places = laws.positions_alone run.table.now is_cross kern_mask run.tuple_count in
    let keeps = laws.keeps_fit run.table.now is_cross kern_mask run.tuple_count in
    let from = first_config c.args.buffer.now c.args.driver.now in
    let old = config c.loop-run_state.buffer c.loop-run_state.driver c.loop-run_state.run_state in
    let mid = config c.next_entry-entry.new.buffer c.loop-run_state.driver c.next_entry-entry.new.run_state in
    let come = come_then (kerning_turn m) d.fits from old mid c.loop-run_state.invariant.come (c.next_entry-entry.ensures.come c.args.pays_first) in
    let new = config c.turn_once.new.buffer c.turn_once.new.driver c.turn_once.new.run_state in
    let last : kerning_turn m mid ≡ Ends new = c.turn_once.ensures.ends c.if-not-turn_once.true in
    let done = ends m d.fits places keeps laws.passes_fit from mid come new last in
    omega (arith, ends_paid m d.fits places keeps laws.passes_fit from new c.requires.fit done)
