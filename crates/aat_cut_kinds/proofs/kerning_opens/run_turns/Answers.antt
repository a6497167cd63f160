use Rattle.std.proofs.Common.{◌≡◌, ◌≢◌, ◌∙◌, ℕ, ◌<◌, ◌≤◌, not, ℤ, Bool, true, false, List, ap, sym, subst, arith, length, get_or, rules}
use Rattle.std.proofs.Math.Nat.{le_trans}
use Rattle.aat_run.specs.Budget.{operations_left}
use Rattle.aat_run.specs.Context.{Config, first_config}
use Rattle.aat_run.specs.Machine.{Ends, Goes}
use Rattle.aat_kerning_machines.specs.KerningMachine.{kerning_turn}
use Rattle.aat_kerning_machines.specs.Runs.{config, driver_over, machine_over}
use Rattle.aat_kerning_machines.proofs.Coming.{ends, few_operations, goes_on}
use Rattle.aat_cut_kinds.specs.inside.OpenRuns.{is_harmless}
use Rattle.aat_cut_kinds.proofs.ClosedPlaces.{none_still, told_here, told_kept}
use Rattle.aat_cut_kinds.proofs.KerningFalls.{turn_falls}
use Rattle.aat_cut_kinds.proofs.Opening.{Behind, Closed, answer_ends, answer_goes, falls_to}
use Rattle.aat_cut_kinds.proofs.kerning_opens.run_turns.Goals as goal

pub turn_once-goes_on-requires-clause-turns : goal.turn_once-goes_on-requires-clause-turns
turn_once-goes_on-requires-clause-turns g c =
    let spent : operations_left c.args.buffer.now.max_ops < 2147483648 = rw (← c.max_ops-budget.ensures) (few_operations c.max_ops-budget.result c.max_ops-budget.type_inv) in
    omega (arith, c.loop-span.invariant.come.counted, spent, c.len-length.ensures.count, c.len-length.ensures.small)

pub returns-then-not-goes_on-clause-run : goal.returns-then-not-goes_on-clause-run
returns-then-not-goes_on-clause-run g c =
    let d = g.D.StateTableDriver in
    let laws = g.met.D.StateTableDriver in
    let run = c.args.telling.now.run in
    let m = machine_over run d.actionable d.act c.args.pays_first in
    let places = laws.positions_alone run.table.now run.has_cross_stream run.plan.now.kern_mask run.tuple_count in
    let keeps = laws.keeps_fit run.table.now run.has_cross_stream run.plan.now.kern_mask run.tuple_count in
    let from = first_config c.args.buffer.now c.args.driver.now in
    let here = config c.loop-span.buffer c.loop-span.driver c.loop-span.at in
    let there = config c.turn_once-goes_on.new.buffer c.turn_once-goes_on.new.driver c.turn_once-goes_on.new.run_state in
    let over : c.turn_once-goes_on.result ≡ false = c.if-not-goes_on.true in
    let done = ends m d.fits places keeps laws.passes_fit from here c.loop-span.invariant.come there (c.turn_once-goes_on.ensures.ends over) in
    ap (λ (x : Config _). x.buffer) done

pub returns-then-not-goes_on-clause-opens : goal.returns-then-not-goes_on-clause-opens
returns-then-not-goes_on-clause-opens g c = λ q more inside.
    let d = g.D.StateTableDriver in
    let run = c.args.telling.now.run in
    let k = g.D.TouchingDriver.touching run.table.now run.tuple_count in
    let table = run.state_table.now in
    let alone = g.met.D.TouchingDriver.places_alone run.table.now run.has_cross_stream run.plan.now.kern_mask run.tuple_count in
    let turn = kerning_turn (machine_over run d.actionable d.act c.args.pays_first) in
    let falls = turn_falls k c.args.pays_first table (driver_over run d.actionable d.act c.args.driver.now) alone in
    let here = config c.loop-span.buffer c.loop-span.driver c.loop-span.at in
    let there = config c.turn_once-goes_on.new.buffer c.turn_once-goes_on.new.driver c.turn_once-goes_on.new.run_state in
    let over : c.turn_once-goes_on.result ≡ false = c.if-not-goes_on.true in
    let least = c.least_touched-least.result in
    let old = c.loop-span.opens in
    let mid = c.close.new.opens in
    let closed : Closed old mid q least here.buffer.cursor =
    subst (λ (p : ℕ). Closed old mid q least p) c.backtrack_len-cursor.ensures.place (c.close.ensures.closed q) in
    answer_ends k table turn falls q least old mid here closed (c.least_touched-least.ensures q) there (c.turn_once-goes_on.ensures.ends over)
    (c.loop-span.invariant.unseen q)
    ∙ c.loop-span.invariant.told q more inside

pub loop-span-smaller : goal.loop-span-smaller
loop-span-smaller g c =
    let d = g.D.StateTableDriver in
    let run = c.args.telling.now.run in
    let k = g.D.TouchingDriver.touching run.table.now run.tuple_count in
    let table = run.state_table.now in
    let alone = g.met.D.TouchingDriver.places_alone run.table.now run.has_cross_stream run.plan.now.kern_mask run.tuple_count in
    let turn = kerning_turn (machine_over run d.actionable d.act c.args.pays_first) in
    let falls = turn_falls k c.args.pays_first table (driver_over run d.actionable d.act c.args.driver.now) alone in
    let here = config c.loop-span.buffer c.loop-span.driver c.loop-span.at in
    let there = config c.turn_once-goes_on.new.buffer c.turn_once-goes_on.new.driver c.turn_once-goes_on.new.run_state in
    let on : c.turn_once-goes_on.result ≡ true = c.if-not-goes_on.false in
    (falls_to k table turn falls here there (c.turn_once-goes_on.ensures.goes on)).lower

pub loop-span-preserved : goal.loop-span-preserved
loop-span-preserved g c =
    let d = g.D.StateTableDriver in
    let laws = g.met.D.StateTableDriver in
    let run = c.args.telling.now.run in
    let k = g.D.TouchingDriver.touching run.table.now run.tuple_count in
    let table = run.state_table.now in
    let m = machine_over run d.actionable d.act c.args.pays_first in
    let turn = kerning_turn m in
    let places = laws.positions_alone run.table.now run.has_cross_stream run.plan.now.kern_mask run.tuple_count in
    let keeps = laws.keeps_fit run.table.now run.has_cross_stream run.plan.now.kern_mask run.tuple_count in
    let alone = g.met.D.TouchingDriver.places_alone run.table.now run.has_cross_stream run.plan.now.kern_mask run.tuple_count in
    let falls = turn_falls k c.args.pays_first table (driver_over run d.actionable d.act c.args.driver.now) alone in
    let from = first_config c.args.buffer.now c.args.driver.now in
    let here = config c.loop-span.buffer c.loop-span.driver c.loop-span.at in
    let there = config c.turn_once-goes_on.new.buffer c.turn_once-goes_on.new.driver c.turn_once-goes_on.new.run_state in
    let least = c.least_touched-least.result in
    let old = c.loop-span.opens in
    let mid = c.close.new.opens in
    let new = c.tell.new.opens in
    let on : c.turn_once-goes_on.result ≡ true = c.if-not-goes_on.false in
    let goes : turn here ≡ Goes there = c.turn_once-goes_on.ensures.goes on in
    let behind : Behind here there = falls_to k table turn falls here there goes in
    let place = c.backtrack_len-cursor.ensures.place in
    let closed : (q : ℕ) → Closed old mid q least here.buffer.cursor =
    λ q. subst (λ (p : ℕ). Closed old mid q least p) place (c.close.ensures.closed q) in
    let stays : there.buffer.cursor ≡ here.buffer.cursor → new ≡ mid = λ e. c.tell.ensures.stays (e ∙ sym place) in
    let tells : there.buffer.cursor ≢ here.buffer.cursor → there.buffer.cursor < length mid
    → get_or new there.buffer.cursor false ≡ is_harmless k table there =
    λ ne low. c.tell.ensures.here (λ e. ne (e ∙ place)) low in
    let long_mid : length mid ≡ length c.args.buffer.now.line = c.close.ensures.long ∙ c.loop-span.invariant.long in
    let up_to : c.close.new.span.up_to ≤ here.buffer.cursor =
    subst (λ (p : ℕ). c.close.new.span.up_to ≤ p) place (c.close.ensures.behind (subst (λ (p : ℕ). c.loop-span.span.up_to ≤ p) (sym place) c.loop-span.invariant.behind)) in
    let within = behind.within in
    let same = c.loop-span.invariant.same_line in
    record {
      come = (goes_on m d.fits places keeps laws.passes_fit from here c.loop-span.invariant.come there goes).1;
      ids = c.turn_once-goes_on.ensures.ids;
      placed = c.turn_once-goes_on.ensures.placed;
      same_line = behind.long ∙ same;
      long = c.tell.ensures.long ∙ long_mid;
      within = omega (arith, within, same);
      found = c.look-found-in-loop-span.ensures;
      told = λ q more inside.
          answer_goes k table turn falls q least old mid here
          (closed q) (c.least_touched-least.ensures q) new there goes
          (told_kept mid new here.buffer.cursor there.buffer.cursor q behind.no_less stays (c.tell.ensures.elsewhere q))
          (told_here new here.buffer.cursor there.buffer.cursor (length mid) q (is_harmless k table there) behind.no_more tells
          (omega (arith, inside, long_mid)))
          ∙ c.loop-span.invariant.told q more inside;
      unseen = λ q above.
          none_still old mid new here.buffer.cursor there.buffer.cursor q least behind.no_less (closed q) (c.tell.ensures.elsewhere q)
          (c.loop-span.invariant.unseen q) above;
      closed = λ q more below.
          told_kept mid new here.buffer.cursor there.buffer.cursor q behind.no_less stays (c.tell.ensures.elsewhere q) (le_trans below up_to)
          ∙ c.close.ensures.span q more below;
      behind = le_trans up_to behind.no_less;
    }
