use Rattle.std.proofs.Common.{◌≡◌, ◌∙◌, ◌<◌, not, ap, arith}
use Rattle.std.proofs.lemmas.Result.{err_from_is_err_and}
use Rattle.aat_run.specs.Context.{Config, first_config, is_at_end, machine_with}
use Rattle.aat_run.specs.Machine.{Goes, Ends, turn}
use Rattle.aat_run.specs.Ranges.{is_driven_on}
use Rattle.aat_run.specs.inside.Places.{config}
use Rattle.aat_run.specs.Budget.{operations_left}
use Rattle.aat_run.specs.facts.Settings.{settings_then}
use Rattle.aat_run.proofs.FewTurns.{few_operations}
use Rattle.aat_run.proofs.Coming.{come_then, goes_on, ends, refuses}
use Rattle.aat_run.proofs.driver.run_turns.Goals as goal

pub pass_on-requires-clause-fit : goal.pass_on-requires-clause-fit
pass_on-requires-clause-fit g c =
    let context = g.C.driver_context_t in
    let laws = g.met.C.driver_context_t in
    let m = machine_with (is_driven_on c.args.ranges.now c.args.feature_flags) c.args.machine.now context.advances context.actionable context.act in
    let old = config c.loop-wakers.buffer c.loop-wakers.context c.loop-wakers.run_state in
    let new = config c.turn_once.new.buffer c.turn_once.new.context c.turn_once.new.run_state in
    let goes : turn m old ≡ Goes new = rw c.if-branch.true at c.in_ok-turn_once.ensures.turn in
    (goes_on m context.fits laws.keeps_fit laws.passes_fit laws.pays (first_config c.args.buffer.now c.args.context.now) old c.loop-wakers.invariant.come laws.lengthens c.loop-wakers.invariant.longer laws.keeps_settings c.loop-wakers.invariant.settings new goes).1.fit

pub pass_on-requires-clause-turns : goal.pass_on-requires-clause-turns
pass_on-requires-clause-turns g c =
    let context = g.C.driver_context_t in
    let laws = g.met.C.driver_context_t in
    let m = machine_with (is_driven_on c.args.ranges.now c.args.feature_flags) c.args.machine.now context.advances context.actionable context.act in
    let old = config c.loop-wakers.buffer c.loop-wakers.context c.loop-wakers.run_state in
    let new = config c.turn_once.new.buffer c.turn_once.new.context c.turn_once.new.run_state in
    let goes : turn m old ≡ Goes new = rw c.if-branch.true at c.in_ok-turn_once.ensures.turn in
    let on = goes_on m context.fits laws.keeps_fit laws.passes_fit laws.pays (first_config c.args.buffer.now c.args.context.now) old c.loop-wakers.invariant.come laws.lengthens c.loop-wakers.invariant.longer laws.keeps_settings c.loop-wakers.invariant.settings new goes in
    let spent : operations_left c.args.buffer.now.max_ops < 2147483648 = rw (← c.max_ops-budget.ensures) (few_operations c.max_ops-budget.result c.max_ops-budget.type_inv) in
    omega (arith, on.1.counted, spent, c.len-length.ensures.count, c.len-length.ensures.small)

pub loop-wakers-smaller : goal.loop-wakers-smaller
loop-wakers-smaller g c =
    let context = g.C.driver_context_t in
    let laws = g.met.C.driver_context_t in
    let m = machine_with (is_driven_on c.args.ranges.now c.args.feature_flags) c.args.machine.now context.advances context.actionable context.act in
    let old = config c.loop-wakers.buffer c.loop-wakers.context c.loop-wakers.run_state in
    let new = config c.turn_once.new.buffer c.turn_once.new.context c.turn_once.new.run_state in
    let goes : turn m old ≡ Goes new = rw c.if-branch.true at c.in_ok-turn_once.ensures.turn in
    let on = goes_on m context.fits laws.keeps_fit laws.passes_fit laws.pays (first_config c.args.buffer.now c.args.context.now) old c.loop-wakers.invariant.come laws.lengthens c.loop-wakers.invariant.longer laws.keeps_settings c.loop-wakers.invariant.settings new goes in
    omega (arith, on.0, c.pass_on.ensures.less)

pub loop-wakers-preserved : goal.loop-wakers-preserved
loop-wakers-preserved g c =
    let context = g.C.driver_context_t in
    let laws = g.met.C.driver_context_t in
    let m = machine_with (is_driven_on c.args.ranges.now c.args.feature_flags) c.args.machine.now context.advances context.actionable context.act in
    let from = first_config c.args.buffer.now c.args.context.now in
    let old = config c.loop-wakers.buffer c.loop-wakers.context c.loop-wakers.run_state in
    let new = config c.turn_once.new.buffer c.turn_once.new.context c.turn_once.new.run_state in
    let behind = config c.pass_on.new.buffer c.turn_once.new.context c.pass_on.new.run_state in
    let goes : turn m old ≡ Goes new = rw c.if-branch.true at c.in_ok-turn_once.ensures.turn in
    let on = goes_on m context.fits laws.keeps_fit laws.passes_fit laws.pays from old c.loop-wakers.invariant.come laws.lengthens c.loop-wakers.invariant.longer laws.keeps_settings c.loop-wakers.invariant.settings new goes in
    let passed = c.pass_on.ensures.come (is_driven_on c.args.ranges.now c.args.feature_flags) (λ does_pass x. c.may_pass-does_pass.ensures.on c.args.feature_flags x does_pass) in
    record { come = come_then (turn m) context.fits from new behind on.1 passed; ids = c.pass_on.ensures.ids; settings = settings_then c.args.buffer.now c.turn_once.new.buffer c.pass_on.new.buffer on.2 c.pass_on.ensures.settings; longer = omega (arith, on.3, c.pass_on.ensures.length) }

pub returns-clause-run : goal.returns-clause-run
returns-clause-run g c =
    let context = g.C.driver_context_t in
    let laws = g.met.C.driver_context_t in
    let m = machine_with (is_driven_on c.args.ranges.now c.args.feature_flags) c.args.machine.now context.advances context.actionable context.act in
    let old = config c.loop-wakers.buffer c.loop-wakers.context c.loop-wakers.run_state in
    let new = config c.turn_once.new.buffer c.turn_once.new.context c.turn_once.new.run_state in
    let last : turn m old ≡ Ends new = rw c.if-branch.false at c.in_ok-turn_once.ensures.turn in
    let done = (ends m context.fits laws.keeps_fit laws.passes_fit laws.pays (first_config c.args.buffer.now c.args.context.now) old c.loop-wakers.invariant.come new last).0 in
    record { buffer = ap (λ (d : Config _). d.buffer) done; registers = ap (λ (d : Config _). d.registers) done; counted = ap (λ (d : Config _). d.turns) done }

pub returns-clause-through : goal.returns-clause-through
returns-clause-through g c =
    let context = g.C.driver_context_t in
    let laws = g.met.C.driver_context_t in
    let m = machine_with (is_driven_on c.args.ranges.now c.args.feature_flags) c.args.machine.now context.advances context.actionable context.act in
    let old = config c.loop-wakers.buffer c.loop-wakers.context c.loop-wakers.run_state in
    let new = config c.turn_once.new.buffer c.turn_once.new.context c.turn_once.new.run_state in
    let last : turn m old ≡ Ends new = rw c.if-branch.false at c.in_ok-turn_once.ensures.turn in
    let done = (ends m context.fits laws.keeps_fit laws.passes_fit laws.pays (first_config c.args.buffer.now c.args.context.now) old c.loop-wakers.invariant.come new last).0 in
    ap not c.has_current.ensures.current ∙ ap (λ (d : Config _). is_at_end d.buffer) done

pub returns-clause-few : goal.returns-clause-few
returns-clause-few g c =
    let context = g.C.driver_context_t in
    let laws = g.met.C.driver_context_t in
    let m = machine_with (is_driven_on c.args.ranges.now c.args.feature_flags) c.args.machine.now context.advances context.actionable context.act in
    let old = config c.loop-wakers.buffer c.loop-wakers.context c.loop-wakers.run_state in
    let new = config c.turn_once.new.buffer c.turn_once.new.context c.turn_once.new.run_state in
    let last : turn m old ≡ Ends new = rw c.if-branch.false at c.in_ok-turn_once.ensures.turn in
    let done = ends m context.fits laws.keeps_fit laws.passes_fit laws.pays (first_config c.args.buffer.now c.args.context.now) old c.loop-wakers.invariant.come new last in
    omega (arith, done.1)

pub returns-in_err-turn_once-clause-reason : goal.returns-in_err-turn_once-clause-reason
returns-in_err-turn_once-clause-reason g c =
    let context = g.C.driver_context_t in
    let laws = g.met.C.driver_context_t in
    let m = machine_with (is_driven_on c.args.ranges.now c.args.feature_flags) c.args.machine.now context.advances context.actionable context.act in
    let old = config c.loop-wakers.buffer c.loop-wakers.context c.loop-wakers.run_state in
    let p = err_from_is_err_and c.from_residual.result c.from_residual.ensures.1 in
    rw (p.1, p.2) (refuses m context.fits laws.keeps_fit laws.passes_fit laws.pays (first_config c.args.buffer.now c.args.context.now) old c.loop-wakers.invariant.come laws.lengthens c.loop-wakers.invariant.longer laws.keeps_settings c.loop-wakers.invariant.settings c.in_err-turn_once.field-0.0 c.in_err-turn_once.ensures.reason)
