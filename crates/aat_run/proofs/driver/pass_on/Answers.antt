use Rattle.std.proofs.Common.{refl, subst, sym, ℕ, arith}
use Rattle.aat_run.specs.Context.{machine_with}
use Rattle.aat_run.specs.Machine.{turn}
use Rattle.aat_run.specs.Waking.{PassesOthers}
use Rattle.aat_run.specs.inside.Places.{config}
use Rattle.aat_run.specs.inside.Standing.{HasCome}
use Rattle.aat_run.proofs.Passing.{at_more, passed_more}
use Rattle.aat_run.proofs.driver.pass_on.Goals as goal

pub returns-then-run_state-eq-START_OF_TEXT-clause-come : goal.returns-then-run_state-eq-START_OF_TEXT-clause-come
returns-then-run_state-eq-START_OF_TEXT-clause-come g c = λ on every.
    let context = g.C.driver_context_t in
    let laws = g.met.C.driver_context_t in
    let here = config c.args.buffer.now c.args.context.now c.args.run_state.now in
    let others : PassesOthers context.advances context.resting c.args.machine.now c.in-Some.wakers = rw c.in-Some.is at c.requires.others in
    let behind =
    passed_more c.args.machine.now context.advances context.actionable context.act context.resting laws.rests_alone context.fits laws.keeps_fit laws.passes_fit laws.pays (c.requires.end c.if-does_pass.true)
    here here on (every c.if-does_pass.true) (record { run = refl; fit = c.requires.fit; counted = omega arith }) c.if-run_state-eq-START_OF_TEXT.true c.pass_asleep.result c.pass_asleep.ensures.within
    (λ i low. others.1 _ (c.pass_asleep.ensures.asleep i low)) in
    let m = machine_with on c.args.machine.now context.advances context.actionable context.act in
    rw (c.pass_asleep.ensures.passed, c.pass_asleep.ensures.counted)
    (subst (λ (s : ℕ). HasCome (turn m) context.fits here (record (at_more c.args.machine.now context.advances context.actionable context.act context.resting laws.rests_alone context.fits laws.keeps_fit laws.passes_fit laws.pays (c.requires.end c.if-does_pass.true) here c.pass_asleep.result) { state = s })) (sym c.if-run_state-eq-START_OF_TEXT.true) behind)
