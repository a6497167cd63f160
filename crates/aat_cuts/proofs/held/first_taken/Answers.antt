use Rattle.std.proofs.Common.{◌≡◌, ◌∙◌, false, List, sym, subst}
use Rattle.std.specs.List.{All}
use Rattle.std.proofs.lemmas.List.{take_all}
use Rattle.std.proofs.lemmas.List.Elements.{All-more}
use Rattle.aat_cuts.specs.declared.held.HeldStep.{HeldStep}
use Rattle.aat_cuts.specs.inside.HeldSteps.{is_taken}
use Rattle.aat_cuts.proofs.held.first_taken.Goals as goal

pub loop-step-preserved : goal.loop-step-preserved
loop-step-preserved c =
    All-more (λ s. is_taken c.args.held.now s ≡ false) c.args.steps.now c.loop-step.step-index _ c.loop-step-test.true c.loop-step.invariant (sym c.is_taken-taken.ensures ∙ c.if-taken.false)

pub returns-clause-none : goal.returns-clause-none
returns-clause-none c =
    subst (λ (xs : List HeldStep). All (λ s. is_taken c.args.held.now s ≡ false) xs) (take_all c.loop-step.step-index c.args.steps.now c.loop-step-test.false) c.loop-step.invariant
