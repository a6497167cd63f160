use Rattle.std.proofs.Common.{◌≡◌, ◌&&◌, ◌∙◌, false, List, sym, subst}
use Rattle.std.specs.List.{All}
use Rattle.std.proofs.lemmas.List.{take_all}
use Rattle.std.proofs.lemmas.List.Elements.{All-more}
use Rattle.aat_cuts.specs.Reached.{is_labelled}
use Rattle.aat_cuts.specs.declared.steps.Step.{Step}
use Rattle.aat_cuts.proofs.steps.first_unset.Goals as goal

pub loop-step-preserved : goal.loop-step-preserved
loop-step-preserved c =
    All-more (λ s. (s.uses && is_labelled c.args.labels.now s.state) ≡ false) c.args.steps.now c.loop-step.step-index _ c.loop-step-test.true c.loop-step.invariant (sym c.is_unset_at-is_unset.ensures ∙ c.if-is_unset.false)

pub returns-clause-none : goal.returns-clause-none
returns-clause-none c =
    subst (λ (xs : List Step). All (λ s. (s.uses && is_labelled c.args.labels.now s.state) ≡ false) xs) (take_all c.loop-step.step-index c.args.steps.now c.loop-step-test.false) c.loop-step.invariant
