use Rattle.std.proofs.Common.{◌≡◌, ◌∙◌, false, sym}
use borrow.Author.Count.{below_more}
use Rattle.aat_cuts.specs.inside.HeldSteps.{is_over}
use Rattle.aat_cuts.proofs.held.first_over.Goals as goal

pub loop-state-preserved : goal.loop-state-preserved
loop-state-preserved c =
    below_more (λ s. is_over c.args.reached.now c.args.held.now s ≡ false) c.loop-state.state c.loop-state.invariant (sym c.is_over-over.ensures ∙ c.if-over.false)
