use Rattle.std.proofs.Common.{rules}
use Rattle.aat_kinds.specs.Contextual.{act}
use Rattle.aat_kinds.proofs.contextual.ContextualCtxdriver_context_tContextualEntryData.transition.Goals as goal

-- answered here, so that a wrong body is refused sooner
pub returns-then-has_mark-clause-act : goal.returns-then-has_mark-clause-act
unfolding act
returns-then-has_mark-clause-act g c = search rules
