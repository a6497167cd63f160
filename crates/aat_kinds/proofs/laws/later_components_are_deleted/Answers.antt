use Rattle.aat_kinds.specs.facts.LigatureLaws.{deleted_by_id, stored_deletes}
use Rattle.aat_kinds.proofs.laws.later_components_are_deleted.Goals as goal

pub returns : goal.returns
returns c = λ m h r b p j fit low high. deleted_by_id _ (stored_deletes m h r b p j fit low high)
