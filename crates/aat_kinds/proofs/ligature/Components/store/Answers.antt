use Rattle.std.proofs.Common.{rules}
use Rattle.aat_kinds.specs.Ligature.{stored}
use Rattle.aat_kinds.specs.facts.LigatureLaws.{deleted_by_id, stored_deletes}
use Rattle.aat_kinds.proofs.ligature.Components.store.Goals as goal

pub returns-clause-stored : goal.returns-clause-stored
unfolding stored
returns-clause-stored g c = search rules

pub returns-clause-deleted : goal.returns-clause-deleted
returns-clause-deleted g c =
    let r = c.args.self.now in
    let b = c.args.buffer.now in
    λ j low high. rw (returns-clause-stored g c) (deleted_by_id _ (stored_deletes c.args.c c.args.ligature.0 r b b.cursor j c.requires.fit low high))
