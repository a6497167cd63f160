use Rattle.std.proofs.Common.{rules}
use Rattle.aat_kinds.specs.Rearrangement.{act}
use Rattle.aat_kinds.proofs.Acted.{acted_small, acted_permutes}
use Rattle.aat_kinds.proofs.rearrangement.RearrangementCtxdriver_context_tUnit.transition.Goals as goal

pub returns-then-is_within-clause-act : goal.returns-then-is_within-clause-act
unfolding act
returns-then-is_within-clause-act g c = search rules

pub returns-then-is_within-clause-ids : goal.returns-then-is_within-clause-ids
returns-then-is_within-clause-ids g c =
    acted_small g.row.LONGEST c.args.entry.now c.args.self.now c.set_marks.new.self c.args.buffer.now c.move_marked.new.buffer (returns-then-is_within-clause-act g c) c.requires.fit c.requires.ids

pub returns-then-is_within-clause-permutes : goal.returns-then-is_within-clause-permutes
returns-then-is_within-clause-permutes g c =
    acted_permutes g.row.LONGEST c.args.entry.now c.args.self.now c.set_marks.new.self c.args.buffer.now c.move_marked.new.buffer (returns-then-is_within-clause-act g c) c.requires.fit
