use Rattle.std.proofs.Common.{rules, ap}
use Rattle.aat_run.specs.Context.{Moved}
use Rattle.aat_kinds.specs.Ligature.{Held, act}
use Rattle.aat_kinds.proofs.LaterDeleted.{act_deletes_later}
use Rattle.aat_kinds.proofs.ligature.LigatureCtxdriver_context_tU16.transition.Goals as goal

pub returns-then-cursor-length-clause-act : goal.returns-then-cursor-length-clause-act
unfolding act
returns-then-cursor-length-clause-act g c = search rules

pub returns-then-cursor-length-clause-deleted : goal.returns-then-cursor-length-clause-deleted
returns-then-cursor-length-clause-deleted g c =
    rw (ap (λ (m : Moved Held). m.buffer) (returns-then-cursor-length-clause-act g c)) (act_deletes_later c.args.entry.now c.args.self.now c.args.buffer.now c.requires.fit)
