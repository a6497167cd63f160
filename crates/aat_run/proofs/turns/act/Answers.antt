use Rattle.std.proofs.Common.{rules, All, subst, sym}
use Rattle.std.proofs.lemmas.Result.{err_from_is_err_and}
use Rattle.aat_buffer.specs.Buffer.{Is16Bit}
use Rattle.aat_run.specs.facts.Settings.{refused_behind}
use Rattle.aat_run.specs.Machine.{acted}
use Rattle.aat_run.proofs.turns.act.Goals as goal

-- answered here, so that a wrong body is refused sooner
pub returns-clause-turn : goal.returns-clause-turn
unfolding acted
returns-clause-turn g c = search (rules, refused_behind)

pub mark_unsafe-requires-clause-ids : goal.mark_unsafe-requires-clause-ids
mark_unsafe-requires-clause-ids g c = c.requires.ids

pub mark_unsafe-requires-clause-class : goal.mark_unsafe-requires-clause-class
mark_unsafe-requires-clause-class g c = c.requires.class

pub mark_unsafe-requires-clause-judged : goal.mark_unsafe-requires-clause-judged
mark_unsafe-requires-clause-judged g c = c.requires.judged

pub transition-requires-clause-fit : goal.transition-requires-clause-fit
transition-requires-clause-fit g c = rw (c.mark_unsafe.ensures.cursor, c.mark_unsafe.ensures.length) c.requires.fit

pub transition-requires-clause-ids : goal.transition-requires-clause-ids
transition-requires-clause-ids g c = c.mark_unsafe.ensures.ids

pub returns-clause-ids : goal.returns-clause-ids
returns-clause-ids g c = subst (All Is16Bit) (sym c.settle.ensures.line) c.in_ok-transition.ensures.ids

pub returns-in_err-transition-clause-refused : goal.returns-in_err-transition-clause-refused
returns-in_err-transition-clause-refused g c =
    let p = err_from_is_err_and c.from_residual.result c.from_residual.ensures.1 in
    rw p.1 (refused_behind c.args.buffer.now c.mark_unsafe.new.buffer c.transition.new.buffer c.mark_unsafe.ensures.settings c.in_err-transition.ensures.refused)
