use Rattle.std.proofs.Common.{◌∙◌, ap, arith, length, rules}
use Rattle.aat_buffer.specs.Buffer.{Buffer}
use Rattle.aat_kinds.proofs.Putting.{small_of_inserted, small_of_made}
use Rattle.aat_kinds.specs.facts.InsertionLaws.{length_inserted}
use Rattle.aat_kinds.specs.Insertion.{inserted}
use Rattle.aat_kinds.proofs.insertion.put_in.Goals as goal

-- answered here, so that a wrong body is refused sooner
pub returns-clause-ok : goal.returns-clause-ok
unfolding inserted
returns-clause-ok g c = search (rules, small_of_made, length_inserted)

pub returns-clause-ids : goal.returns-clause-ids
returns-clause-ids g c =
    let b = c.args.buffer.now in
    rw (returns-clause-ok g c) (small_of_inserted c.args.run.now c.args.place c.args.behind b.line c.requires.ids (rw c.model_of-model.ensures at c.in_ok-insert_copies.ensures.small))

pub returns-clause-count : goal.returns-clause-count
returns-clause-count g c =
    ap (λ (d : Buffer). length d.line) (returns-clause-ok g c) ∙ length_inserted c.args.run.now c.args.place c.args.behind c.args.buffer.now.line

pub returns-then-run-eq0-clause-too_long : goal.returns-then-run-eq0-clause-too_long
returns-then-run-eq0-clause-too_long g c = λ over.
    let long = length_inserted c.args.run.now c.args.place c.args.behind c.args.buffer.now.line in
    absurd (omega (arith, over, long))
