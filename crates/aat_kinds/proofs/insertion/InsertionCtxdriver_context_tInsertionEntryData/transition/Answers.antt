use Rattle.std.proofs.Common.{◌≡◌, ◌≤◌, true, ap, arith, length}
use Rattle.std.proofs.lemmas.Bool.Decides.{nat_tests}
use Rattle.std.proofs.lemmas.Int.{ints}
use Rattle.std.proofs.lemmas.Result.{err_from_is_err_and}
use Rattle.aat_buffer.specs.Buffer.{Buffer}
use Rattle.aat_machine_tables.specs.Entries.{is_present}
use Rattle.aat_run.specs.Budget.{paid, has_operations}
use Rattle.aat_kinds.specs.Insertion.{act, at_mark, marked_count}
use Rattle.aat_kinds.specs.facts.InsertionLaws.{marked_within}
use Rattle.aat_kinds.proofs.Refusals.{refusal_within}
use Rattle.aat_kinds.proofs.insertion.InsertionCtxdriver_context_tInsertionEntryData.transition.Goals as goal

pub returns-in_err-insert_marked-clause-reason : goal.returns-in_err-insert_marked-clause-reason
returns-in_err-insert_marked-clause-reason g c =
    let b = c.args.buffer.now in
    let e = c.args.entry.now in
    let h = c.args.self.now in
    let d = c.pay_for_marked.new.buffer in
    let is : d ≡ paid (marked_count e) b = c.pay_for_marked.ensures in
    let p = err_from_is_err_and c.from_residual.result c.from_residual.ensures.1 in
    let named : is_present e.extra.marked_insert_index ≡ true = grind (arith, nat_tests, c.if-entry.true) in
    let left : has_operations d ≡ true = grind (arith, ints, c.max_ops.ensures, c.if-max_ops-le0.false) in
    let most : d.max_len ≡ b.max_len = ap (λ (x : Buffer). x.max_len) is in
    let begins : length b.line ≤ length d.line = omega (arith, ap (λ (x : Buffer). length x.line) is) in
    let ends : length (at_mark h.glyphs e h.registers d).line ≤ length (act h.glyphs e h.registers b).buffer.line =
    rw is (marked_within h.glyphs e h.registers b named (rw is at left)) in
    rw (p.1, p.2) (refusal_within b d (at_mark h.glyphs e h.registers d) (act h.glyphs e h.registers b).buffer most begins ends c.in_err-insert_marked.field-0.0 c.in_err-insert_marked.ensures.reason)
