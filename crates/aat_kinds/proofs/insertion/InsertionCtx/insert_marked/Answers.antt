use Rattle.std.proofs.Common.{◌≡◌, ◌+◌, Some, arith, bit_and, length, nat_eq, refl, rules}
use Rattle.std.proofs.lemmas.Result.{err_from_is_err_and}
use Rattle.aat_buffer.specs.facts.Ids.{small_of_unsafe}
use Rattle.aat_kinds.specs.Insertion.{at_mark, marked_count, put_in, run_for}
use Rattle.aat_kinds.specs.facts.InsertionLaws.{length_inserted}
use Rattle.aat_kinds.proofs.Putting.{length_at_mark}
use Rattle.aat_kinds.proofs.Refusals.{refusal_within}
use Rattle.aat_kinds.proofs.insertion.InsertionCtx.insert_marked.Goals as goal

pub returns-clause-ids : goal.returns-clause-ids
returns-clause-ids g c = rw c.unsafe_to_break.ensures.after (small_of_unsafe c.put_in.new.buffer (Some c.self.inside.mark) (Some c.min-end.result) c.in_ok-put_in.ensures.ids)

pub returns-in_err-put_in-clause-reason : goal.returns-in_err-put_in-clause-reason
returns-in_err-put_in-clause-reason g c =
    let b = c.args.buffer.now in
    let e = c.args.entry.now in
    let h = c.args.self.now in
    let run = c.run_for-run.result.now in
    let put = put_in run c.self.inside.mark (nat_eq (bit_and e.flags 0x0400) 0) (c.backtrack_len.result + length run) b in
    let marked = at_mark h.glyphs e h.registers b in
    let p = err_from_is_err_and c.from_residual.result c.from_residual.ensures.1 in
    let put_long : length put.line ≡ length b.line + length run = length_inserted run c.self.inside.mark (nat_eq (bit_and e.flags 0x0400) 0) b.line in
    let of_run : length run ≡ length (run_for h.glyphs b e.extra.marked_insert_index (marked_count e)) = search rules in
    let long : length marked.line ≡ length b.line + length (run_for h.glyphs b e.extra.marked_insert_index (marked_count e)) = length_at_mark h.glyphs e h.registers b in
    rw (p.1, p.2) (refusal_within b b put marked refl (omega arith) (omega (arith, put_long, of_run, long)) c.in_err-put_in.field-0.0 c.in_err-put_in.ensures.reason)

pub returns-in_err-put_in-clause-too_long : goal.returns-in_err-put_in-clause-too_long
returns-in_err-put_in-clause-too_long g c = λ over.
    let b = c.args.buffer.now in
    let e = c.args.entry.now in
    let h = c.args.self.now in
    let run = c.run_for-run.result.now in
    let put = put_in run c.self.inside.mark (nat_eq (bit_and e.flags 0x0400) 0) (c.backtrack_len.result + length run) b in
    let marked = at_mark h.glyphs e h.registers b in
    let p = err_from_is_err_and c.from_residual.result c.from_residual.ensures.1 in
    let put_long : length put.line ≡ length b.line + length run = length_inserted run c.self.inside.mark (nat_eq (bit_and e.flags 0x0400) 0) b.line in
    let of_run : length run ≡ length (run_for h.glyphs b e.extra.marked_insert_index (marked_count e)) = search rules in
    let long : length marked.line ≡ length b.line + length (run_for h.glyphs b e.extra.marked_insert_index (marked_count e)) = length_at_mark h.glyphs e h.registers b in
    rw (p.1, p.2) (c.in_err-put_in.ensures.too_long (omega (arith, over, put_long, of_run, long)))
