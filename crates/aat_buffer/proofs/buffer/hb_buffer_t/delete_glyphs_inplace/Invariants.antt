use Rattle.aat_buffer.specs.Buffer.{with_cursor}
use Rattle.aat_buffer.specs.Removal.{AnswersBy}
use Rattle.aat_buffer.proofs.Removing.{IsRemoving}
use Rattle.aat_buffer.proofs.buffer.hb_buffer_t.delete_glyphs_inplace.Given as goal

abbrev pub invariant-loop-i : goal.invariant-loop-i
invariant-loop-i g l = IsRemoving (AnswersBy g.F.Fn l.filter) (with_cursor l.fn.self 0) l.self l.positions l.i l.len l.runs.count l.runs.last
