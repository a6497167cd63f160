use Rattle.std.proofs.Common.{sym, ap, subst, ◌∙◌, ◌≡◌, arith}
use Rattle.aat_buffer.specs.Buffer.{Buffer, without_positions}
use Rattle.aat_buffer.specs.inside.Pending.{IsPending, shown}
use Rattle.aat_buffer.specs.Removal.{removal_step}
use Rattle.aat_buffer.proofs.Steps.{kept_pending, first_gone, pending_none}
use Rattle.aat_buffer.proofs.buffer.hb_buffer_t.remove_or_keep.Goals as goal

pub returns-then-not-goes-clause-pending : goal.returns-then-not-goes-clause-pending
returns-then-not-goes-clause-pending g c = subst (λ (b : Buffer). IsPending b c.args.runs.count c.args.runs.last) (sym c.next_glyph.ensures) (kept_pending c.args.self.now c.args.runs.count c.args.runs.last c.requires.some c.requires.pending)

pub returns-then-backtrack_len-eq0-clause-after : goal.returns-then-backtrack_len-eq0-clause-after
returns-then-backtrack_len-eq0-clause-after g c =
    let start : c.args.self.now.cursor ≡ 0 = sym c.backtrack_len.ensures.place ∙ c.if-backtrack_len-eq0.true in
    first_gone c.args.self.now c.remove_first.new.self c.args.runs.count c.args.runs.last start c.requires.pending c.remove_first.ensures.after
    ∙ ap (λ goes. without_positions (removal_step (λ _. goes) (shown c.args.runs.count c.args.runs.last c.args.self.now))) (sym c.if-not-goes.false)

pub returns-then-backtrack_len-eq0-clause-pending : goal.returns-then-backtrack_len-eq0-clause-pending
returns-then-backtrack_len-eq0-clause-pending g c =
    let start : c.args.self.now.cursor ≡ 0 = sym c.backtrack_len.ensures.place ∙ c.if-backtrack_len-eq0.true in
    let now : c.remove_first.new.self.cursor ≡ c.args.self.now.cursor = ap (λ (b : Buffer). b.cursor) c.remove_first.ensures.after in
    pending_none c.remove_first.new.self (omega (arith, start, now)) (omega (arith, c.remove_first.ensures.count, c.requires.pending.small))
