use Rattle.std.proofs.Common.{arith, refl, sym, ap, subst, ◌∙◌, ◌≡◌, ℕ, length, take}
use Rattle.std.proofs.iter.Next.{says_at}
use Rattle.aat_buffer.specs.Buffer.{Buffer, with_cursor, with_positions, without_positions}
use Rattle.aat_buffer.specs.Clusters.{KeepsOrder}
use Rattle.aat_buffer.specs.facts.Removed.{ids_of_removed, none_passes}
use Rattle.aat_buffer.specs.inside.Pending.{shown}
use Rattle.aat_buffer.specs.Removal.{AnswersBy, removal}
use Rattle.aat_buffer.proofs.Reaching.{shown_length}
use Rattle.aat_buffer.proofs.RemovedOrder.{order_more}
use Rattle.aat_buffer.proofs.Removing.{removing_none, removing_more, finished_some, finished_none}
use Rattle.aat_buffer.proofs.Steps.{shown_here}
use Rattle.aat_buffer.proofs.buffer.hb_buffer_t.delete_glyphs_inplace.Goals as goal

pub loop-i-init : goal.loop-i-init
loop-i-init g c =
    let start = with_cursor c.args.self.now 0 in
    let is : c.sync.new.self ≡ without_positions start = c.sync.ensures ∙ ap (λ (b : Buffer). with_cursor b 0) c.take_positions-positions.ensures.after in
    removing_none (AnswersBy g.F.Fn c.args.filter) start c.sync.new.self c.take_positions-positions.result c.len-len.result is refl (sym c.len-len.ensures.count) c.len-len.ensures.small c.take_positions-positions.ensures.positions (rw c.len-len.ensures.count c.take_positions-positions.ensures.placed)

pub loop-i-preserved : goal.loop-i-preserved
loop-i-preserved g c =
    let n : ℕ = c.len-len.result in
    let i : ℕ = c.loop-i.i in
    let at = c.loop-i.invariant in
    let more = c.remove_or_keep-runs in
    let now : Buffer = shown c.loop-i.runs.count c.loop-i.runs.last c.loop-i.self in
    record {
      ends = λ test by.
          removing_more (AnswersBy g.F.Fn c.args.filter) (with_cursor c.args.self.now 0) now (shown more.result.count more.result.last more.new.self) c.loop-i.positions c.carry_down.new.positions c.filter-goes.result c.backtrack_len-kept.result i n (omega arith) c.backtrack_len-kept.ensures.place
          (λ test by. ap test (shown_here c.loop-i.self c.loop-i.runs.count c.loop-i.runs.last c.backtrack_len-kept.result c.backtrack_len-kept.ensures.place at.pending ∙ sym c.glyph.ensures) ∙ by _ _ (says_at g.F.Fn c.filter-goes.ensures refl))
          more.ensures.after c.carry_down.ensures.gone c.carry_down.ensures.stays at.ends test by;
      pending = more.ensures.pending;
      rest = omega (arith, more.ensures.rest, at.rest);
      behind = omega (arith, more.ensures.step, at.behind);
      placed = c.carry_down.ensures.count _ at.placed;
      bare = more.ensures.bare at.bare;
      standing = c.carry_down.ensures.standing ∙ at.standing;
      order =
          let kept : length now.line ≡ length c.loop-i.self.line =
          shown_length c.loop-i.self.line c.loop-i.runs.count c.loop-i.runs.last c.loop-i.self.cursor at.pending.apart at.pending.in_line in
          order_more (with_cursor c.args.self.now 0) now (shown more.result.count more.result.last more.new.self) c.filter-goes.result
          (omega (arith, at.rest, kept)) more.ensures.after at.order;
    }

pub returns-in-Some-clause-after : goal.returns-in-Some-clause-after
returns-in-Some-clause-after g c = λ test by.
    let n : ℕ = c.len-len.result in
    let start = with_cursor c.args.self.now 0 in
    let done : Buffer = shown c.loop-i.runs.count c.loop-i.runs.last c.loop-i.self in
    let after : c.sync-2.new.self ≡ with_cursor done 0 = cc in
    let line : length c.sync-2.new.self.line ≡ length c.loop-i.self.line = ap (λ (b : Buffer). length b.line) c.sync-2.ensures ∙ c.write_runs.ensures.count in
    let wrote : c.put_positions.new.self ≡ with_positions (with_cursor done 0) (take c.len.result c.in-Some.positions.items) = cc in
    finished_some (AnswersBy g.F.Fn c.args.filter) start c.loop-i.self c.put_positions.new.self c.loop-i.positions c.in-Some.positions c.loop-i.i n c.loop-i.runs.count c.loop-i.runs.last c.len.result (omega arith) (omega (arith, line, c.loop-i.invariant.rest)) c.in-Some.is c.loop-i.invariant wrote test by
    ∙ ap (λ k. with_cursor (removal k test start) 0) c.len-len.ensures.count

pub returns-clause-after : goal.returns-clause-after
returns-clause-after g c = λ test by.
    let start = with_cursor c.args.self.now 0 in
    let done : Buffer = shown c.loop-i.runs.count c.loop-i.runs.last c.loop-i.self in
    let after : c.sync-2.new.self ≡ with_cursor done 0 = cc in
    finished_none (AnswersBy g.F.Fn c.args.filter) start c.loop-i.self c.sync-2.new.self c.loop-i.positions c.loop-i.i c.len-len.result c.loop-i.runs.count c.loop-i.runs.last (omega arith) c.in_default.is c.loop-i.invariant after test by
    ∙ ap (λ k. with_cursor (removal k test start) 0) c.len-len.ensures.count

pub returns-in-Some-clause-others : goal.returns-in-Some-clause-others
returns-in-Some-clause-others g c = λ test by.
    rw (returns-in-Some-clause-after g c (λ h. test h.glyph_id) by) (ids_of_removed test c.args.self.now)

pub returns-clause-others : goal.returns-clause-others
returns-clause-others g c = λ test by.
    rw (returns-clause-after g c (λ h. test h.glyph_id) by) (ids_of_removed test c.args.self.now)

pub returns-in-Some-clause-none : goal.returns-in-Some-clause-none
returns-in-Some-clause-none g c = λ test by.
    rw (returns-in-Some-clause-after g c (λ h. test h.glyph_id) by) (none_passes test c.args.self.now)

pub returns-clause-none : goal.returns-clause-none
returns-clause-none g c = λ test by.
    rw (returns-clause-after g c (λ h. test h.glyph_id) by) (none_passes test c.args.self.now)

pub returns-in-Some-clause-order : goal.returns-in-Some-clause-order
returns-in-Some-clause-order g c =
    let line : c.put_positions.new.self.line ≡ (shown c.loop-i.runs.count c.loop-i.runs.last c.loop-i.self).line =
    ap (λ (b : Buffer). b.line) c.put_positions.ensures
    ∙ ap (λ (b : Buffer). b.line) (c.sync-2.ensures ∙ ap (λ (b : Buffer). with_cursor b 0) c.write_runs.ensures.after) in
    subst (KeepsOrder c.args.self.now.line) (sym line) c.loop-i.invariant.order

pub returns-clause-order : goal.returns-clause-order
returns-clause-order g c =
    let line : c.sync-2.new.self.line ≡ (shown c.loop-i.runs.count c.loop-i.runs.last c.loop-i.self).line =
    ap (λ (b : Buffer). b.line) (c.sync-2.ensures ∙ ap (λ (b : Buffer). with_cursor b 0) c.write_runs.ensures.after) in
    subst (KeepsOrder c.args.self.now.line) (sym line) c.loop-i.invariant.order
