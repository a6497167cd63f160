use Rattle.std.proofs.Common.{◌≡◌, ◌<◌, ◌≤◌, ℕ, length, get_or, subst, sym, arith}
use Rattle.std.proofs.lemmas.List.{get_or_read}
use Rattle.aat_findings.specs.Reached.{IsReached, width}
use Rattle.aat_findings.specs.inside.Marks.{IsFollowed}
use Rattle.aat_findings.proofs.Marking.{all_followed, few_marked, followed_more}
use Rattle.aat_findings.proofs.reached.mark_each.Goals as goal

pub loop-place-preserved : goal.loop-place-preserved
loop-place-preserved g c =
    let table = c.args.table.now in
    let before = c.loop-place.invariant in
    let here = c.in_ok-mark_row.ensures in
    let order = c.loop-place.order.items in
    let place = c.loop-place.place in
    let state = c.index-state.result.now in
    let within : place < length order = omega arith in
    let at : state ≡ get_or order place 0 = get_or_read order place state within c.index-state.ensures 0 in
    let reached = before.sound (get_or order place 0) (before.marks.ordered place within) in
    record {
      marks = here.marks;
      kept = λ s is. here.kept s (before.kept s is);
      sound = here.sound (subst (λ (s : ℕ). IsReached table s) (sym at) reached) before.sound;
      followed = followed_more table c.loop-place.marks c.mark_row.new.marks order c.mark_row.new.order.items place before.followed here.kept here.longer within (subst (λ (s : ℕ). IsFollowed table c.mark_row.new.marks s (width table)) at here.row);
    }

pub returns-clause-followed : goal.returns-clause-followed
returns-clause-followed g c =
    let before = c.loop-place.invariant in
    let end : length c.loop-place.order.items ≤ c.loop-place.place = omega (arith, few_marked c.loop-place.marks c.loop-place.order.items before.marks) in
    all_followed c.args.table.now c.loop-place.marks c.loop-place.order.items c.loop-place.place before.marks before.followed end
