use Rattle.std.proofs.Common.{◌≡◌, ◌∙◌, ◌<◌, ◌≤◌, ℕ, List, Some, true, not, length, get_or, subst, sym, ap, arith}
use Rattle.std.specs.Prelude.{slice_get}
use Rattle.std.proofs.lemmas.Option.{slice_get-get_or}
use Rattle.aat_machine_tables.specs.Subtables.{LigatureTables}
use Rattle.aat_findings.specs.Ligatures.{is_last, is_store}
use Rattle.aat_findings.specs.inside.Making.{AreMarksOf, AreMore, IsAfter}
use Rattle.aat_findings.proofs.Making.{carried_none, carried_step, comes_marks, made_of, stored_none, stored_step}
use Rattle.aat_findings.proofs.ligatures.mark_made.Goals as goal

pub loop-place-init : goal.loop-place-init
loop-place-init c = record {
  sums_long = c.requires.sums.long;
  made_long = c.requires.made.long;
  sums = carried_none c.args.subtable.now c.args.sums.now c.requires.sums.zero;
  made = stored_none c.args.subtable.now c.args.made.now c.requires.made.zero;
}

pub loop-place-preserved : goal.loop-place-preserved
loop-place-preserved c =
    let t = c.args.subtable.now in
    let held = c.args.held.now in
    let starts = c.args.starts.now in
    let place = c.loop-place.place in
    let actions = c.as_slice-actions.result.now in
    let values = c.as_slice-values.result.now in
    let action = get_or actions place 0 in
    let before = c.loop-place.invariant in
    let sums = c.mark_where.new.marks in
    let here = c.in_ok-take_action.ensures in
    let same_actions : actions ≡ t.actions = c.as_slice-actions.ensures.value ∙ ap (λ (u : LigatureTables). u.actions) c.subtable.view_is in
    let same_values : values ≡ t.components = c.as_slice-values.ensures.value ∙ ap (λ (u : LigatureTables). u.components) c.subtable.view_is in
    let listed : slice_get t.actions place ≡ Some action = ap (λ (l : List ℕ). slice_get l place) (sym same_actions) ∙ slice_get-get_or actions place 0 c.loop-place-test.true in
    let of_actions : length actions ≡ length t.actions = ap length same_actions in
    let within : place < length starts = omega (arith, of_actions, c.requires.actions, c.loop-place-test.true) in
    let comes = comes_marks t held starts place action c.requires.held c.requires.starts listed within c.loop-place.sums sums before.sums c.mark_where.ensures in
    let sums_long : length sums ≡ length t.ligatures = c.mark_where.ensures.long ∙ before.sums_long in
    let made_long : length c.loop-place.made ≡ length sums = before.made_long ∙ sym sums_long in
    let goes = subst (λ (l : List ℕ). AreMarksOf (λ n. (not (is_last action) ≡ true) × IsAfter l held action sums n) c.take_action.new.sums) same_values here.sums in
    let stores = subst (λ (l : List ℕ). AreMore c.loop-place.made (λ n. (is_store action ≡ true) × IsAfter l held action sums n) c.take_action.new.made) same_values here.made in
    record {
      sums_long = here.long ∙ sums_long;
      made_long = here.made.long ∙ before.made_long;
      sums = carried_step t held starts place action c.requires.held c.requires.starts listed within sums comes c.take_action.new.sums here.long goes;
      made = stored_step t held starts place action c.requires.held c.requires.starts listed within sums comes c.loop-place.made c.take_action.new.made made_long before.made stores;
    }

pub returns : goal.returns
returns c =
    let t = c.args.subtable.now in
    let end : length t.actions ≤ c.loop-place.place = omega (arith, ap length (c.as_slice-actions.ensures.value ∙ ap (λ (u : LigatureTables). u.actions) c.subtable.view_is)) in
    made_of t c.loop-place.made c.loop-place.place c.loop-place.invariant.made_long end c.loop-place.invariant.made
