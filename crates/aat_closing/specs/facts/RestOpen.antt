-- An entry that rests may not act, and looks at nothing before the cursor.
use Rattle.std.proofs.Common.{◌≡◌, ℕ, ◌&&◌, ◌==◌, Bool, true, false, not, cond, length, nat_lt, refl}
use Rattle.aat_font.specs.Idle.{rearrangement_rests, contextual_rests, ligature_rests, insertion_rests}
use Rattle.aat_machine_tables.specs.Entries.{has_flag, is_present}
use Rattle.aat_machine_tables.specs.Judged.{rearrangement_acts}
use Rattle.aat_kinds.specs.Contextual as contextual
use Rattle.aat_kinds.specs.Insertion as insertion
use Rattle.aat_kinds.specs.Ligature as ligature
use Rattle.aat_kinds.specs.Rearrangement as rearrangement
use Rattle.aat_run.specs.facts.IdleRuns.{both}
use Rattle.aat_closing.specs.Closing.{insertion_may_act}
use Rattle.aat_closing.specs.Held.{held_contextual_from, held_insertion_from, held_ligature_from, held_rearrangement_from}
use Rattle.aat_closing.specs.Laws.{RestsOpen}

clear : (b : Bool) → not b ≡ true → b ≡ false
clear true h = cc
clear false h = refl

none_acts : (b : Bool) → (b && false) ≡ false
none_acts true = refl
none_acts false = refl

either_cursor : (t : Bool) (p : ℕ) → cond t p p ≡ p
either_cursor true p = refl
either_cursor false p = refl

names_none : (e : contextual.Entry) → contextual_rests e ≡ true → (is_present e.extra.mark_index ≡ false) × (is_present e.extra.current_index ≡ false)
names_none e rests =
    let first = both (not (has_flag e 0x8000)) (not (is_present e.extra.mark_index) && not (is_present e.extra.current_index)) rests in
    let rest = both (not (is_present e.extra.mark_index)) (not (is_present e.extra.current_index)) first.1 in
    (clear (is_present e.extra.mark_index) rest.0, clear (is_present e.extra.current_index) rest.1)

pub contextual_rests_open : RestsOpen contextual_rests contextual.held_actionable held_contextual_from
contextual_rests_open = record {
  unactionable = λ e rests h p n. let none = names_none e rests in rw (none.0, none.1) (none_acts (contextual.can_act h.registers p n));
  stays_open = λ e rests s h b. let none = names_none e rests in rw (none.0, none.1) (either_cursor (nat_lt b.cursor (length b.line)) b.cursor);
}

no_verb : (e : rearrangement.Entry) → rearrangement_rests e ≡ true → rearrangement_acts e ≡ false
no_verb e rests =
    let first = both (not (has_flag e 0x8000)) (not (has_flag e 0x2000) && (rearrangement.verb_number e == 0)) rests in
    let rest = both (not (has_flag e 0x2000)) (rearrangement.verb_number e == 0) first.1 in
    rw rest.1 refl

pub rearrangement_rests_open : RestsOpen rearrangement_rests (λ (e : rearrangement.Entry) (r : rearrangement.Registers) (p n : ℕ). rearrangement_acts e) held_rearrangement_from
rearrangement_rests_open = record {
  unactionable = λ e rests r p n. no_verb e rests;
  stays_open = λ e rests s r b. rw (no_verb e rests) refl;
}

pub ligature_rests_open : RestsOpen ligature_rests ligature.held_actionable held_ligature_from
ligature_rests_open = record {
  unactionable = λ e rests h p n. let parts = both (not (has_flag e 0x8000)) (not (has_flag e 0x2000)) rests in clear (has_flag e 0x2000) parts.1;
  stays_open = λ e rests s h b.
      let parts = both (not (has_flag e 0x8000)) (not (has_flag e 0x2000)) rests in
      rw (clear (has_flag e 0x2000) parts.1, clear (has_flag e 0x8000) parts.0) refl;
}

pub insertion_rests_open : RestsOpen insertion_rests (λ (e : insertion.Entry) (h : insertion.Held) (p n : ℕ). insertion_may_act e) held_insertion_from
insertion_rests_open = record {
  unactionable = λ e rests h p n.
      let first = both (not (has_flag e 0x8000)) (not (is_present e.extra.current_insert_index) && not (is_present e.extra.marked_insert_index)) rests in
      let rest = both (not (is_present e.extra.current_insert_index)) (not (is_present e.extra.marked_insert_index)) first.1 in
      rw (clear (is_present e.extra.current_insert_index) rest.0, clear (is_present e.extra.marked_insert_index) rest.1) refl;
  stays_open = λ e rests s h b. refl;
}
