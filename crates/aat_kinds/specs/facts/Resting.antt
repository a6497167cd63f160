-- Entries that rest, by the kind of the machine: the law of `driver_context_t`, and of the contexts of runs.
use Rattle.std.proofs.Common.{◌≡◌, ap, refl, ℕ, ◌&&◌, ◌||◌, ◌==◌, Bool, true, false, not, cond, Option, List, length}
use Rattle.aat_buffer.specs.Buffer.{Buffer}
use Rattle.aat_machine_tables.specs.Entries.{has_flag, is_present}
use Rattle.aat_font.specs.Idle.{rearrangement_rests, contextual_rests, ligature_rests, insertion_rests}
use Rattle.aat_lookup.specs.declared.glyph_id.GlyphId.{GlyphId}
use Rattle.aat_machine_tables.specs.declared.state_table.GenericStateEntry.{GenericStateEntry}
use Rattle.aat_kinds.specs.Contextual as c
use Rattle.aat_kinds.specs.Insertion as i
use Rattle.aat_kinds.specs.Ligature as l
use Rattle.aat_kinds.specs.Rearrangement as r
use Rattle.aat_run.specs.Context.{Moved}
use Rattle.aat_run.specs.Laws.{RestsBy}
use Rattle.aat_run.specs.facts.IdleRuns.{both}

clear : (b : Bool) → not b ≡ true → b ≡ false
clear true h = cc
clear false h = refl

none_acts : (b : Bool) → (b && (false || false)) ≡ false
none_acts true = refl
none_acts false = refl

-- entries of rearrangement that rest
rearrangement_parts : (e : r.Entry) → rearrangement_rests e ≡ true → (has_flag e 0x8000 ≡ false) × (has_flag e 0x2000 ≡ false) × ((r.verb_number e == 0) ≡ true)
rearrangement_parts e rests =
    let first = both (not (has_flag e 0x8000)) (not (has_flag e 0x2000) && (r.verb_number e == 0)) rests in
    let rest = both (not (has_flag e 0x2000)) (r.verb_number e == 0) first.1 in
    (clear (has_flag e 0x8000) first.0, clear (has_flag e 0x2000) rest.0, rest.1)

rearrangement_stays : (bound : ℕ) (e : r.Entry) → rearrangement_rests e ≡ true → (s : r.Registers) (b : Buffer) → r.act bound e s b ≡ record { registers = s; buffer = b }
unfolding r.act
rearrangement_stays bound e rests s b =
    let p = rearrangement_parts e rests in
    rw (p.0, p.1, p.2) refl

pub rearrangement_rest : (bound : ℕ) → RestsBy rearrangement_rests r.actionable (r.act bound)
rearrangement_rest bound = record {
  unactionable = λ e rests s p n. rw (rearrangement_parts e rests).2 refl;
  stays = rearrangement_stays bound;
}

-- contextual entries
contextual_parts : (e : c.Entry) → contextual_rests e ≡ true → (has_flag e 0x8000 ≡ false) × (is_present e.extra.mark_index ≡ false) × (is_present e.extra.current_index ≡ false)
contextual_parts e rests =
    let first = both (not (has_flag e 0x8000)) (not (is_present e.extra.mark_index) && not (is_present e.extra.current_index)) rests in
    let rest = both (not (is_present e.extra.mark_index)) (not (is_present e.extra.current_index)) first.1 in
    (clear (has_flag e 0x8000) first.0, clear (is_present e.extra.mark_index) rest.0, clear (is_present e.extra.current_index) rest.1)

either_way : (b : Bool) (x : Buffer) (s : c.Registers) → cond {A = Moved c.Registers} b (record { registers = s; buffer = x }) (record { registers = s; buffer = x }) ≡ record { registers = s; buffer = x }
either_way true x s = refl
either_way false x s = refl

contextual_stays : (classes : Option (List (ℕ × ℕ))) (lookups : List (List (ℕ × ℕ))) (e : c.Entry) → contextual_rests e ≡ true → (s : c.Registers) (b : Buffer) → c.act classes lookups e s b ≡ record { registers = s; buffer = b }
unfolding c.act c.at_mark c.at_cursor c.answer_of
contextual_stays classes lookups e rests s b =
    let q = contextual_parts e rests in
    rw (q.1, q.2) (rw q.0 (either_way (c.can_act s b.cursor (length b.line)) b s))

pub contextual_rest : (classes : Option (List (ℕ × ℕ))) (lookups : List (List (ℕ × ℕ))) → RestsBy contextual_rests c.actionable (c.act classes lookups)
contextual_rest classes lookups = record {
  unactionable = λ e rests s p n. let q = contextual_parts e rests in rw (q.1, q.2) (none_acts (c.can_act s p n));
  stays = contextual_stays classes lookups;
}

-- over what a context holds
pub contextual_held_rest : RestsBy contextual_rests c.held_actionable c.held_act
contextual_held_rest = record {
  unactionable = λ e rests h p n. (contextual_rest h.classes h.lookups).unactionable e rests h.registers p n;
  stays = λ e rests h b. ap (λ (m : Moved c.Registers). record { registers = c.with_registers h m.registers; buffer = m.buffer }) (contextual_stays h.classes h.lookups e rests h.registers b);
}

-- entries of ligatures
ligature_parts : (e : GenericStateEntry ℕ) → ligature_rests e ≡ true → (has_flag e 0x8000 ≡ false) × (has_flag e 0x2000 ≡ false)
ligature_parts e rests =
    let p = both (not (has_flag e 0x8000)) (not (has_flag e 0x2000)) rests in
    (clear (has_flag e 0x8000) p.0, clear (has_flag e 0x2000) p.1)

ligature_stays : (actions components : List ℕ) (ligatures : List GlyphId) (e : GenericStateEntry ℕ) → ligature_rests e ≡ true → (s : l.Registers) (b : Buffer) → l.act actions components ligatures e s b ≡ record { registers = s; buffer = b }
unfolding l.act
ligature_stays actions components ligatures e rests s b =
    let p = ligature_parts e rests in
    rw (p.0, p.1) refl

pub ligature_rest : (actions components : List ℕ) (ligatures : List GlyphId) → RestsBy ligature_rests l.actionable (l.act actions components ligatures)
ligature_rest actions components ligatures = record {
  unactionable = λ e rests s p n. (ligature_parts e rests).1;
  stays = ligature_stays actions components ligatures;
}

-- over what a context holds
pub ligature_held_rest : RestsBy ligature_rests l.held_actionable l.held_act
ligature_held_rest = record {
  unactionable = λ e rests h p n. (ligature_rest h.actions h.components h.ligatures).unactionable e rests h.registers p n;
  stays = λ e rests h b. ap (λ (m : Moved l.Registers). record { registers = record h { registers = m.registers }; buffer = m.buffer }) (ligature_stays h.actions h.components h.ligatures e rests h.registers b);
}

-- entries of insertion
insertion_parts : (e : i.Entry) → insertion_rests e ≡ true → (has_flag e 0x8000 ≡ false) × (is_present e.extra.current_insert_index ≡ false) × (is_present e.extra.marked_insert_index ≡ false)
insertion_parts e rests =
    let first = both (not (has_flag e 0x8000)) (not (is_present e.extra.current_insert_index) && not (is_present e.extra.marked_insert_index)) rests in
    let rest = both (not (is_present e.extra.current_insert_index)) (not (is_present e.extra.marked_insert_index)) first.1 in
    (clear (has_flag e 0x8000) first.0, clear (is_present e.extra.current_insert_index) rest.0, clear (is_present e.extra.marked_insert_index) rest.1)

insertion_stays : (glyphs : List GlyphId) (e : i.Entry) → insertion_rests e ≡ true → (s : i.Registers) (b : Buffer) → i.act glyphs e s b ≡ record { registers = s; buffer = b }
unfolding i.act
insertion_stays glyphs e rests s b =
    let q = insertion_parts e rests in
    rw (q.0, q.1, q.2) refl

pub insertion_rest : (glyphs : List GlyphId) → RestsBy insertion_rests i.actionable (i.act glyphs)
insertion_rest glyphs = record {
  unactionable = λ e rests s p n. let q = insertion_parts e rests in rw (q.1, q.2) (none_acts (has_flag e 0x03FF));
  stays = insertion_stays glyphs;
}

-- over what a context holds
pub insertion_held_rest : RestsBy insertion_rests i.held_actionable i.held_act
insertion_held_rest = record {
  unactionable = λ e rests h p n. (insertion_rest h.glyphs).unactionable e rests h.registers p n;
  stays = λ e rests h b. ap (λ (m : Moved i.Registers). record { registers = record h { registers = m.registers }; buffer = m.buffer }) (insertion_stays h.glyphs e rests h.registers b);
}
