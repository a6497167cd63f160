-- The components behind the last ligature of an act are deleted.
use Rattle.std.proofs.Common.{◌≡◌, ◌≢◌, ◌⊎◌, inl, inr, zero, suc, ℕ, ◌+◌, ◌-◌, ◌%◌, ◌<◌, ◌≤◌, ◌&&◌, Bool, true, false, pos, ◌+ℤ◌, List, length, Option, Some, None, refl, sym, ap, ◌∙◌, arith, nat_lt}
use Rattle.std.proofs.lemmas.Bool.{cases_eq, cases_lt}
use Rattle.std.proofs.lemmas.Bool.Decides.{nat_tests}
use Rattle.std.specs.Prelude.{slice_get, slice_index, if◌then◌else◌}
use Rattle.aat_buffer.specs.Buffer.{Buffer, glyph_at}
use Rattle.aat_buffer.specs.facts.Cases.{chosen}
use Rattle.aat_glyph.specs.declared.glyph.hb_glyph_info_t.{hb_glyph_info_t}
use Rattle.aat_lookup.specs.declared.glyph_id.GlyphId.{GlyphId}
use Rattle.aat_machine_tables.specs.declared.state_table.GenericStateEntry.{GenericStateEntry}
use Rattle.aat_machine_tables.specs.Entries.{has_flag}
use Rattle.aat_run.specs.Context.{Moved}
use Rattle.aat_kinds.specs.Ligature.{Registers, Held, IsFit, IsHeldFit, DeletesLater, component, with_component, act, held_act, ligated, through_last, component_step, summed, stored_by, stored, Step, Stops, GoesOn, is_last, is_store, offset_of, element_at}
use Rattle.aat_kinds.specs.facts.LigatureLaws.{OnStep, fit_of_component, fit_of_fewer, deleted_by_id, length_of_stored, stored_deletes, stored_keeps_deleted}

module _ (actions values : List ℕ) (ligatures : List GlyphId) where
  -- what stands before one component, and behind each store at it, stands behind its step
  module _ (Q : Moved Registers → Type 0) (c : ℕ) (n : Moved Registers) (before : Q n) (on_store : (g : ℕ) → Q (stored c g n.registers n.buffer)) where
    of_stored_by : (action sum : ℕ) (o : Option GlyphId) → OnStep Q (stored_by actions values ligatures action c sum o n)
    unfolding OnStep
    of_stored_by action sum None = before
    of_stored_by action sum (Some g) =
        chosen (OnStep Q) (is_last action) (Stops (stored c g.0 n.registers n.buffer)) (GoesOn sum (stored c g.0 n.registers n.buffer)) (λ _. on_store g.0) (λ _. on_store g.0)

    of_summed : (action sum : ℕ) (o : Option ℕ) → OnStep Q (summed actions values ligatures action c sum o n)
    unfolding OnStep
    of_summed action sum None = before
    of_summed action sum (Some value) =
        chosen (OnStep Q) (is_store action) (stored_by actions values ligatures action c (sum + value) (slice_get ligatures (sum + value)) n) (GoesOn (sum + value) n)
        (λ _. of_stored_by action (sum + value) (slice_get ligatures (sum + value))) (λ _. before)

    of_component : (o : Option ℕ) (sum : ℕ) → OnStep Q (component_step actions values ligatures o c sum n)
    unfolding component_step OnStep
    of_component None sum = before
    of_component (Some action) sum = of_summed action sum (element_at values (pos (glyph_at n.buffer.line (component n.registers c)).glyph_id +ℤ offset_of action))

-- the components from k on are deleted on a line, but for those at the place of the one before
abbrev AreDeleted : Registers → ℕ → List hb_glyph_info_t → Type 0
AreDeleted s k line = (j : ℕ) → k ≤ j → j < s.count → component s j ≢ component s (k - 1) → (glyph_at line (component s j)).glyph_id ≡ 0xFFFF

-- over the components that are held where the act begins, and a line as long as then
module _ (s : Registers) (long p : ℕ) (fit : IsFit s p long) where
  -- between two components: those behind the last ligature are deleted
  record IsBetween (n : Moved Registers) : Type 0 where
    slots : n.registers.slots ≡ s.slots
    fewer : n.registers.count ≤ s.count
    same_length : length n.buffer.line ≡ long
    deleted : AreDeleted s n.registers.count n.buffer.line

  of_store : (c g : ℕ) (n : Moved Registers) → c < n.registers.count → IsBetween n → AreDeleted s (c + 1) (stored c g n.registers n.buffer).buffer.line
  of_store c g n low l j from below other = by_place (cases_lt j n.registers.count)
    where
      at : (i : ℕ) → component n.registers i ≡ component s i
      at i = ap (λ (slots : List ℕ). slice_index slots (i % length slots)) l.slots

      fits : IsFit n.registers p (length n.buffer.line)
      fits = rw l.same_length (fit_of_fewer s.slots s.count s n.registers p p long fit refl refl (record { slots = l.slots; count = l.fewer }))

      deletes : (i : ℕ) → c < i → i < n.registers.count → (glyph_at (stored c g n.registers n.buffer).buffer.line (component s i)).glyph_id ≡ 0xFFFF
      deletes i behind held = rw (← at i) (stored_deletes c g n.registers n.buffer p i fits behind held)

      last_is : c + 1 - 1 ≡ c
      last_is = omega arith

      elsewhere : component s j ≢ component n.registers c
      elsewhere same = other (same ∙ at c ∙ ap (component s) (sym last_is))

      by_newest : (c ≡ n.registers.count - 1) ⊎ (c ≢ n.registers.count - 1) → component s j ≡ component s (n.registers.count - 1) → (glyph_at (stored c g n.registers n.buffer).buffer.line (component s j)).glyph_id ≡ 0xFFFF
      by_newest (inl newest) same = absurd (other (same ∙ ap (component s) (sym newest ∙ sym last_is)))
      by_newest (inr older) same = rw same (deletes (n.registers.count - 1) (omega (arith, low, older)) (omega (arith, low)))

      by_other : n.registers.count ≤ j → (component s j ≡ component s (n.registers.count - 1)) ⊎ (component s j ≢ component s (n.registers.count - 1)) → (glyph_at (stored c g n.registers n.buffer).buffer.line (component s j)).glyph_id ≡ 0xFFFF
      by_other high (inl same) = by_newest (cases_eq c (n.registers.count - 1)) same
      by_other high (inr apart) = stored_keeps_deleted c g n.registers n.buffer (component s j) (omega (arith, l.same_length, fit.within j below)) elsewhere (l.deleted j high below apart)

      by_place : (j < n.registers.count) ⊎ (n.registers.count ≤ j) → (glyph_at (stored c g n.registers n.buffer).buffer.line (component s j)).glyph_id ≡ 0xFFFF
      by_place (inl held) = deletes j (omega (arith, from)) held
      by_place (inr high) = by_other high (cases_eq (component s j) (component s (n.registers.count - 1)))

  behind_store : (c g : ℕ) (n : Moved Registers) → c < n.registers.count → IsBetween n → IsBetween (stored c g n.registers n.buffer)
  unfolding stored
  behind_store c g n low l = record {
    slots = l.slots;
    fewer = omega (arith, low, l.fewer);
    same_length = length_of_stored c g n.registers n.buffer ∙ l.same_length;
    deleted = of_store c g n low l;
  }

  -- between two components, with so many still to come
  IsLeft : ℕ → Moved Registers → Type 0
  IsLeft c n = IsBetween n × (c ≤ n.registers.count)

  left_behind_store : (c g : ℕ) (n : Moved Registers) → c < n.registers.count → IsBetween n → IsLeft c (stored c g n.registers n.buffer)
  unfolding stored IsLeft
  left_behind_store c g n low l = (behind_store c g n low l, omega arith)

  module _ (actions values : List ℕ) (ligatures : List GlyphId) where
    of_step : (c a : ℕ) (t : Step) → OnStep (IsLeft c) t
        → ((more : ℕ) (d : Moved Registers) → IsLeft c d → AreDeleted s (through_last actions values ligatures c (a + 1) more d) (ligated actions values ligatures c (a + 1) more d).buffer.line)
        → (let behind : Moved Registers = elim t [ Stops d ↦ d | GoesOn more d ↦ ligated actions values ligatures c (a + 1) more d ] in
        AreDeleted s (elim t [ Stops d ↦ d.registers.count | GoesOn more d ↦ through_last actions values ligatures c (a + 1) more d ]) behind.buffer.line)
    unfolding OnStep IsLeft
    of_step c a (Stops d) q go = q.0.deleted
    of_step c a (GoesOn more d) q go = go more d q

    of_taken : (c a sum : ℕ) (n : Moved Registers) → IsLeft c n → AreDeleted s (through_last actions values ligatures c a sum n) (ligated actions values ligatures c a sum n).buffer.line
    unfolding through_last ligated IsLeft
    of_taken zero a sum n l = l.0.deleted
    of_taken (suc c) a sum n l =
        of_step c a (component_step actions values ligatures (slice_get actions a) c sum n)
        (of_component actions values ligatures (IsLeft c) c n (l.0, omega (arith, l.1)) (λ g. left_behind_store c g n (omega (arith, l.1)) l.0) (slice_get actions a) sum)
        (λ more d k. of_taken c (a + 1) more d k)

-- behind an act
pub act_deletes_later : (e : GenericStateEntry ℕ) (h : Held) (b : Buffer) → IsHeldFit h b.cursor (length b.line) → DeletesLater e h b (held_act e h b).buffer.line
unfolding act IsLeft
act_deletes_later e h b fit j high low other =
    deleted_by_id _ (by_test (has_flag e 0x2000 && nat_lt b.cursor (length b.line)) (λ yes. grind (arith, nat_tests, yes)) j high low other)
  where
    s : Registers
    s = with_component e h.registers b.cursor

    from : Moved Registers
    from = record { registers = s; buffer = b }

    by_test : (t : Bool) → (t ≡ true → b.cursor < length b.line)
        → (j : ℕ) → (if t then through_last h.actions h.components h.ligatures s.count e.extra 0 from else s.count) ≤ j → j < s.count
        → component s j ≢ component s ((if t then through_last h.actions h.components h.ligatures s.count e.extra 0 from else s.count) - 1)
        → (glyph_at (if t then ligated h.actions h.components h.ligatures s.count e.extra 0 from else from).buffer.line (component s j)).glyph_id ≡ 0xFFFF
    by_test true below j high low = of_taken s (length b.line) b.cursor (fit_of_component e h.registers b.cursor (length b.line) b.cursor b.cursor fit.fit (below refl)) h.actions h.components h.ligatures s.count e.extra 0 from
        (record { slots = refl; fewer = omega arith; same_length = refl; deleted = λ i high low. absurd (omega (arith, high, low)) }, omega arith) j high low
    by_test false below j high low = absurd (omega (arith, high, low))
