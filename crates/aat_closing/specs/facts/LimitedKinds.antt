-- The closing run of each kind leaves the same with another budget that it does not use up, and another greatest length.
use Rattle.std.proofs.Common.{◌≡◌, ◌∙◌, ℕ, ℤ, pos, zero, suc, ◌+◌, ◌-◌, ◌<◌, ◌≤◌, ◌&&◌, not, Bool, true, false, cond, List, length, min, nat_lt, Option, Some, None, refl, ap, arith}
use Rattle.std.specs.Prelude.{int_lt, slice_get, ◌+ℤ◌}
use Rattle.aat_buffer.specs.Buffer.{Buffer, glyph_at, with_line}
use Rattle.aat_buffer.specs.Marks.{merge_out_clusters, unsafe_to_break}
use Rattle.aat_lookup.specs.declared.glyph_id.GlyphId.{GlyphId}
use Rattle.aat_machine_tables.specs.Entries.{goes_on, has_flag, is_present}
use Rattle.aat_machine_tables.specs.Table.{TableValue}
use Rattle.aat_machine_tables.specs.declared.morx.SubtableKind.{SubtableKind}
use Rattle.aat_machine_tables.specs.declared.morx.SubtableKind.TheVariants.{Rearrangement, Contextual, Ligature, NonContextual, Insertion}
use Rattle.aat_machine_tables.specs.declared.state_table.GenericStateEntry.{GenericStateEntry}
use Rattle.aat_run.specs.Budget.{has_operations, has_overspent, operations_left, paid}
use Rattle.aat_run.specs.Context.{Moved}
use Rattle.aat_run.specs.facts.InPlace.{KeepsAll}
use Rattle.aat_run.specs.facts.MachineRuns.{paid_less}
use Rattle.aat_kinds.specs.Contextual as contextual
use Rattle.aat_kinds.specs.Insertion as insertion
use Rattle.aat_kinds.specs.Kinds.{Sizes, noncontextual_run}
use Rattle.aat_kinds.specs.Ligature as ligature
use Rattle.aat_kinds.specs.Ligature.{GoesOn, Step, Stops}
use Rattle.aat_kinds.specs.Rearrangement as rearrangement
use Rattle.aat_kinds.specs.facts.ContextualLaws as contextual_laws
use Rattle.aat_kinds.specs.facts.InsertionLaws as insertion_laws
use Rattle.aat_kinds.specs.facts.LigatureLaws as ligature_laws
use Rattle.aat_kinds.specs.facts.RearrangementLaws as rearrangement_laws
use Rattle.aat_cut_kinds.specs.facts.InsertionActs.{has_some, none_left, none_owed, pay, solvent}
use Rattle.aat_closing.specs.Closing.{closed_from, closing, contextual_from, insertion_from, ligature_from, rearrangement_from}
use Rattle.aat_closing.specs.ClosingRuns.{closing_run, contextual_closing, insertion_closing, ligature_closing, rearrangement_closing, told_run}
use Rattle.aat_closing.specs.facts.ClosedLaws as closed
use Rattle.aat_closing.specs.facts.ClosedLaws.{length_closed}
use Rattle.aat_closing.specs.facts.Limited.{LimitedTold, with_limits}
use Rattle.aat_closing.specs.facts.LimitedRuns.{IsEnough, LeftLimited, LimitedAct, TakesNoMore, enough_before, limited_left, other_left, pay_both, told_limited}
use Rattle.aat_closing.specs.facts.ToldKeepsActs.{Spends}

-- A closing act whose places do not depend on the limits leaves the same with others where the act does.
module _ {R E : Type 0} (fits : R → ℕ → ℕ → Type 0) (act : E → R → Buffer → Moved R) (from : E → R → Buffer → ℕ) where
  fit_closed : (e : E) (r : R) (b : Buffer) → fits r b.cursor (length b.line) → fits r b.cursor (length (closed_from (from e r b) b).line)
  fit_closed e r b fit = rw (length_closed (from e r b) b) fit

  closing_spends : Spends act fits → Spends (closing from act) fits
  closing_spends spends e r b fit = spends e r (closed_from (from e r b) b) (fit_closed e r b fit)

  closing_limits : ((e : E) (r : R) (b : Buffer) (y : ℤ) (most : ℕ) → from e r (with_limits y most b) ≡ from e r b) → LimitedAct act fits → LimitedAct (closing from act) fits
  closing_limits same alike own other most e r b y fit low enough =
      let it : LeftLimited own other most (act e r (with_limits y most (closed_from (from e r b) b))) (act e r (closed_from (from e r b) b)) =
      alike own other most e r (closed_from (from e r b) b) y (fit_closed e r b fit) low enough in
      record { budget = it.budget; is = ap (λ (i : ℕ). act e r (closed_from i (with_limits y most b))) (same e r b y most) ∙ it.is; less = it.less }

  -- An act that keeps the budget spends none, and it leaves the same with other limits where it does not look at them.
  keeping_spends : KeepsAll act fits → Spends act fits
  keeping_spends keeps e r b fit = let kept = keeps e r b fit in rw kept.budget (omega arith)

  unseen_limits : KeepsAll act fits → ((e : E) (r : R) (b : Buffer) (y : ℤ) (most : ℕ) → act e r (with_limits y most b) ≡ limited_left y most (act e r b)) → LimitedAct act fits
  unseen_limits keeps unseen own other most e r b y fit low enough =
      let kept = keeps e r b fit in
      record { budget = y; is = unseen e r b y most; less = rw kept.budget low }

-- The contextual act does not look at the limits.
module _ (classes : Option (List (ℕ × ℕ))) (lookups : List (List (ℕ × ℕ))) where
  -- the glyph at the cursor, and what is behind it
  contextual_behind_cursor : (e : contextual.Entry) (r : contextual.Registers) (b : Buffer) (y : ℤ) (most : ℕ)
      → contextual.behind_cursor classes lookups e r (with_limits y most b) (contextual.at_cursor classes lookups e (with_limits y most b))
      ≡ limited_left y most (contextual.behind_cursor classes lookups e r b (contextual.at_cursor classes lookups e b))
  unfolding contextual.at_cursor
  contextual_behind_cursor e r b y most = by_answer (contextual.answer_of classes lookups e.extra.current_index (glyph_at b.line (min b.cursor (length b.line - 1))).glyph_id)
    where
      by_answer : (o : Option (Option ℕ))
          → contextual.behind_cursor classes lookups e r (with_limits y most b) (contextual.changed_by classes lookups o (λ v. contextual.replaced_at classes lookups (min b.cursor (length b.line - 1)) v (with_limits y most b)) (with_limits y most b))
          ≡ limited_left y most (contextual.behind_cursor classes lookups e r b (contextual.changed_by classes lookups o (λ v. contextual.replaced_at classes lookups (min b.cursor (length b.line - 1)) v b) b))
      by_answer None = refl
      by_answer (Some None) = refl
      by_answer (Some (Some v)) = refl

  -- the marked glyph, and what is behind it
  contextual_behind_mark : (e : contextual.Entry) (r : contextual.Registers) (b : Buffer) (y : ℤ) (most : ℕ)
      → contextual.behind_mark classes lookups e r (with_limits y most b) (contextual.at_mark classes lookups e r (with_limits y most b))
      ≡ limited_left y most (contextual.behind_mark classes lookups e r b (contextual.at_mark classes lookups e r b))
  unfolding contextual.at_mark
  contextual_behind_mark e r b y most = by_answer (contextual.answer_of classes lookups e.extra.mark_index (glyph_at b.line r.mark).glyph_id)
    where
      by_answer : (o : Option (Option ℕ))
          → contextual.behind_mark classes lookups e r (with_limits y most b) (contextual.changed_by classes lookups o (λ v. contextual.replaced_at classes lookups r.mark v (unsafe_to_break (with_limits y most b) (Some r.mark) (Some (min (b.cursor + 1) (length b.line))))) (with_limits y most b))
          ≡ limited_left y most (contextual.behind_mark classes lookups e r b (contextual.changed_by classes lookups o (λ v. contextual.replaced_at classes lookups r.mark v (unsafe_to_break b (Some r.mark) (Some (min (b.cursor + 1) (length b.line))))) b))
      by_answer None = refl
      by_answer (Some None) = contextual_behind_cursor e r b y most
      by_answer (Some (Some v)) = contextual_behind_cursor e r (contextual.replaced_at classes lookups r.mark v (unsafe_to_break b (Some r.mark) (Some (min (b.cursor + 1) (length b.line))))) y most

  contextual_unseen : (e : contextual.Entry) (r : contextual.Registers) (b : Buffer) (y : ℤ) (most : ℕ) → contextual.act classes lookups e r (with_limits y most b) ≡ limited_left y most (contextual.act classes lookups e r b)
  unfolding contextual.act
  contextual_unseen e r b y most = by_test (contextual.can_act r b.cursor (length b.line))
    where
      by_test : (t : Bool)
          → cond t (contextual.behind_mark classes lookups e r (with_limits y most b) (contextual.at_mark classes lookups e r (with_limits y most b))) (record { registers = r; buffer = with_limits y most b })
          ≡ limited_left y most (cond t (contextual.behind_mark classes lookups e r b (contextual.at_mark classes lookups e r b)) (record { registers = r; buffer = b }))
      by_test true = contextual_behind_mark e r b y most
      by_test false = refl

  -- a contextual run
  pub contextual_limited : (on : ℕ → Bool) (table : TableValue contextual.Entry) → LimitedTold (told_run on table (contextual_closing classes lookups))
  contextual_limited on table =
      let act = contextual.act classes lookups in
      let keeps = contextual_laws.keeps classes lookups in
      told_limited on table (contextual_closing classes lookups) contextual.IsFit contextual_laws.fits_fresh
      (closed.keeps_fit contextual.IsFit act contextual_from (contextual_laws.keeps_fit classes lookups)) contextual_laws.passes_fit
      (closed.pays contextual.IsFit act contextual_from (contextual_laws.pays classes lookups))
      (closing_limits contextual.IsFit act contextual_from (λ e r b y most. refl) (unseen_limits contextual.IsFit act contextual_from keeps contextual_unseen))
      (closing_spends contextual.IsFit act contextual_from (keeping_spends contextual.IsFit act contextual_from keeps))

-- Nor does that of rearrangement.
module _ (bound : ℕ) where
  rearrangement_unseen : (e : rearrangement.Entry) (r : rearrangement.Registers) (b : Buffer) (y : ℤ) (most : ℕ) → rearrangement.act bound e r (with_limits y most b) ≡ limited_left y most (rearrangement.act bound e r b)
  unfolding rearrangement.act rearrangement.moved
  rearrangement_unseen e r b y most =
      let s : rearrangement.Registers = rearrangement.with_marks e r b.cursor (length b.line) in
      by_test s (rearrangement.actionable e s b.cursor (length b.line) && rearrangement.is_within bound (rearrangement.verb_of e) s)
    where
      by_test : (s : rearrangement.Registers) (t : Bool) → ◌≡◌ {A = Moved rearrangement.Registers} (record { registers = s; buffer = cond t (rearrangement.moved (rearrangement.verb_of e) s (with_limits y most b)) (with_limits y most b) })
          (record { registers = s; buffer = with_limits y most (cond t (rearrangement.moved (rearrangement.verb_of e) s b) b) })
      by_test s true = refl
      by_test s false = refl

  -- a run of rearrangement
  pub rearrangement_limited : (on : ℕ → Bool) (table : TableValue rearrangement.Entry) → LimitedTold (told_run on table (rearrangement_closing bound))
  rearrangement_limited on table =
      let act = rearrangement.act bound in
      let keeps = rearrangement_laws.keeps bound in
      told_limited on table (rearrangement_closing bound) rearrangement.IsFit rearrangement_laws.fits_fresh
      (closed.keeps_fit rearrangement.IsFit act rearrangement_from (rearrangement_laws.keeps_fit bound)) rearrangement_laws.passes_fit
      (closed.pays rearrangement.IsFit act rearrangement_from (rearrangement_laws.pays bound))
      (closing_limits rearrangement.IsFit act rearrangement_from (λ e r b y most. refl) (unseen_limits rearrangement.IsFit act rearrangement_from keeps rearrangement_unseen))
      (closing_spends rearrangement.IsFit act rearrangement_from (keeping_spends rearrangement.IsFit act rearrangement_from keeps))

-- Nor does that of ligatures: a ligature that is stored
stored_unseen : (c g : ℕ) (r : ligature.Registers) (b : Buffer) (y : ℤ) (most : ℕ) → ligature.stored c g r (with_limits y most b) ≡ limited_left y most (ligature.stored c g r b)
unfolding ligature.stored
stored_unseen c g r b y most =
    by_test (ligature.component r c) (ligature.component r (r.count - 1) + 1) (with_line b (ligature.later_deleted r c (r.count - 1 - c) (ligature.with_ligature (ligature.component r c) g b.line)))
    (nat_lt (ligature.component r c) (ligature.component r (r.count - 1) + 1))
  where
    by_test : (u e : ℕ) (d : Buffer) (t : Bool) → ◌≡◌ {A = Moved ligature.Registers} (record { registers = record r { count = c + 1 }; buffer = cond t (merge_out_clusters (with_limits y most d) u e) (with_limits y most d) })
        (record { registers = record r { count = c + 1 }; buffer = with_limits y most (cond t (merge_out_clusters d u e) d) })
    by_test u e d true = refl
    by_test u e d false = refl

-- what one component leaves, with other limits
abbrev limited_step : ℤ → ℕ → Step → Step
limited_step y most (Stops n) = Stops (limited_left y most n)
limited_step y most (GoesOn sum n) = GoesOn sum (limited_left y most n)

module _ (actions values : List ℕ) (ligatures : List GlyphId) (y : ℤ) (most : ℕ) where
  stored_by_unseen : (action c sum : ℕ) (o : Option GlyphId) (n : Moved ligature.Registers)
      → ligature.stored_by actions values ligatures action c sum o (limited_left y most n) ≡ limited_step y most (ligature.stored_by actions values ligatures action c sum o n)
  stored_by_unseen action c sum None n = refl
  stored_by_unseen action c sum (Some g) n = by_last (ligature.is_last action)
    where
      by_last : (t : Bool)
          → cond t (Stops (ligature.stored c g.0 n.registers (with_limits y most n.buffer))) (GoesOn sum (ligature.stored c g.0 n.registers (with_limits y most n.buffer)))
          ≡ limited_step y most (cond t (Stops (ligature.stored c g.0 n.registers n.buffer)) (GoesOn sum (ligature.stored c g.0 n.registers n.buffer)))
      by_last true = ap Stops (stored_unseen c g.0 n.registers n.buffer y most)
      by_last false = ap (GoesOn sum) (stored_unseen c g.0 n.registers n.buffer y most)

  summed_unseen : (action c sum : ℕ) (o : Option ℕ) (n : Moved ligature.Registers)
      → ligature.summed actions values ligatures action c sum o (limited_left y most n) ≡ limited_step y most (ligature.summed actions values ligatures action c sum o n)
  summed_unseen action c sum None n = refl
  summed_unseen action c sum (Some value) n = by_store (ligature.is_store action)
    where
      by_store : (t : Bool)
          → cond t (ligature.stored_by actions values ligatures action c (sum + value) (slice_get ligatures (sum + value)) (limited_left y most n)) (GoesOn (sum + value) (limited_left y most n))
          ≡ limited_step y most (cond t (ligature.stored_by actions values ligatures action c (sum + value) (slice_get ligatures (sum + value)) n) (GoesOn (sum + value) n))
      by_store true = stored_by_unseen action c (sum + value) (slice_get ligatures (sum + value)) n
      by_store false = refl

  component_unseen : (o : Option ℕ) (c sum : ℕ) (n : Moved ligature.Registers)
      → ligature.component_step actions values ligatures o c sum (limited_left y most n) ≡ limited_step y most (ligature.component_step actions values ligatures o c sum n)
  unfolding ligature.component_step
  component_unseen None c sum n = refl
  component_unseen (Some action) c sum n =
      summed_unseen action c sum (ligature.element_at values (pos (glyph_at n.buffer.line (ligature.component n.registers c)).glyph_id +ℤ ligature.offset_of action)) n

  -- the components that are taken in
  ligated_unseen : (c a sum : ℕ) (n : Moved ligature.Registers) → ligature.ligated actions values ligatures c a sum (limited_left y most n) ≡ limited_left y most (ligature.ligated actions values ligatures c a sum n)
  unfolding ligature.ligated
  ligated_unseen zero a sum n = refl
  ligated_unseen (suc c) a sum n =
      ap (λ (t : Step). elim t [ Stops d ↦ d | GoesOn more d ↦ ligature.ligated actions values ligatures c (a + 1) more d ]) (component_unseen (slice_get actions a) c sum n)
      ∙ by_step (λ more d. ligated_unseen c (a + 1) more d) (ligature.component_step actions values ligatures (slice_get actions a) c sum n)
    where
      by_step : ((more : ℕ) (d : Moved ligature.Registers) → ligature.ligated actions values ligatures c (a + 1) more (limited_left y most d) ≡ limited_left y most (ligature.ligated actions values ligatures c (a + 1) more d)) → (t : Step)
          → (elim (limited_step y most t) [ Stops d ↦ d | GoesOn more d ↦ ligature.ligated actions values ligatures c (a + 1) more d ])
          ≡ limited_left y most (elim t [ Stops d ↦ d | GoesOn more d ↦ ligature.ligated actions values ligatures c (a + 1) more d ])
      by_step later (Stops d) = refl
      by_step later (GoesOn more d) = later more d

module _ (actions values : List ℕ) (ligatures : List GlyphId) where
  -- the act
  ligature_unseen : (e : GenericStateEntry ℕ) (r : ligature.Registers) (b : Buffer) (y : ℤ) (most : ℕ) → ligature.act actions values ligatures e r (with_limits y most b) ≡ limited_left y most (ligature.act actions values ligatures e r b)
  unfolding ligature.act
  ligature_unseen e r b y most = by_test (ligature.with_component e r b.cursor) (has_flag e 0x2000 && nat_lt b.cursor (length b.line))
    where
      by_test : (s : ligature.Registers) (t : Bool)
          → cond t (ligature.ligated actions values ligatures s.count e.extra 0 (record { registers = s; buffer = with_limits y most b })) (record { registers = s; buffer = with_limits y most b })
          ≡ limited_left y most (cond t (ligature.ligated actions values ligatures s.count e.extra 0 (record { registers = s; buffer = b })) (record { registers = s; buffer = b }))
      by_test s true = ligated_unseen actions values ligatures y most s.count e.extra 0 (record { registers = s; buffer = b })
      by_test s false = refl

  -- a run of ligatures, which has a slot
  pub ligature_limited : (slots : ℕ) → 0 < slots → (on : ℕ → Bool) (table : TableValue (GenericStateEntry ℕ)) → LimitedTold (told_run on table (ligature_closing table actions values ligatures slots))
  ligature_limited slots some on table =
      let act = ligature.act actions values ligatures in
      let from = ligature_from actions table in
      let keeps = ligature_laws.keeps actions values ligatures in
      told_limited on table (ligature_closing table actions values ligatures slots) ligature.IsFit (ligature_laws.fits_fresh slots some)
      (closed.keeps_fit ligature.IsFit act from (ligature_laws.keeps_fit actions values ligatures)) ligature_laws.passes_fit
      (closed.pays ligature.IsFit act from (ligature_laws.pays actions values ligatures))
      (closing_limits ligature.IsFit act from (λ e r b y most. refl) (unseen_limits ligature.IsFit act from keeps ligature_unseen))
      (closing_spends ligature.IsFit act from (keeping_spends ligature.IsFit act from keeps))

-- That of insertion pays for what it puts in.
module _ (glyphs : List GlyphId) where
  -- the line with the current run
  abbrev with_run : insertion.Entry → Buffer → Buffer
  with_run e d =
      let new : List GlyphId = insertion.run_for glyphs d e.extra.current_insert_index (insertion.current_count e) in
      insertion.put_in new d.cursor (not (has_flag e 0x0800)) (d.cursor + cond (goes_on e) (length new) 0) d

  -- the current part of an act
  current_limited : (own other most : ℕ) (e : insertion.Entry) (s : insertion.Registers) (b : Buffer) (y : ℤ) → TakesNoMore own other b.max_ops y → IsEnough own other (insertion.current_part glyphs e s b).buffer.max_ops
      → LeftLimited own other most (insertion.current_part glyphs e s (with_limits y most b)) (insertion.current_part glyphs e s b)
  unfolding insertion.at_cursor
  current_limited own other most e s b y low enough = by_index (is_present e.extra.current_insert_index) enough
    where
      by_debt : (t : Bool) → int_lt (pay (insertion.current_count e) b.max_ops) (pos 0) ≡ t
          → IsEnough own other (cond t (paid (insertion.current_count e) b) (with_run e (paid (insertion.current_count e) b))).max_ops
          → LeftLimited own other most (record { registers = s; buffer = cond (int_lt (pay (insertion.current_count e) y) (pos 0)) (paid (insertion.current_count e) (with_limits y most b)) (with_run e (paid (insertion.current_count e) (with_limits y most b))) })
          (record { registers = s; buffer = cond t (paid (insertion.current_count e) b) (with_run e (paid (insertion.current_count e) b)) })
      by_debt true is enough = let none = none_owed (pay (insertion.current_count e) b.max_ops) is in let some = enough.some in absurd (omega (arith, some, none))
      by_debt false is enough =
          let less : TakesNoMore own other (pay (insertion.current_count e) b.max_ops) (pay (insertion.current_count e) y) = pay_both own other (insertion.current_count e) b.max_ops y enough low in
          let clear : int_lt (pay (insertion.current_count e) y) (pos 0) ≡ false = solvent (pay (insertion.current_count e) y) (other_left own other (pay (insertion.current_count e) b.max_ops) (pay (insertion.current_count e) y) enough less) in
          rw clear (record { budget = pay (insertion.current_count e) y; is = refl; less = less })

      by_index : (t : Bool) → IsEnough own other (cond t (insertion.at_cursor glyphs e b) b).max_ops
          → LeftLimited own other most (record { registers = s; buffer = cond t (insertion.at_cursor glyphs e (with_limits y most b)) (with_limits y most b) }) (record { registers = s; buffer = cond t (insertion.at_cursor glyphs e b) b })
      by_index true enough = by_debt (has_overspent (paid (insertion.current_count e) b)) refl enough
      by_index false enough = record { budget = y; is = refl; less = low }

  -- it adds nothing to the budget
  current_spends : (e : insertion.Entry) (s : insertion.Registers) (b : Buffer) → operations_left (insertion.current_part glyphs e s b).buffer.max_ops ≤ operations_left b.max_ops
  unfolding insertion.at_cursor
  current_spends e s b = by_index (is_present e.extra.current_insert_index)
    where
      by_debt : (t : Bool) → operations_left (cond t (paid (insertion.current_count e) b) (with_run e (paid (insertion.current_count e) b))).max_ops ≤ operations_left b.max_ops
      by_debt true = paid_less (insertion.current_count e) b.max_ops
      by_debt false = paid_less (insertion.current_count e) b.max_ops

      by_index : (t : Bool) → operations_left (cond t (insertion.at_cursor glyphs e b) b).max_ops ≤ operations_left b.max_ops
      by_index true = by_debt (has_overspent (paid (insertion.current_count e) b))
      by_index false = omega arith

  -- the act
  insertion_limits : LimitedAct (insertion.act glyphs) insertion.IsFit
  unfolding insertion.act insertion.at_mark
  insertion_limits own other most e r b y fit low enough = by_index (insertion.with_mark e r b.cursor) (is_present e.extra.marked_insert_index) enough
    where
      by_budget : (s : insertion.Registers) (t : Bool) → int_lt (pos 0) (pay (insertion.marked_count e) b.max_ops) ≡ t
          → IsEnough own other (cond t (insertion.current_part glyphs e s (insertion.at_mark glyphs e r (paid (insertion.marked_count e) b))) (record { registers = r; buffer = paid (insertion.marked_count e) b })).buffer.max_ops
          → LeftLimited own other most (cond (int_lt (pos 0) (pay (insertion.marked_count e) y)) (insertion.current_part glyphs e s (insertion.at_mark glyphs e r (paid (insertion.marked_count e) (with_limits y most b)))) (record { registers = r; buffer = paid (insertion.marked_count e) (with_limits y most b) }))
          (cond t (insertion.current_part glyphs e s (insertion.at_mark glyphs e r (paid (insertion.marked_count e) b))) (record { registers = r; buffer = paid (insertion.marked_count e) b }))
      by_budget s true is enough =
          let left : IsEnough own other (pay (insertion.marked_count e) b.max_ops) = enough_before own other (insertion.current_part glyphs e s (insertion.at_mark glyphs e r (paid (insertion.marked_count e) b))).buffer.max_ops (pay (insertion.marked_count e) b.max_ops) enough (current_spends e s (insertion.at_mark glyphs e r (paid (insertion.marked_count e) b))) in
          let less : TakesNoMore own other (pay (insertion.marked_count e) b.max_ops) (pay (insertion.marked_count e) y) = pay_both own other (insertion.marked_count e) b.max_ops y left low in
          let has : int_lt (pos 0) (pay (insertion.marked_count e) y) ≡ true = has_some (pay (insertion.marked_count e) y) (other_left own other (pay (insertion.marked_count e) b.max_ops) (pay (insertion.marked_count e) y) left less) in
          rw has (current_limited own other most e s (insertion.at_mark glyphs e r (paid (insertion.marked_count e) b)) (pay (insertion.marked_count e) y) less enough)
      by_budget s false is enough = let none = none_left (pay (insertion.marked_count e) b.max_ops) is in let some = enough.some in absurd (omega (arith, some, none))

      by_index : (s : insertion.Registers) (t : Bool)
          → IsEnough own other (cond t (cond (has_operations (paid (insertion.marked_count e) b)) (insertion.current_part glyphs e s (insertion.at_mark glyphs e r (paid (insertion.marked_count e) b))) (record { registers = r; buffer = paid (insertion.marked_count e) b })) (insertion.current_part glyphs e s b)).buffer.max_ops
          → LeftLimited own other most (cond t (cond (int_lt (pos 0) (pay (insertion.marked_count e) y)) (insertion.current_part glyphs e s (insertion.at_mark glyphs e r (paid (insertion.marked_count e) (with_limits y most b)))) (record { registers = r; buffer = paid (insertion.marked_count e) (with_limits y most b) })) (insertion.current_part glyphs e s (with_limits y most b)))
          (cond t (cond (has_operations (paid (insertion.marked_count e) b)) (insertion.current_part glyphs e s (insertion.at_mark glyphs e r (paid (insertion.marked_count e) b))) (record { registers = r; buffer = paid (insertion.marked_count e) b })) (insertion.current_part glyphs e s b))
      by_index s true enough = by_budget s (has_operations (paid (insertion.marked_count e) b)) refl enough
      by_index s false enough = current_limited own other most e s b y low enough

  insertion_spends : Spends (insertion.act glyphs) insertion.IsFit
  insertion_spends e r b fit =
      insertion_laws.of_act glyphs (λ (d : Buffer). operations_left d.max_ops ≤ operations_left b.max_ops)
      (λ n d q. omega (arith, q, paid_less n d.max_ops)) (λ d i j q. q) (λ index count i behind by d q. q) e r b (omega arith)

  -- a run of insertion
  pub insertion_limited : (on : ℕ → Bool) (table : TableValue insertion.Entry) → LimitedTold (told_run on table (insertion_closing glyphs))
  insertion_limited on table =
      let act = insertion.act glyphs in
      told_limited on table (insertion_closing glyphs) insertion.IsFit insertion_laws.fits_fresh
      (closed.keeps_fit insertion.IsFit act insertion_from (insertion_laws.keeps_fit glyphs)) insertion_laws.passes_fit
      (closed.pays insertion.IsFit act insertion_from (insertion_laws.pays glyphs))
      (closing_limits insertion.IsFit act insertion_from (λ e r b y most. refl) insertion_limits)
      (closing_spends insertion.IsFit act insertion_from insertion_spends)

-- a noncontextual run pays nothing
noncontextual_limited : (z : Sizes) (on : ℕ → Bool) (lookup : List (ℕ × ℕ)) → LimitedTold (closing_run z on (NonContextual lookup))
unfolding noncontextual_run
noncontextual_limited z on lookup b y most some fewer = (refl, refl, omega arith, refl, refl)

-- The closing run of each kind leaves the same with another budget that it does not use up, and any greatest length.
pub closing_runs_limited : (z : Sizes) (on : ℕ → Bool) (kind : SubtableKind) → 0 < z.slots → LimitedTold (closing_run z on kind)
closing_runs_limited z on (Rearrangement table) slots = rearrangement_limited z.bound on table
closing_runs_limited z on (Contextual s) slots = contextual_limited z.classes s.lookups on s.state
closing_runs_limited z on (Ligature s) slots = ligature_limited s.actions s.components s.ligatures z.slots slots on s.state
closing_runs_limited z on (NonContextual lookup) slots = noncontextual_limited z on lookup
closing_runs_limited z on (Insertion s) slots = insertion_limited s.glyphs on s.state
