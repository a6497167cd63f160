-- The ligature act does not look at the flags of the glyphs.
use Rattle.std.proofs.Common.{◌≡◌, ◌∙◌, zero, suc, ℕ, ◌+◌, ◌-◌, ◌&&◌, Bool, true, false, cond, nat_lt, pos, ◌+ℤ◌, List, length, Option, Some, None, refl, ap, sym}
use Rattle.std.specs.Prelude.{slice_get}
use Rattle.aat_buffer.specs.Buffer.{Buffer, glyph_at, with_line}
use Rattle.aat_buffer.specs.Marks.{merge_out_clusters}
use Rattle.aat_glyph.specs.declared.glyph.hb_glyph_info_t.{hb_glyph_info_t}
use Rattle.aat_lookup.specs.declared.glyph_id.GlyphId.{GlyphId}
use Rattle.aat_machine_tables.specs.declared.state_table.GenericStateEntry.{GenericStateEntry}
use Rattle.aat_machine_tables.specs.Entries.{has_flag}
use Rattle.aat_run.specs.Context.{Moved}
use Rattle.aat_kinds.specs.Ligature.{GoesOn, Registers, Step, Stops, act, component, component_step, deleted, deleted_at, element_at, is_last, is_store, later_deleted, ligated, offset_of, stored, stored_by, summed, with_component, with_ligature}
use Rattle.aat_closing.specs.Unflagged.{IsBlind, bare, erased, erased_left}
use Rattle.aat_closing.specs.facts.BlindBuffers.{blind_of, erased_merge_out}
use Rattle.aat_closing.specs.facts.BlindLines.{bare_at, bare_change, bare_length}

-- components that are deleted
bare_later : (r : Registers) (c n : ℕ) (line : List hb_glyph_info_t) → bare (later_deleted r c n line) ≡ later_deleted r c n (bare line)
unfolding later_deleted
bare_later r c zero line = refl
bare_later r c (suc n) line =
    let i : ℕ = component r (c + suc n) in
    bare_later r c n (deleted_at i line) ∙ ap (later_deleted r c n) (bare_change deleted (λ g. refl) line i)

-- a ligature that is stored
stored_erased : (c g : ℕ) (r : Registers) (b : Buffer) → erased_left (stored c g r b) ≡ stored c g r (erased b)
unfolding stored
stored_erased c g r b =
    let u : ℕ = component r c in
    let e : ℕ = component r (r.count - 1) + 1 in
    let n : ℕ = r.count - 1 - c in
    let d : Buffer = with_line b (later_deleted r c n (with_ligature u g b.line)) in
    let made : erased d ≡ with_line b (later_deleted r c n (with_ligature u g (bare b.line))) =
    ap (with_line b)
    (bare_later r c n (with_ligature u g b.line) ∙ ap (later_deleted r c n) (bare_change (λ (x : hb_glyph_info_t). record x { glyph_id = g }) (λ x. refl) b.line u)) in
    ap (λ (x : Buffer). record { registers = record r { count = c + 1 }; buffer = x })
    (by_test d u e (nat_lt u e) ∙ ap (λ (x : Buffer). cond (nat_lt u e) (merge_out_clusters x u e) x) made)
  where
    by_test : (d : Buffer) (u e : ℕ) (t : Bool) → erased (cond t (merge_out_clusters d u e) d) ≡ cond t (merge_out_clusters (erased d) u e) (erased d)
    by_test d u e true = erased_merge_out d u e
    by_test d u e false = refl

-- what one component leaves, without flags
abbrev erased_step : Step → Step
erased_step (Stops m) = Stops (erased_left m)
erased_step (GoesOn sum m) = GoesOn sum (erased_left m)

module _ (actions values : List ℕ) (ligatures : List GlyphId) where
  stored_by_erased : (action c sum : ℕ) (o : Option GlyphId) (m : Moved Registers)
      → erased_step (stored_by actions values ligatures action c sum o m) ≡ stored_by actions values ligatures action c sum o (erased_left m)
  stored_by_erased action c sum None m = refl
  stored_by_erased action c sum (Some g) m = by_last (is_last action)
    where
      by_last : (t : Bool) → erased_step (cond t (Stops (stored c g.0 m.registers m.buffer)) (GoesOn sum (stored c g.0 m.registers m.buffer)))
          ≡ cond t (Stops (stored c g.0 m.registers (erased m.buffer))) (GoesOn sum (stored c g.0 m.registers (erased m.buffer)))
      by_last true = ap Stops (stored_erased c g.0 m.registers m.buffer)
      by_last false = ap (GoesOn sum) (stored_erased c g.0 m.registers m.buffer)

  summed_erased : (action c sum : ℕ) (o : Option ℕ) (m : Moved Registers)
      → erased_step (summed actions values ligatures action c sum o m) ≡ summed actions values ligatures action c sum o (erased_left m)
  summed_erased action c sum None m = refl
  summed_erased action c sum (Some value) m = by_store (is_store action)
    where
      by_store : (t : Bool) → erased_step (cond t (stored_by actions values ligatures action c (sum + value) (slice_get ligatures (sum + value)) m) (GoesOn (sum + value) m))
          ≡ cond t (stored_by actions values ligatures action c (sum + value) (slice_get ligatures (sum + value)) (erased_left m)) (GoesOn (sum + value) (erased_left m))
      by_store true = stored_by_erased action c (sum + value) (slice_get ligatures (sum + value)) m
      by_store false = refl

  step_erased : (o : Option ℕ) (c sum : ℕ) (m : Moved Registers)
      → erased_step (component_step actions values ligatures o c sum m) ≡ component_step actions values ligatures o c sum (erased_left m)
  unfolding component_step
  step_erased None c sum m = refl
  step_erased (Some action) c sum m =
      let i : ℕ = component m.registers c in
      let id : (glyph_at m.buffer.line i).glyph_id ≡ (glyph_at (bare m.buffer.line) i).glyph_id = sym (ap (λ (g : hb_glyph_info_t). g.glyph_id) (bare_at m.buffer.line i)) in
      summed_erased action c sum (element_at values (pos (glyph_at m.buffer.line i).glyph_id +ℤ offset_of action)) m
      ∙ ap (λ (n : ℕ). summed actions values ligatures action c sum (element_at values (pos n +ℤ offset_of action)) (erased_left m)) id

  -- the components that are taken in
  ligated_erased : (c a sum : ℕ) (m : Moved Registers) → erased_left (ligated actions values ligatures c a sum m) ≡ ligated actions values ligatures c a sum (erased_left m)
  unfolding ligated
  ligated_erased zero a sum m = refl
  ligated_erased (suc c) a sum m =
      by_step (λ more d. ligated_erased c (a + 1) more d) (component_step actions values ligatures (slice_get actions a) c sum m)
      ∙ ap (λ (t : Step). elim t [ Stops d ↦ d | GoesOn more d ↦ ligated actions values ligatures c (a + 1) more d ]) (step_erased (slice_get actions a) c sum m)
    where
      by_step : ((more : ℕ) (d : Moved Registers) → erased_left (ligated actions values ligatures c (a + 1) more d) ≡ ligated actions values ligatures c (a + 1) more (erased_left d)) → (t : Step)
          → erased_left (elim t [ Stops d ↦ d | GoesOn more d ↦ ligated actions values ligatures c (a + 1) more d ])
          ≡ (elim (erased_step t) [ Stops d ↦ d | GoesOn more d ↦ ligated actions values ligatures c (a + 1) more d ])
      by_step later (Stops d) = refl
      by_step later (GoesOn more d) = later more d

  -- the act
  act_erased : (e : GenericStateEntry ℕ) (r : Registers) (b : Buffer) → erased_left (act actions values ligatures e r b) ≡ act actions values ligatures e r (erased b)
  unfolding act
  act_erased e r b =
      by_test (has_flag e 0x2000 && nat_lt b.cursor (length b.line))
      ∙ ap (λ (n : ℕ). cond (has_flag e 0x2000 && nat_lt b.cursor n) (ligated actions values ligatures (with_component e r b.cursor).count e.extra 0 (record { registers = with_component e r b.cursor; buffer = erased b })) (record { registers = with_component e r b.cursor; buffer = erased b })) (sym (bare_length b.line))
    where
      by_test : (t : Bool) → erased_left (cond t (ligated actions values ligatures (with_component e r b.cursor).count e.extra 0 (record { registers = with_component e r b.cursor; buffer = b })) (record { registers = with_component e r b.cursor; buffer = b }))
          ≡ cond t (ligated actions values ligatures (with_component e r b.cursor).count e.extra 0 (record { registers = with_component e r b.cursor; buffer = erased b })) (record { registers = with_component e r b.cursor; buffer = erased b })
      by_test true = ligated_erased (with_component e r b.cursor).count e.extra 0 (record { registers = with_component e r b.cursor; buffer = b })
      by_test false = refl

  pub ligature_is_blind : IsBlind (act actions values ligatures)
  ligature_is_blind =
      blind_of (act actions values ligatures) (act actions values ligatures)
      (λ e r a b same. act_erased e r a ∙ (ap (act actions values ligatures e r) same ∙ sym (act_erased e r b)))
