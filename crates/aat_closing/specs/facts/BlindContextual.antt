-- The contextual act does not look at the flags of the glyphs.
use Rattle.std.proofs.Common.{◌≡◌, ◌∙◌, ℕ, ◌+◌, ◌-◌, List, length, min, Option, Some, None, option_map, refl, ap, sym}
use Rattle.std.proofs.lemmas.Option.{same_Some}
use Rattle.aat_buffer.specs.Buffer.{Buffer, glyph_at, with_line}
use Rattle.aat_buffer.specs.Marks.{unsafe_to_break}
use Rattle.aat_kinds.specs.Contextual.{Entry, Registers, act, answer_of, at_cursor, at_mark, behind_cursor, behind_mark, can_act, changed_by, looked_up, replaced_at, with_mark}
use Rattle.aat_kinds.specs.Values.{with_value}
use Rattle.aat_closing.specs.Unflagged.{IsBlind, erased, erased_left}
use Rattle.aat_closing.specs.facts.BlindBuffers.{blind_of, same_cursor, same_id, same_length, same_unsafe}
use Rattle.aat_closing.specs.facts.BlindLines.{bare_change, same_choice}

module _ (classes : Option (List (ℕ × ℕ))) (lookups : List (List (ℕ × ℕ))) where
  -- a glyph that becomes another one
  erased_replaced : (i v : ℕ) (b : Buffer) → erased (replaced_at classes lookups i v b) ≡ replaced_at classes lookups i v (erased b)
  erased_replaced i v b = ap (with_line b) (bare_change (with_value classes v) (λ g. refl) b.line i)

  same_replaced : (i v : ℕ) (a b : Buffer) → erased a ≡ erased b → erased (replaced_at classes lookups i v a) ≡ erased (replaced_at classes lookups i v b)
  same_replaced i v a b same = erased_replaced i v a ∙ (ap (replaced_at classes lookups i v) same ∙ sym (erased_replaced i v b))

  -- what an answer changes
  same_changed : (o : Option (Option ℕ)) (f g : ℕ → Buffer) (a b : Buffer) → erased a ≡ erased b → ((v : ℕ) → erased (f v) ≡ erased (g v)) → option_map erased (changed_by classes lookups o f a) ≡ option_map erased (changed_by classes lookups o g b)
  same_changed None f g a b same both = refl
  same_changed (Some None) f g a b same both = ap Some same
  same_changed (Some (Some v)) f g a b same both = ap Some (both v)

  same_looked_up : (index i : ℕ) (f g : ℕ → Buffer) (a b : Buffer) → erased a ≡ erased b → ((v : ℕ) → erased (f v) ≡ erased (g v)) → option_map erased (looked_up classes lookups index i f a) ≡ option_map erased (looked_up classes lookups index i g b)
  same_looked_up index i f g a b same both =
      ap (λ (id : ℕ). option_map erased (changed_by classes lookups (answer_of classes lookups index id) f a)) (same_id a b same i)
      ∙ same_changed (answer_of classes lookups index (glyph_at b.line i).glyph_id) f g a b same both

  -- the marked glyph, and the glyph at the cursor
  same_mark : (e : Entry) (r : Registers) (a b : Buffer) → erased a ≡ erased b → option_map erased (at_mark classes lookups e r a) ≡ option_map erased (at_mark classes lookups e r b)
  unfolding at_mark
  same_mark e r a b same =
      let to : Buffer → Option ℕ = λ d. Some (min (d.cursor + 1) (length d.line)) in
      same_looked_up e.extra.mark_index r.mark (λ v. replaced_at classes lookups r.mark v (unsafe_to_break a (Some r.mark) (to a))) (λ v. replaced_at classes lookups r.mark v (unsafe_to_break b (Some r.mark) (to b))) a b same
      (λ v. same_replaced r.mark v (unsafe_to_break a (Some r.mark) (to a)) (unsafe_to_break b (Some r.mark) (to b)) (same_unsafe a b same (Some r.mark) (to a) (Some r.mark) (to b)))

  same_at_cursor : (e : Entry) (a b : Buffer) → erased a ≡ erased b → option_map erased (at_cursor classes lookups e a) ≡ option_map erased (at_cursor classes lookups e b)
  unfolding at_cursor
  same_at_cursor e a b same =
      let there : min a.cursor (length a.line - 1) ≡ min b.cursor (length b.line - 1) = λ k. min (same_cursor a b same k) (same_length a b same k - 1) in
      let i : ℕ = min b.cursor (length b.line - 1) in
      ap (λ (n : ℕ). option_map erased (looked_up classes lookups e.extra.current_index n (λ v. replaced_at classes lookups n v a) a)) there
      ∙ same_looked_up e.extra.current_index i (λ v. replaced_at classes lookups i v a) (λ v. replaced_at classes lookups i v b) a b same (λ v. same_replaced i v a b same)

  -- what is behind them
  same_behind_cursor : (e : Entry) (r : Registers) (a b : Buffer) (o p : Option Buffer) → erased a ≡ erased b → option_map erased o ≡ option_map erased p
      → erased_left (behind_cursor classes lookups e r a o) ≡ erased_left (behind_cursor classes lookups e r b p)
  same_behind_cursor e r a b None None same both = λ k. record { registers = r; buffer = same k }
  same_behind_cursor e r a b None (Some y) same both = absurd (cc)
  same_behind_cursor e r a b (Some x) None same both = absurd (cc)
  same_behind_cursor e r a b (Some x) (Some y) same both =
      let inner : erased x ≡ erased y = same_Some (erased x) (erased y) both in
      λ k. record { registers = with_mark e r (inner k).cursor; buffer = inner k }

  same_behind_mark : (e : Entry) (r : Registers) (a b : Buffer) (o p : Option Buffer) → erased a ≡ erased b → option_map erased o ≡ option_map erased p
      → erased_left (behind_mark classes lookups e r a o) ≡ erased_left (behind_mark classes lookups e r b p)
  same_behind_mark e r a b None None same both = λ k. record { registers = r; buffer = same k }
  same_behind_mark e r a b None (Some y) same both = absurd (cc)
  same_behind_mark e r a b (Some x) None same both = absurd (cc)
  same_behind_mark e r a b (Some x) (Some y) same both =
      let inner : erased x ≡ erased y = same_Some (erased x) (erased y) both in
      same_behind_cursor e r x y (at_cursor classes lookups e x) (at_cursor classes lookups e y) inner (same_at_cursor e x y inner)

  -- the act
  same_act : (e : Entry) (r : Registers) (a b : Buffer) → erased a ≡ erased b → erased_left (act classes lookups e r a) ≡ erased_left (act classes lookups e r b)
  unfolding act
  same_act e r a b same =
      let test = ap (λ (n : ℕ). can_act r n (length a.line)) (same_cursor a b same) ∙ ap (λ (n : ℕ). can_act r b.cursor n) (same_length a b same) in
      same_choice erased_left (can_act r a.cursor (length a.line)) (can_act r b.cursor (length b.line)) test
      (behind_mark classes lookups e r a (at_mark classes lookups e r a)) (record { registers = r; buffer = a })
      (behind_mark classes lookups e r b (at_mark classes lookups e r b)) (record { registers = r; buffer = b })
      (same_behind_mark e r a b (at_mark classes lookups e r a) (at_mark classes lookups e r b) same (same_mark e r a b same))
      (λ k. record { registers = r; buffer = same k })

  pub contextual_is_blind : IsBlind (act classes lookups)
  contextual_is_blind = blind_of (act classes lookups) (act classes lookups) same_act
