-- The contextual act on a line that more glyphs stand behind, or before.
use Rattle.std.proofs.Common.{◌≡◌, ◌∙◌, ◌⊎◌, inl, inr, ℕ, ℤ, ◌+◌, ◌-◌, ◌<◌, ◌≤◌, ◌&&◌, ◌||◌, not, Bool, true, false, cond, List, ◌++◌, length, length-set, min, nat_lt, Option, Some, None, refl, ap, sym, arith, length-append, get_or}
use Rattle.std.proofs.lemmas.Bool.Decides.{nat_tests}
use Rattle.std.proofs.lemmas.List.{get_or-append-add, get_or_append_left, set-append_left, set-append_right}
use Rattle.std.proofs.lemmas.Option.{slice_get_cases}
use Rattle.std.specs.Prelude.{option_map, slice_get, slice_set, unwrap_or}
use Rattle.aat_buffer.specs.Buffer.{Buffer, glyph_at, no_glyph}
use Rattle.aat_buffer.specs.Marks.{unsafe_to_break, with_line}
use Rattle.aat_buffer.specs.facts.Cases.{chosen}
use Rattle.aat_buffer.specs.facts.Lines.{length_unsafe}
use Rattle.aat_glyph.specs.declared.glyph.hb_glyph_info_t.{hb_glyph_info_t}
use Rattle.aat_machine_tables.specs.Entries.{has_flag, is_present}
use Rattle.aat_lookup.specs.Keys.{value_in}
use Rattle.aat_run.specs.Context.{Moved}
use Rattle.aat_kinds.specs.Contextual.{Entry, Registers, act, answer_of, at_cursor, at_mark, behind_cursor, behind_mark, can_act, changed_by, replaced_at, with_mark}
use Rattle.aat_kinds.specs.Values.{with_value}
use Rattle.aat_cut_kinds.specs.Parts.{followed_by, moved_on}
use Rattle.aat_cut_kinds.specs.facts.Spans.{unsafe_in_back, unsafe_in_front}
use Rattle.aat_cut_kinds.specs.Settled.{is_answered, sets_mark}

-- inside a line an act is done
pub acts_inside : (r : Registers) (p n : ℕ) → p < n → can_act r p n ≡ true
acts_inside r p n below = let lower : nat_lt p n ≡ true = grind (arith, nat_tests, below) in rw lower refl

module _ (classes : Option (List (ℕ × ℕ))) (lookups : List (List (ℕ × ℕ))) where
  -- no index asks for nothing
  no_answer : (index g : ℕ) → is_present index ≡ false → answer_of classes lookups index g ≡ Some None
  unfolding answer_of
  no_answer index g none = rw none refl

  no_mark : (e : Entry) (r : Registers) (b : Buffer) → is_present e.extra.mark_index ≡ false → at_mark classes lookups e r b ≡ Some b
  unfolding at_mark
  no_mark e r b none = rw (no_answer e.extra.mark_index (glyph_at b.line r.mark).glyph_id none) refl

  no_current : (e : Entry) (b : Buffer) → is_present e.extra.current_index ≡ false → at_cursor classes lookups e b ≡ Some b
  unfolding at_cursor
  no_current e b none = rw (no_answer e.extra.current_index (glyph_at b.line (min b.cursor (length b.line - 1))).glyph_id none) refl

  -- an entry without indexes leaves the buffer
  pub idle_act : (e : Entry) (r : Registers) (b : Buffer) → is_present e.extra.mark_index ≡ false → is_present e.extra.current_index ≡ false → (act classes lookups e r b).buffer ≡ b
  unfolding act
  idle_act e r b none_marked none_current =
      rw (no_mark e r b none_marked, no_current e b none_current)
      (chosen (λ (left : Moved Registers). left.buffer ≡ b) (can_act r b.cursor (length b.line)) (record { registers = with_mark e r b.cursor; buffer = b }) (record { registers = r; buffer = b }) (λ _. refl) (λ _. refl))

  -- whether a lookup answers
  answers : Option (Option ℕ) → Bool
  answers None = false
  answers (Some v) = true

  got_at : (xs : List (List (ℕ × ℕ))) (i g : ℕ) → answers (option_map (λ (lookup : List (ℕ × ℕ)). value_in lookup g) (slice_get xs i)) ≡ nat_lt i (length xs)
  unfolding answers
  got_at xs i g = by_place (slice_get_cases xs i).1
    where
      by_place : ((x : List (ℕ × ℕ)) × (i < length xs) × (slice_get xs i ≡ Some x) × (get_or xs i x ≡ x)) ⊎ ((length xs ≤ i) × (slice_get xs i ≡ None)) → answers (option_map (λ (lookup : List (ℕ × ℕ)). value_in lookup g) (slice_get xs i)) ≡ nat_lt i (length xs)
      by_place (inl found) = let below : nat_lt i (length xs) ≡ true = grind (arith, nat_tests, found.1) in rw (found.2, below) refl
      by_place (inr past) = let above : nat_lt i (length xs) ≡ false = grind (arith, nat_tests, past.0) in rw (past.1, above) refl

  answered : (index g : ℕ) → answers (answer_of classes lookups index g) ≡ is_answered lookups index
  unfolding answer_of answers
  answered index g = by_index (is_present index)
    where
      by_index : (t : Bool) → answers (cond t (option_map (λ (lookup : List (ℕ × ℕ)). value_in lookup g) (slice_get lookups index)) (Some None)) ≡ (not t || nat_lt index (length lookups))
      by_index true = got_at lookups index g
      by_index false = refl

  -- what an answer changes, if there is one
  shape : (o : Option (Option ℕ)) (change : ℕ → Buffer) (b : Buffer) → changed_by classes lookups o change b ≡ cond (answers o) (Some (unwrap_or (changed_by classes lookups o change b) b)) None
  unfolding answers
  shape None change b = refl
  shape (Some v) change b = refl

  same_cursor : (o : Option (Option ℕ)) (change : ℕ → Buffer) (b : Buffer) → ((v : ℕ) → (change v).cursor ≡ b.cursor) → (unwrap_or (changed_by classes lookups o change b) b).cursor ≡ b.cursor
  same_cursor None change b same = refl
  same_cursor (Some None) change b same = refl
  same_cursor (Some (Some v)) change b same = same v

  module _ (e : Entry) (r : Registers) (b : Buffer) where
    -- the buffer behind the marked glyph, and behind the one at the cursor
    first : Buffer
    first = unwrap_or (at_mark classes lookups e r b) b

    second : Buffer
    second = unwrap_or (at_cursor classes lookups e first) first

    is_first : at_mark classes lookups e r b ≡ cond (is_answered lookups e.extra.mark_index) (Some first) None
    unfolding first at_mark
    is_first =
        let g : ℕ = (glyph_at b.line r.mark).glyph_id in
        shape (answer_of classes lookups e.extra.mark_index g) (λ v. replaced_at classes lookups r.mark v (unsafe_to_break b (Some r.mark) (Some (min (b.cursor + 1) (length b.line))))) b
        ∙ ap (λ t. cond t (Some first) None) (answered e.extra.mark_index g)

    is_second : at_cursor classes lookups e first ≡ cond (is_answered lookups e.extra.current_index) (Some second) None
    unfolding second at_cursor
    is_second =
        let i : ℕ = min first.cursor (length first.line - 1) in
        let g : ℕ = (glyph_at first.line i).glyph_id in
        shape (answer_of classes lookups e.extra.current_index g) (λ v. replaced_at classes lookups i v first) first
        ∙ ap (λ t. cond t (Some second) None) (answered e.extra.current_index g)

    cursor_of_second : second.cursor ≡ b.cursor
    unfolding second first at_cursor at_mark
    cursor_of_second =
        let i : ℕ = min first.cursor (length first.line - 1) in
        same_cursor (answer_of classes lookups e.extra.current_index (glyph_at first.line i).glyph_id) (λ v. replaced_at classes lookups i v first) first (λ v. refl)
        ∙ same_cursor (answer_of classes lookups e.extra.mark_index (glyph_at b.line r.mark).glyph_id) (λ v. replaced_at classes lookups r.mark v (unsafe_to_break b (Some r.mark) (Some (min (b.cursor + 1) (length b.line))))) b (λ v. refl)

    marked_here : Registers
    marked_here = record { mark = b.cursor; is_set = true }

    never : (h : Bool) → cond (h && false) marked_here r ≡ r
    never true = refl
    never false = refl

    maybe : (h : Bool) → cond h (record { mark = second.cursor; is_set = true }) r ≡ cond (h && true) marked_here r
    unfolding marked_here
    maybe true = ap (λ (p : ℕ). record { mark = p; is_set = true }) cursor_of_second
    maybe false = refl

    by_answers : (t u : Bool) → at_mark classes lookups e r b ≡ cond t (Some first) None → at_cursor classes lookups e first ≡ cond u (Some second) None
        → (behind_mark classes lookups e r b (at_mark classes lookups e r b)).registers ≡ cond (has_flag e 0x8000 && (t && u)) marked_here r
    by_answers false u one two = rw one (sym (never (has_flag e 0x8000)))
    by_answers true false one two = rw (one, two) (sym (never (has_flag e 0x8000)))
    by_answers true true one two = rw (one, two) (maybe (has_flag e 0x8000))

    -- the registers that an act leaves
    pub registers_of : can_act r b.cursor (length b.line) ≡ true → (act classes lookups e r b).registers ≡ cond (sets_mark lookups e) (record { mark = b.cursor; is_set = true }) r
    unfolding act marked_here
    registers_of can = rw can (by_answers (is_answered lookups e.extra.mark_index) (is_answered lookups e.extra.current_index) is_first is_second)

  -- an entry that names a missing lookup for the marked glyph leaves the buffer
  pub missing_act : (e : Entry) (r : Registers) (b : Buffer) → is_answered lookups e.extra.mark_index ≡ false → (act classes lookups e r b).buffer ≡ b
  unfolding act
  missing_act e r b missing =
      let none : at_mark classes lookups e r b ≡ None = is_first e r b ∙ ap (λ (t : Bool). cond t (Some (first e r b)) None) missing in
      rw none (chosen (λ (left : Moved Registers). left.buffer ≡ b) (can_act r b.cursor (length b.line)) (record { registers = r; buffer = b }) (record { registers = r; buffer = b }) (λ _. refl) (λ _. refl))

  -- a buffer that is seen otherwise
  module _ (W : Buffer → Buffer) where
    changed_same : (o : Option (Option ℕ)) (change seen : ℕ → Buffer) (b : Buffer) → ((v : ℕ) → seen v ≡ W (change v)) → changed_by classes lookups o seen (W b) ≡ option_map W (changed_by classes lookups o change b)
    changed_same None change seen b same = refl
    changed_same (Some None) change seen b same = refl
    changed_same (Some (Some v)) change seen b same = ap Some (same v)

    by_behind_cursor : (e : Entry) (r s : Registers) (d : Buffer) (o : Option Buffer) → (behind_cursor classes lookups e r (W d) (option_map W o)).buffer ≡ W (behind_cursor classes lookups e s d o).buffer
    by_behind_cursor e r s d None = refl
    by_behind_cursor e r s d (Some x) = refl

    by_behind_mark : (e : Entry) (r s : Registers) (b : Buffer) (o : Option Buffer) → ((d : Buffer) → o ≡ Some d → at_cursor classes lookups e (W d) ≡ option_map W (at_cursor classes lookups e d))
        → (behind_mark classes lookups e r (W b) (option_map W o)).buffer ≡ W (behind_mark classes lookups e s b o).buffer
    by_behind_mark e r s b None same = refl
    by_behind_mark e r s b (Some d) same =
        ap (λ (x : Option Buffer). (behind_cursor classes lookups e r (W d) x).buffer) (same d refl) ∙ by_behind_cursor e r s d (at_cursor classes lookups e d)

    -- the buffer of an act
    same_buffer : (e : Entry) (r s : Registers) (b : Buffer) → can_act r (W b).cursor (length (W b).line) ≡ true → can_act s b.cursor (length b.line) ≡ true
        → at_mark classes lookups e r (W b) ≡ option_map W (at_mark classes lookups e s b)
        → ((d : Buffer) → at_mark classes lookups e s b ≡ Some d → at_cursor classes lookups e (W d) ≡ option_map W (at_cursor classes lookups e d))
        → (act classes lookups e r (W b)).buffer ≡ W (act classes lookups e s b).buffer
    unfolding act
    same_buffer e r s b can_whole can_part marks currents = rw (can_whole, can_part, marks) (by_behind_mark e r s b (at_mark classes lookups e s b) currents)

  -- what stands where the marked glyph was replaced
  behind_marked : (e : Entry) (s : Registers) (b d : Buffer) → at_mark classes lookups e s b ≡ Some d → (d.cursor ≡ b.cursor) × (length d.line ≡ length b.line)
  unfolding at_mark
  behind_marked e s b d is =
      by_answer (answer_of classes lookups e.extra.mark_index (glyph_at b.line s.mark).glyph_id) is
    where
      change : ℕ → Buffer
      change v = replaced_at classes lookups s.mark v (unsafe_to_break b (Some s.mark) (Some (min (b.cursor + 1) (length b.line))))

      kept : (v : ℕ) → ((change v).cursor ≡ b.cursor) × (length (change v).line ≡ length b.line)
      kept v = (refl, length-set (unsafe_to_break b (Some s.mark) (Some (min (b.cursor + 1) (length b.line)))).line s.mark _ ∙ length_unsafe b (Some s.mark) (Some (min (b.cursor + 1) (length b.line))))

      by_answer : (o : Option (Option ℕ)) → changed_by classes lookups o change b ≡ Some d → (d.cursor ≡ b.cursor) × (length d.line ≡ length b.line)
      by_answer None is = absurd (cc)
      by_answer (Some None) is = let same : b ≡ d = cc in (ap (λ (x : Buffer). x.cursor) (sym same), ap (λ (x : Buffer). length x.line) (sym same))
      by_answer (Some (Some v)) is =
          let same : change v ≡ d = cc in
          (ap (λ (x : Buffer). x.cursor) (sym same) ∙ (kept v).0, ap (λ (x : Buffer). length x.line) (sym same) ∙ (kept v).1)

  module _ (gs : List hb_glyph_info_t) where
    -- glyphs behind the line
    replaced_in_front : (i v : ℕ) (b : Buffer) → i < length b.line → replaced_at classes lookups i v (followed_by gs b) ≡ followed_by gs (replaced_at classes lookups i v b)
    replaced_in_front i v b below =
        ap (with_line b) (ap (λ (g : hb_glyph_info_t). slice_set (b.line ++ gs) i (with_value classes v g)) (get_or_append_left b.line gs no_glyph i below) ∙ set-append_left b.line gs i (with_value classes v (glyph_at b.line i)) below)

    mark_in_front : (e : Entry) (r : Registers) (b : Buffer) → b.cursor < length b.line → r.mark < length b.line → at_mark classes lookups e r (followed_by gs b) ≡ option_map (followed_by gs) (at_mark classes lookups e r b)
    unfolding at_mark
    mark_in_front e r b below marked =
        let end : min (b.cursor + 1) (length (b.line ++ gs)) ≡ b.cursor + 1 = omega (arith, below, length-append b.line gs) in
        let here : min (b.cursor + 1) (length b.line) ≡ b.cursor + 1 = omega (arith, below) in
        rw (end, here, get_or_append_left b.line gs no_glyph r.mark marked)
        (changed_same (followed_by gs) (answer_of classes lookups e.extra.mark_index (glyph_at b.line r.mark).glyph_id) (λ v. replaced_at classes lookups r.mark v (unsafe_to_break b (Some r.mark) (Some (b.cursor + 1))))
        (λ v. replaced_at classes lookups r.mark v (unsafe_to_break (followed_by gs b) (Some r.mark) (Some (b.cursor + 1)))) b
        (λ v. ap (replaced_at classes lookups r.mark v) (unsafe_in_front gs b r.mark (b.cursor + 1) (omega (arith, below)))
        ∙ replaced_in_front r.mark v (unsafe_to_break b (Some r.mark) (Some (b.cursor + 1))) (rw (length_unsafe b (Some r.mark) (Some (b.cursor + 1))) marked)))

    current_in_front : (e : Entry) (d : Buffer) → d.cursor < length d.line → at_cursor classes lookups e (followed_by gs d) ≡ option_map (followed_by gs) (at_cursor classes lookups e d)
    unfolding at_cursor
    current_in_front e d below =
        let there : min d.cursor (length (d.line ++ gs) - 1) ≡ d.cursor = omega (arith, below, length-append d.line gs) in
        let here : min d.cursor (length d.line - 1) ≡ d.cursor = omega (arith, below) in
        let seen : ℕ → hb_glyph_info_t → Option Buffer = λ i g. changed_by classes lookups (answer_of classes lookups e.extra.current_index g.glyph_id) (λ v. replaced_at classes lookups i v (followed_by gs d)) (followed_by gs d) in
        let part : ℕ → Option Buffer = λ i. changed_by classes lookups (answer_of classes lookups e.extra.current_index (glyph_at d.line i).glyph_id) (λ v. replaced_at classes lookups i v d) d in
        ap (λ i. seen i (glyph_at (d.line ++ gs) i)) there
        ∙ (ap (seen d.cursor) (get_or_append_left d.line gs no_glyph d.cursor below)
        ∙ (changed_same (followed_by gs) (answer_of classes lookups e.extra.current_index (glyph_at d.line d.cursor).glyph_id) (λ v. replaced_at classes lookups d.cursor v d)
        (λ v. replaced_at classes lookups d.cursor v (followed_by gs d)) d (λ v. replaced_in_front d.cursor v d below)
        ∙ sym (ap (λ i. option_map (followed_by gs) (part i)) here)))

    -- an act at a glyph, the same with more glyphs behind the line
    pub act_in_front : (e : Entry) (r : Registers) (b : Buffer) → b.cursor < length b.line → r.mark < length b.line
        → act classes lookups e r (followed_by gs b) ≡ record { registers = (act classes lookups e r b).registers; buffer = followed_by gs (act classes lookups e r b).buffer }
    act_in_front e r b below marked =
        let longer : b.cursor < length (b.line ++ gs) = omega (arith, below, length-append b.line gs) in
        let can_whole = acts_inside r b.cursor (length (b.line ++ gs)) longer in
        let can_part = acts_inside r b.cursor (length b.line) below in
        let buffers = same_buffer (followed_by gs) e r r b can_whole can_part (mark_in_front e r b below marked)
        (λ d is. let kept = behind_marked e r b d is in current_in_front e d (rw (kept.0, kept.1) below)) in
        let registers : (act classes lookups e r (followed_by gs b)).registers ≡ (act classes lookups e r b).registers = registers_of e r (followed_by gs b) can_whole ∙ sym (registers_of e r b can_part) in
        λ i. record { registers = registers i; buffer = buffers i }

    -- glyphs before the line
    module _ (z : ℤ) where
      replaced_in_back : (i v : ℕ) (b : Buffer) → replaced_at classes lookups (length gs + i) v (moved_on gs z b) ≡ moved_on gs z (replaced_at classes lookups i v b)
      replaced_in_back i v b =
          let back : length gs + i - length gs ≡ i = omega arith in
          let set : slice_set (gs ++ b.line) (length gs + i) (with_value classes v (glyph_at b.line i)) ≡ gs ++ slice_set b.line i (with_value classes v (glyph_at b.line i)) =
          set-append_right gs b.line (length gs) (length gs + i) (with_value classes v (glyph_at b.line i)) refl (omega arith) ∙ ap (λ n. gs ++ slice_set b.line n (with_value classes v (glyph_at b.line i))) back in
          ap (with_line (moved_on gs z b)) (ap (λ (g : hb_glyph_info_t). slice_set (gs ++ b.line) (length gs + i) (with_value classes v g)) (get_or-append-add gs b.line i no_glyph) ∙ set)

      mark_in_back : (e : Entry) (r s : Registers) (b : Buffer) → r.mark ≡ length gs + s.mark → at_mark classes lookups e r (moved_on gs z b) ≡ option_map (moved_on gs z) (at_mark classes lookups e s b)
      unfolding at_mark
      mark_in_back e r s b moved =
          let end : min (length gs + b.cursor + 1) (length (gs ++ b.line)) ≡ length gs + min (b.cursor + 1) (length b.line) = omega (arith, length-append gs b.line) in
          rw (end, moved, get_or-append-add gs b.line s.mark no_glyph)
          (changed_same (moved_on gs z) (answer_of classes lookups e.extra.mark_index (glyph_at b.line s.mark).glyph_id)
          (λ v. replaced_at classes lookups s.mark v (unsafe_to_break b (Some s.mark) (Some (min (b.cursor + 1) (length b.line)))))
          (λ v. replaced_at classes lookups (length gs + s.mark) v (unsafe_to_break (moved_on gs z b) (Some (length gs + s.mark)) (Some (length gs + min (b.cursor + 1) (length b.line))))) b
          (λ v. ap (replaced_at classes lookups (length gs + s.mark) v) (unsafe_in_back gs z b s.mark (min (b.cursor + 1) (length b.line)))
          ∙ replaced_in_back s.mark v (unsafe_to_break b (Some s.mark) (Some (min (b.cursor + 1) (length b.line))))))

      current_in_back : (e : Entry) (d : Buffer) → 0 < length d.line → at_cursor classes lookups e (moved_on gs z d) ≡ option_map (moved_on gs z) (at_cursor classes lookups e d)
      unfolding at_cursor
      current_in_back e d some =
          let there : min (length gs + d.cursor) (length (gs ++ d.line) - 1) ≡ length gs + min d.cursor (length d.line - 1) = omega (arith, some, length-append gs d.line) in
          let i : ℕ = min d.cursor (length d.line - 1) in
          let seen : ℕ → hb_glyph_info_t → Option Buffer = λ j g. changed_by classes lookups (answer_of classes lookups e.extra.current_index g.glyph_id) (λ v. replaced_at classes lookups j v (moved_on gs z d)) (moved_on gs z d) in
          ap (λ j. seen j (glyph_at (gs ++ d.line) j)) there
          ∙ (ap (seen (length gs + i)) (get_or-append-add gs d.line i no_glyph)
          ∙ changed_same (moved_on gs z) (answer_of classes lookups e.extra.current_index (glyph_at d.line i).glyph_id) (λ v. replaced_at classes lookups i v d)
          (λ v. replaced_at classes lookups (length gs + i) v (moved_on gs z d)) d (λ v. replaced_in_back i v d))

      -- an act, the same with more glyphs before the line, where the marked place has moved on if it is asked for
      pub act_in_back : (e : Entry) (r s : Registers) (b : Buffer) → can_act r (length gs + b.cursor) (length (gs ++ b.line)) ≡ true → can_act s b.cursor (length b.line) ≡ true
          → (is_present e.extra.mark_index ≡ true → r.mark ≡ length gs + s.mark) → 0 < length b.line
          → (act classes lookups e r (moved_on gs z b)).buffer ≡ moved_on gs z (act classes lookups e s b).buffer
      act_in_back e r s b can_whole can_part moved some =
          same_buffer (moved_on gs z) e r s b can_whole can_part (by_index (is_present e.extra.mark_index) refl)
          (λ d is. let kept = behind_marked e s b d is in current_in_back e d (rw kept.1 some))
        where
          by_index : (t : Bool) → is_present e.extra.mark_index ≡ t → at_mark classes lookups e r (moved_on gs z b) ≡ option_map (moved_on gs z) (at_mark classes lookups e s b)
          by_index true is = mark_in_back e r s b (moved is)
          by_index false is = no_mark e r (moved_on gs z b) is ∙ sym (ap (option_map (moved_on gs z)) (no_mark e s b is))
