-- The insertion act does not look at the flags of the glyphs.
use Rattle.std.proofs.Common.{◌≡◌, ◌∙◌, ℕ, ◌+◌, ◌&&◌, not, Bool, cond, List, [], length, min, nat_le, nat_lt, Some, None, refl, ap, sym}
use Rattle.std.specs.Prelude.{slice_range}
use Rattle.aat_buffer.specs.Buffer.{Buffer}
use Rattle.aat_lookup.specs.declared.glyph_id.GlyphId.{GlyphId}
use Rattle.aat_machine_tables.specs.Entries.{goes_on, has_flag, is_present}
use Rattle.aat_run.specs.Budget.{has_operations, has_overspent, paid}
use Rattle.aat_kinds.specs.Insertion.{Entry, Registers, act, at_cursor, at_mark, current_count, current_part, marked_count, put_in, run_for, with_mark}
use Rattle.aat_closing.specs.Unflagged.{IsBlind, erased, erased_left}
use Rattle.aat_closing.specs.facts.BlindBuffers.{blind_of, same_cursor, same_length, same_unsafe}
use Rattle.aat_closing.specs.facts.BlindLines.{bare_inserted, same_choice}

-- glyphs that go in
erased_put : (new : List GlyphId) (i : ℕ) (behind : Bool) (p : ℕ) (b : Buffer) → erased (put_in new i behind p b) ≡ put_in new i behind p (erased b)
erased_put new i behind p b = λ k. record b { line = bare_inserted new i behind b.line k; cursor = p; positions = None }

-- the current run of a buffer that has paid for it
abbrev with_current : List GlyphId → Entry → Buffer → Buffer
with_current glyphs e d =
    let new : List GlyphId = run_for glyphs d e.extra.current_insert_index (current_count e) in
    put_in new d.cursor (not (has_flag e 0x0800)) (d.cursor + cond (goes_on e) (length new) 0) d

module _ (a b : Buffer) (same : erased a ≡ erased b) where
  same_put : (new : List GlyphId) (i : ℕ) (behind : Bool) (p : ℕ) → erased (put_in new i behind p a) ≡ erased (put_in new i behind p b)
  same_put new i behind p = erased_put new i behind p a ∙ (ap (put_in new i behind p) same ∙ sym (erased_put new i behind p b))

  -- a payment
  same_paid : (n : ℕ) → erased (paid n a) ≡ erased (paid n b)
  same_paid n = ap (paid n) same

  module _ (glyphs : List GlyphId) where
    same_run : (index count : ℕ) → run_for glyphs a index count ≡ run_for glyphs b index count
    same_run index count = ap (λ (n : ℕ). cond (nat_lt 0 n && nat_le (index + count) (length glyphs)) (slice_range glyphs index (index + count)) []) (same_length a b same)

    -- the marked run
    same_mark : (e : Entry) (r : Registers) → erased (at_mark glyphs e r a) ≡ erased (at_mark glyphs e r b)
    unfolding at_mark
    same_mark e r =
        let behind : Bool = not (has_flag e 0x0400) in
        let run : Buffer → List GlyphId = λ d. run_for glyphs d e.extra.marked_insert_index (marked_count e) in
        let d : Buffer = put_in (run a) r.mark behind (a.cursor + length (run a)) a in
        let f : Buffer = put_in (run b) r.mark behind (b.cursor + length (run b)) b in
        let new : run a ≡ run b = same_run e.extra.marked_insert_index (marked_count e) in
        let put : erased d ≡ erased f =
        (λ k. erased (put_in (new k) r.mark behind (same_cursor a b same k + length (new k)) a)) ∙ same_put (run b) r.mark behind (b.cursor + length (run b)) in
        same_unsafe d f put (Some r.mark) (Some (min (d.cursor + 1) (length d.line))) (Some r.mark) (Some (min (f.cursor + 1) (length f.line)))

    same_current : (e : Entry) → erased (with_current glyphs e a) ≡ erased (with_current glyphs e b)
    same_current e =
        let behind : Bool = not (has_flag e 0x0800) in
        let run : Buffer → List GlyphId = λ d. run_for glyphs d e.extra.current_insert_index (current_count e) in
        let new : run a ≡ run b = same_run e.extra.current_insert_index (current_count e) in
        (λ k. erased (put_in (new k) (same_cursor a b same k) behind (same_cursor a b same k + cond (goes_on e) (length (new k)) 0) a))
        ∙ same_put (run b) b.cursor behind (b.cursor + cond (goes_on e) (length (run b)) 0)

module _ (glyphs : List GlyphId) where
  same_at_cursor : (e : Entry) (a b : Buffer) → erased a ≡ erased b → erased (at_cursor glyphs e a) ≡ erased (at_cursor glyphs e b)
  unfolding at_cursor
  same_at_cursor e a b same =
      let n : ℕ = current_count e in
      same_choice erased (has_overspent (paid n a)) (has_overspent (paid n b)) (λ k. has_overspent (paid n (same k)))
      (paid n a) (with_current glyphs e (paid n a)) (paid n b) (with_current glyphs e (paid n b))
      (same_paid a b same n) (same_current (paid n a) (paid n b) (same_paid a b same n) glyphs e)

  same_part : (e : Entry) (s : Registers) (a b : Buffer) → erased a ≡ erased b → erased_left (current_part glyphs e s a) ≡ erased_left (current_part glyphs e s b)
  same_part e s a b same =
      ap (λ (d : Buffer). record { registers = s; buffer = d })
      (same_choice erased (is_present e.extra.current_insert_index) (is_present e.extra.current_insert_index) refl (at_cursor glyphs e a) a (at_cursor glyphs e b) b (same_at_cursor e a b same) same)

  -- the act
  same_act : (e : Entry) (r : Registers) (a b : Buffer) → erased a ≡ erased b → erased_left (act glyphs e r a) ≡ erased_left (act glyphs e r b)
  unfolding act
  same_act e r a b same =
      let n : ℕ = marked_count e in
      let s : Registers = with_mark e r a.cursor in
      let t : Registers = with_mark e r b.cursor in
      let moved : s ≡ t = λ k. with_mark e r (same_cursor a b same k) in
      let part : (c d : Buffer) → erased c ≡ erased d → erased_left (current_part glyphs e s c) ≡ erased_left (current_part glyphs e t d) =
      λ c d both. same_part e s c d both ∙ ap (λ (u : Registers). erased_left (current_part glyphs e u d)) moved in
      let paid_both : erased (paid n a) ≡ erased (paid n b) = same_paid a b same n in
      same_choice erased_left (is_present e.extra.marked_insert_index) (is_present e.extra.marked_insert_index) refl
      (cond (has_operations (paid n a)) (current_part glyphs e s (at_mark glyphs e r (paid n a))) (record { registers = r; buffer = paid n a })) (current_part glyphs e s a)
      (cond (has_operations (paid n b)) (current_part glyphs e t (at_mark glyphs e r (paid n b))) (record { registers = r; buffer = paid n b })) (current_part glyphs e t b)
      (same_choice erased_left (has_operations (paid n a)) (has_operations (paid n b)) (λ k. has_operations (paid n (same k)))
      (current_part glyphs e s (at_mark glyphs e r (paid n a))) (record { registers = r; buffer = paid n a })
      (current_part glyphs e t (at_mark glyphs e r (paid n b))) (record { registers = r; buffer = paid n b })
      (part (at_mark glyphs e r (paid n a)) (at_mark glyphs e r (paid n b)) (same_mark (paid n a) (paid n b) paid_both glyphs e r))
      (λ k. record { registers = r; buffer = paid_both k }))
      (part a b same)

  pub insertion_is_blind : IsBlind (act glyphs)
  insertion_is_blind = blind_of (act glyphs) (act glyphs) same_act
