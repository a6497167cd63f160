-- The insertion act on a line that more glyphs stand behind, or before.
use Rattle.std.proofs.Common.{◌≡◌, ◌∙◌, ℕ, ℤ, pos, negsuc, ◌-ℤ◌, ◌+◌, ◌-◌, ◌<◌, ◌≤◌, ◌&&◌, not, Bool, true, false, cond, List, ◌++◌, length, min, nat_lt, take, drop, Some, refl, ap, sym, arith, append_assoc, length-append}
use Rattle.std.proofs.Math.Seq.{drop-append-add, take-append-add}
use Rattle.std.proofs.lemmas.Bool.Decides.{nat_tests}
use Rattle.std.proofs.lemmas.Int.{ints}
use Rattle.std.proofs.lemmas.List.{drop-append-le, get_or-append-add, get_or_append_left, take-append-le}
use Rattle.std.specs.Int.{int_max}
use Rattle.std.specs.Prelude.{int_lt}
use Rattle.aat_buffer.specs.Buffer.{Buffer, glyph_at, no_glyph}
use Rattle.aat_buffer.specs.Marks.{unsafe_to_break}
use Rattle.aat_buffer.specs.facts.Lines.{length_unsafe}
use Rattle.aat_machine_tables.specs.Entries.{goes_on, has_flag, is_present}
use Rattle.aat_lookup.specs.declared.glyph_id.GlyphId.{GlyphId}
use Rattle.aat_glyph.specs.declared.glyph.hb_glyph_info_t.{hb_glyph_info_t}
use Rattle.aat_run.specs.Budget.{has_operations, has_overspent, operations_left, paid}
use Rattle.aat_run.specs.Context.{Moved}
use Rattle.aat_kinds.specs.Insertion.{Entry, Registers, act, at_cursor, at_mark, copies, current_count, current_part, inserted, marked_count, put_in, run_for, with_mark}
use Rattle.aat_kinds.specs.facts.InsertionLaws.{length_inserted}
use Rattle.aat_cut_kinds.specs.CutLaws.{IsMovedOn, left_before}
use Rattle.aat_cut_kinds.specs.Parts.{followed_by, moved_on}
use Rattle.aat_cut_kinds.specs.facts.Spans.{unsafe_in_back, unsafe_in_front}

-- what is left behind a payment
abbrev pub pay : ℕ → ℤ → ℤ
pay n z = int_max (z -ℤ pos n) (negsuc 2147483647)

pub pays_alike : (n : ℕ) (z y : ℤ) → 0 < operations_left (pay n z) → operations_left z ≤ operations_left y → operations_left (pay n z) ≤ operations_left (pay n y)
pays_alike n z y some more = grind (arith, ints, some, more)

pub solvent : (z : ℤ) → 0 < operations_left z → int_lt z (pos 0) ≡ false
solvent z some = grind (arith, ints, some)

pub has_some : (z : ℤ) → 0 < operations_left z → int_lt (pos 0) z ≡ true
has_some z some = grind (arith, ints, some)

pub some_left : (z : ℤ) → int_lt (pos 0) z ≡ true → 0 < operations_left z
some_left z has = grind (arith, ints, has)

pub none_left : (z : ℤ) → int_lt (pos 0) z ≡ false → operations_left z ≡ 0
none_left z none = grind (arith, ints, none)

pub none_owed : (z : ℤ) → int_lt z (pos 0) ≡ true → operations_left z ≡ 0
none_owed z owed = grind (arith, ints, owed)

-- glyphs that go into the first of two lines
put_in_front : (a : ℕ) (made line gs : List hb_glyph_info_t) → a ≤ length line → take a (line ++ gs) ++ (made ++ drop a (line ++ gs)) ≡ (take a line ++ (made ++ drop a line)) ++ gs
put_in_front a made line gs within =
    rw (take-append-le a line gs within, drop-append-le a line gs within)
    (sym (append_assoc (take a line) (made ++ drop a line) gs ∙ ap (λ t. take a line ++ t) (append_assoc made (drop a line) gs)))

pub inserted_in_front : (new : List GlyphId) (i : ℕ) (behind : Bool) (line gs : List hb_glyph_info_t) → i < length line → inserted new i behind (line ++ gs) ≡ inserted new i behind line ++ gs
unfolding inserted
inserted_in_front new i behind line gs below =
    let longer : nat_lt i (length (line ++ gs)) ≡ true = (let long = length-append line gs in grind (arith, nat_tests, long, below)) in
    let here : nat_lt i (length line) ≡ true = grind (arith, nat_tests, below) in
    let whole : min i (length (line ++ gs) - 1) ≡ i = (let long = length-append line gs in omega (arith, long, below)) in
    let part : min i (length line - 1) ≡ i = omega (arith, below) in
    rw (longer, here, whole, part, get_or_append_left line gs no_glyph i below) (by_side behind)
  where
    by_side : (t : Bool) → take (cond (t && true) (i + 1) i) (line ++ gs) ++ (copies (glyph_at line i) new ++ drop (cond (t && true) (i + 1) i) (line ++ gs))
        ≡ (take (cond (t && true) (i + 1) i) line ++ (copies (glyph_at line i) new ++ drop (cond (t && true) (i + 1) i) line)) ++ gs
    by_side true = put_in_front (i + 1) (copies (glyph_at line i) new) line gs (omega (arith, below))
    by_side false = put_in_front i (copies (glyph_at line i) new) line gs (omega (arith, below))

-- and into the second
put_in_back : (a : ℕ) (made line gs : List hb_glyph_info_t) → take (length gs + a) (gs ++ line) ++ (made ++ drop (length gs + a) (gs ++ line)) ≡ gs ++ (take a line ++ (made ++ drop a line))
put_in_back a made line gs = rw (take-append-add gs line a, drop-append-add gs line a) (append_assoc gs (take a line) (made ++ drop a line))

inserted_in_back : (new : List GlyphId) (i : ℕ) (behind : Bool) (line gs : List hb_glyph_info_t) → 0 < length line → inserted new (length gs + i) behind (gs ++ line) ≡ gs ++ inserted new i behind line
unfolding inserted
inserted_in_back new i behind line gs some =
    let long = length-append gs line in
    let same : nat_lt (length gs + i) (length (gs ++ line)) ≡ nat_lt i (length line) = grind (arith, nat_tests, long) in
    let place : min (length gs + i) (length (gs ++ line) - 1) ≡ length gs + min i (length line - 1) = omega (arith, long, some) in
    rw (same, place, get_or-append-add gs line (min i (length line - 1)) no_glyph) (by_side (behind && nat_lt i (length line)))
  where
    made : List hb_glyph_info_t
    made = copies (glyph_at line (min i (length line - 1))) new

    next : length gs + i + 1 ≡ length gs + (i + 1)
    next = omega arith

    by_side : (t : Bool) → take (cond t (length gs + i + 1) (length gs + i)) (gs ++ line) ++ (made ++ drop (cond t (length gs + i + 1) (length gs + i)) (gs ++ line))
        ≡ gs ++ (take (cond t (i + 1) i) line ++ (made ++ drop (cond t (i + 1) i) line))
    by_side true = ap (λ n. take n (gs ++ line) ++ (made ++ drop n (gs ++ line))) next ∙ put_in_back (i + 1) made line gs
    by_side false = put_in_back i made line gs

-- from a place to the cursor the line is unsafe
abbrev pub unsafe_from : ℕ → Buffer → Buffer
unsafe_from i d = unsafe_to_break d (Some i) (Some (min (d.cursor + 1) (length d.line)))

unsafe_from_in_front : (gs : List hb_glyph_info_t) (i : ℕ) (d : Buffer) → d.cursor < length d.line → unsafe_from i (followed_by gs d) ≡ followed_by gs (unsafe_from i d)
unsafe_from_in_front gs i d below =
    let long = length-append d.line gs in
    let end : min (d.cursor + 1) (length (d.line ++ gs)) ≡ d.cursor + 1 = omega (arith, below, long) in
    let here : min (d.cursor + 1) (length d.line) ≡ d.cursor + 1 = omega (arith, below) in
    rw (end, here) (unsafe_in_front gs d i (d.cursor + 1) (omega (arith, below)))

unsafe_from_in_back : (gs : List hb_glyph_info_t) (z : ℤ) (i : ℕ) (d : Buffer) → unsafe_from (length gs + i) (moved_on gs z d) ≡ moved_on gs z (unsafe_from i d)
unsafe_from_in_back gs z i d =
    let long = length-append gs d.line in
    let end : min (length gs + d.cursor + 1) (length (gs ++ d.line)) ≡ length gs + min (d.cursor + 1) (length d.line) = omega (arith, long) in
    ap (λ n. unsafe_to_break (moved_on gs z d) (Some (length gs + i)) (Some n)) end ∙ unsafe_in_back gs z d i (min (d.cursor + 1) (length d.line))

module _ (glyphs : List GlyphId) where
  -- a run that goes into a line that is not empty
  same_run : (b d : Buffer) (index count : ℕ) → 0 < length b.line → 0 < length d.line → run_for glyphs b index count ≡ run_for glyphs d index count
  same_run b d index count some more =
      let one : nat_lt 0 (length b.line) ≡ true = grind (arith, nat_tests, some) in
      let two : nat_lt 0 (length d.line) ≡ true = grind (arith, nat_tests, more) in
      rw (one, two) refl

  -- the marked run of an entry, and the line with it
  abbrev pub marked_run : Entry → Buffer → List GlyphId
  marked_run e b = run_for glyphs b e.extra.marked_insert_index (marked_count e)

  abbrev pub with_marked_run : Entry → ℕ → List GlyphId → Buffer → Buffer
  with_marked_run e i new b = put_in new i (not (has_flag e 0x0400)) (b.cursor + length new) b

  inside_marked : (e : Entry) (i : ℕ) (new : List GlyphId) (b : Buffer) → b.cursor < length b.line → (with_marked_run e i new b).cursor < length (with_marked_run e i new b).line
  inside_marked e i new b below = let long = length_inserted new i (not (has_flag e 0x0400)) b.line in omega (arith, below, long)

  pub inside_mark : (e : Entry) (r : Registers) (b : Buffer) → b.cursor < length b.line → (at_mark glyphs e r b).cursor < length (at_mark glyphs e r b).line
  unfolding at_mark
  inside_mark e r b below =
      let d : Buffer = with_marked_run e r.mark (marked_run e b) b in
      let same = length_unsafe d (Some r.mark) (Some (min (d.cursor + 1) (length d.line))) in
      let within = inside_marked e r.mark (marked_run e b) b below in
      omega (arith, same, within)

  -- the current run of an entry, and the line with it
  abbrev pub current_run : Entry → Buffer → List GlyphId
  current_run e b = run_for glyphs b e.extra.current_insert_index (current_count e)

  abbrev pub with_current_run : Entry → List GlyphId → Buffer → Buffer
  with_current_run e new d = put_in new d.cursor (not (has_flag e 0x0800)) (d.cursor + cond (goes_on e) (length new) 0) d

  inside_put : (e : Entry) (new : List GlyphId) (d : Buffer) → d.cursor < length d.line → (with_current_run e new d).cursor < length (with_current_run e new d).line
  inside_put e new d below = by_going (goes_on e)
    where
      by_going : (t : Bool) → d.cursor + cond t (length new) 0 < length (inserted new d.cursor (not (has_flag e 0x0800)) d.line)
      by_going true = let long = length_inserted new d.cursor (not (has_flag e 0x0800)) d.line in omega (arith, below, long)
      by_going false = let long = length_inserted new d.cursor (not (has_flag e 0x0800)) d.line in omega (arith, below, long)

  IsInside : Buffer → Type 0
  IsInside b = b.cursor < length b.line

  inside_cursor : (e : Entry) (b : Buffer) → b.cursor < length b.line → IsInside (at_cursor glyphs e b)
  unfolding at_cursor IsInside
  inside_cursor e b below = by_debt (has_overspent (paid (current_count e) b))
    where
      d : Buffer
      d = paid (current_count e) b

      by_debt : (t : Bool) → IsInside (cond t (paid (current_count e) b) (with_current_run e (current_run e (paid (current_count e) b)) (paid (current_count e) b)))
      by_debt true = below
      by_debt false = inside_put e (current_run e (paid (current_count e) b)) (paid (current_count e) b) below

  inside_current : (e : Entry) (r : Registers) (b : Buffer) → b.cursor < length b.line → IsInside (current_part glyphs e r b).buffer
  unfolding IsInside
  inside_current e r b below = by_index (is_present e.extra.current_insert_index)
    where
      by_index : (t : Bool) → IsInside (cond t (at_cursor glyphs e b) b)
      by_index true = inside_cursor e b below
      by_index false = below

  -- an act keeps the cursor before the end
  pub inside_act : (e : Entry) (r : Registers) (b : Buffer) → b.cursor < length b.line → (act glyphs e r b).buffer.cursor < length (act glyphs e r b).buffer.line
  unfolding act IsInside
  inside_act e r b below = by_index (is_present e.extra.marked_insert_index) (has_operations (paid (marked_count e) b))
    where
      by_index : (t u : Bool) → IsInside (cond t (cond u (current_part glyphs e (with_mark e r b.cursor) (at_mark glyphs e r (paid (marked_count e) b))) (record { registers = r; buffer = paid (marked_count e) b }))
          (current_part glyphs e (with_mark e r b.cursor) b)).buffer
      by_index true true = inside_current e (with_mark e r b.cursor) (at_mark glyphs e r (paid (marked_count e) b)) (inside_mark e r (paid (marked_count e) b) below)
      by_index true false = below
      by_index false u = inside_current e (with_mark e r b.cursor) b below

  module _ (gs : List hb_glyph_info_t) where
    more_behind : (b : Buffer) → b.cursor < length b.line → 0 < length (b.line ++ gs)
    more_behind b below = let long = length-append b.line gs in omega (arith, below, long)

    mark_in_front : (e : Entry) (r : Registers) (b : Buffer) → b.cursor < length b.line → r.mark < length b.line → at_mark glyphs e r (followed_by gs b) ≡ followed_by gs (at_mark glyphs e r b)
    unfolding at_mark
    mark_in_front e r b below marked =
        ap (λ new. unsafe_from r.mark (with_marked_run e r.mark new (followed_by gs b))) (same_run (followed_by gs b) b e.extra.marked_insert_index (marked_count e) (more_behind b below) (omega (arith, below)))
        ∙ (ap (λ (line : List hb_glyph_info_t). unsafe_from r.mark (record (with_marked_run e r.mark (marked_run e b) b) { line = line })) (inserted_in_front (marked_run e b) r.mark (not (has_flag e 0x0400)) b.line gs marked)
        ∙ unsafe_from_in_front gs r.mark (with_marked_run e r.mark (marked_run e b) b) (inside_marked e r.mark (marked_run e b) b below))

    current_in_front : (e : Entry) (b : Buffer) → b.cursor < length b.line → at_cursor glyphs e (followed_by gs b) ≡ followed_by gs (at_cursor glyphs e b)
    unfolding at_cursor
    current_in_front e b below = by_debt (has_overspent (paid (current_count e) b))
      where
        d : Buffer
        d = paid (current_count e) b

        put : with_current_run e (current_run e (followed_by gs (paid (current_count e) b))) (followed_by gs (paid (current_count e) b)) ≡ followed_by gs (with_current_run e (current_run e (paid (current_count e) b)) (paid (current_count e) b))
        put =
            ap (λ new. with_current_run e new (followed_by gs (paid (current_count e) b))) (same_run (followed_by gs (paid (current_count e) b)) (paid (current_count e) b) e.extra.current_insert_index (current_count e) (more_behind b below) (omega (arith, below)))
            ∙ ap (λ (line : List hb_glyph_info_t). record (with_current_run e (current_run e (paid (current_count e) b)) (paid (current_count e) b)) { line = line }) (inserted_in_front (current_run e (paid (current_count e) b)) b.cursor (not (has_flag e 0x0800)) b.line gs below)

        by_debt : (t : Bool) → cond t (followed_by gs (paid (current_count e) b)) (with_current_run e (current_run e (followed_by gs (paid (current_count e) b))) (followed_by gs (paid (current_count e) b)))
            ≡ followed_by gs (cond t (paid (current_count e) b) (with_current_run e (current_run e (paid (current_count e) b)) (paid (current_count e) b)))
        by_debt true = refl
        by_debt false = put

    part_in_front : (e : Entry) (s : Registers) (b : Buffer) → b.cursor < length b.line → current_part glyphs e s (followed_by gs b) ≡ left_before gs (current_part glyphs e s b)
    part_in_front e s b below = by_index (is_present e.extra.current_insert_index)
      where
        by_index : (t : Bool) → ◌≡◌ {A = Moved Registers} (record { registers = s; buffer = cond t (at_cursor glyphs e (followed_by gs b)) (followed_by gs b) }) (record { registers = s; buffer = followed_by gs (cond t (at_cursor glyphs e b) b) })
        by_index true = ap (λ (d : Buffer). record { registers = s; buffer = d }) (current_in_front e b below)
        by_index false = refl

    -- an act at a glyph, the same with more glyphs behind the line
    pub act_in_front : (e : Entry) (r : Registers) (b : Buffer) → b.cursor < length b.line → r.mark < length b.line → act glyphs e r (followed_by gs b) ≡ left_before gs (act glyphs e r b)
    unfolding act
    act_in_front e r b below marked = by_index (is_present e.extra.marked_insert_index) (has_operations (paid (marked_count e) b))
      where
        s : Registers
        s = with_mark e r b.cursor

        by_index : (t u : Bool) → cond t (cond u (current_part glyphs e (with_mark e r b.cursor) (at_mark glyphs e r (followed_by gs (paid (marked_count e) b)))) (record { registers = r; buffer = followed_by gs (paid (marked_count e) b) }))
            (current_part glyphs e (with_mark e r b.cursor) (followed_by gs b))
            ≡ left_before gs (cond t (cond u (current_part glyphs e (with_mark e r b.cursor) (at_mark glyphs e r (paid (marked_count e) b))) (record { registers = r; buffer = paid (marked_count e) b }))
            (current_part glyphs e (with_mark e r b.cursor) b))
        by_index true true =
            ap (current_part glyphs e (with_mark e r b.cursor)) (mark_in_front e r (paid (marked_count e) b) below marked)
            ∙ part_in_front e (with_mark e r b.cursor) (at_mark glyphs e r (paid (marked_count e) b)) (inside_mark e r (paid (marked_count e) b) below)
        by_index true false = refl
        by_index false u = part_in_front e (with_mark e r b.cursor) b below

    -- glyphs before the line
    mark_in_back : (e : Entry) (r s : Registers) (z : ℤ) (b : Buffer) → r.mark ≡ length gs + s.mark → 0 < length b.line → at_mark glyphs e r (moved_on gs z b) ≡ moved_on gs z (at_mark glyphs e s b)
    unfolding at_mark
    mark_in_back e r s z b moved some =
        let long = length-append gs b.line in
        let next : length gs + b.cursor + length (marked_run e b) ≡ length gs + (b.cursor + length (marked_run e b)) = omega arith in
        ap (λ (t : Registers). unsafe_from t.mark (with_marked_run e t.mark (marked_run e (moved_on gs z b)) (moved_on gs z b))) (ap (λ (n : ℕ). record { mark = n }) moved)
        ∙ (ap (λ new. unsafe_from (length gs + s.mark) (with_marked_run e (length gs + s.mark) new (moved_on gs z b))) (same_run (moved_on gs z b) b e.extra.marked_insert_index (marked_count e) (omega (arith, long, some)) some)
        ∙ (ap (λ (line : List hb_glyph_info_t). unsafe_from (length gs + s.mark) (record (with_marked_run e (length gs + s.mark) (marked_run e b) (moved_on gs z b)) { line = line })) (inserted_in_back (marked_run e b) s.mark (not (has_flag e 0x0400)) b.line gs some)
        ∙ (ap (λ (p : ℕ). unsafe_from (length gs + s.mark) (record (moved_on gs z (with_marked_run e s.mark (marked_run e b) b)) { cursor = p })) next
        ∙ unsafe_from_in_back gs z s.mark (with_marked_run e s.mark (marked_run e b) b))))

    put_on_both : (e : Entry) (z : ℤ) (b : Buffer) → 0 < length b.line → with_current_run e (current_run e (moved_on gs z b)) (moved_on gs z b) ≡ moved_on gs z (with_current_run e (current_run e b) b)
    put_on_both e z b some =
        let long = length-append gs b.line in
        let by : ℕ = cond (goes_on e) (length (current_run e b)) 0 in
        let next : length gs + b.cursor + by ≡ length gs + (b.cursor + by) = omega arith in
        ap (λ new. with_current_run e new (moved_on gs z b)) (same_run (moved_on gs z b) b e.extra.current_insert_index (current_count e) (omega (arith, long, some)) some)
        ∙ (ap (λ (line : List hb_glyph_info_t). record (with_current_run e (current_run e b) (moved_on gs z b)) { line = line }) (inserted_in_back (current_run e b) b.cursor (not (has_flag e 0x0800)) b.line gs some)
        ∙ ap (λ (p : ℕ). record (moved_on gs z (with_current_run e (current_run e b) b)) { cursor = p }) next)

    -- the current run goes in on both, where the whole line has some budget left behind it
    cursor_on_both : (e : Entry) (z : ℤ) (b : Buffer) → 0 < length b.line → operations_left z ≤ operations_left b.max_ops → 0 < operations_left (at_cursor glyphs e (moved_on gs z b)).max_ops
        → IsMovedOn gs (at_cursor glyphs e (moved_on gs z b)) (at_cursor glyphs e b)
    unfolding at_cursor
    cursor_on_both e z b some low enough = by_debt (int_lt (pay (current_count e) z) (pos 0)) refl enough
      where
        by_debt : (t : Bool) → int_lt (pay (current_count e) z) (pos 0) ≡ t
            → 0 < operations_left (cond t (moved_on gs (pay (current_count e) z) (paid (current_count e) b)) (with_current_run e (current_run e (moved_on gs (pay (current_count e) z) (paid (current_count e) b))) (moved_on gs (pay (current_count e) z) (paid (current_count e) b)))).max_ops
            → IsMovedOn gs (cond t (moved_on gs (pay (current_count e) z) (paid (current_count e) b)) (with_current_run e (current_run e (moved_on gs (pay (current_count e) z) (paid (current_count e) b))) (moved_on gs (pay (current_count e) z) (paid (current_count e) b))))
            (cond (has_overspent (paid (current_count e) b)) (paid (current_count e) b) (with_current_run e (current_run e (paid (current_count e) b)) (paid (current_count e) b)))
        by_debt true is enough = let none = none_owed (pay (current_count e) z) is in absurd (omega (arith, enough, none))
        by_debt false is enough =
            let more = pays_alike (current_count e) z b.max_ops enough low in
            let clear : int_lt (pay (current_count e) b.max_ops) (pos 0) ≡ false = solvent (pay (current_count e) b.max_ops) (omega (arith, enough, more)) in
            rw clear (record { buffer = put_on_both e (pay (current_count e) z) (paid (current_count e) b) some; budget = more })

    part_on_both : (e : Entry) (r s : Registers) (z : ℤ) (b : Buffer) → 0 < length b.line → operations_left z ≤ operations_left b.max_ops → 0 < operations_left (current_part glyphs e r (moved_on gs z b)).buffer.max_ops
        → IsMovedOn gs (current_part glyphs e r (moved_on gs z b)).buffer (current_part glyphs e s b).buffer
    part_on_both e r s z b some low enough = by_index (is_present e.extra.current_insert_index) enough
      where
        by_index : (t : Bool) → 0 < operations_left (cond t (at_cursor glyphs e (moved_on gs z b)) (moved_on gs z b)).max_ops → IsMovedOn gs (cond t (at_cursor glyphs e (moved_on gs z b)) (moved_on gs z b)) (cond t (at_cursor glyphs e b) b)
        by_index true enough = cursor_on_both e z b some low enough
        by_index false enough = record { buffer = refl; budget = low }

  -- The act, by its marked index.
  pub act_when_marked : (e : Entry) (r : Registers) (b : Buffer) → is_present e.extra.marked_insert_index ≡ true → has_operations (paid (marked_count e) b) ≡ true
      → act glyphs e r b ≡ current_part glyphs e (with_mark e r b.cursor) (at_mark glyphs e r (paid (marked_count e) b))
  unfolding act
  act_when_marked e r b named has = rw (named, has) refl

  act_when_poor : (e : Entry) (r : Registers) (b : Buffer) → is_present e.extra.marked_insert_index ≡ true → has_operations (paid (marked_count e) b) ≡ false
      → act glyphs e r b ≡ record { registers = r; buffer = paid (marked_count e) b }
  unfolding act
  act_when_poor e r b named none = rw (named, none) refl

  pub act_unmarked : (e : Entry) (r : Registers) (b : Buffer) → is_present e.extra.marked_insert_index ≡ false → act glyphs e r b ≡ current_part glyphs e (with_mark e r b.cursor) b
  unfolding act
  act_unmarked e r b unnamed = rw unnamed refl

  -- where some of the budget is left, the marked run was paid for
  pub was_paid : (e : Entry) (r : Registers) (b : Buffer) → is_present e.extra.marked_insert_index ≡ true → 0 < operations_left (act glyphs e r b).buffer.max_ops → has_operations (paid (marked_count e) b) ≡ true
  was_paid e r b named enough = by_budget (has_operations (paid (marked_count e) b)) refl
    where
      by_budget : (t : Bool) → has_operations (paid (marked_count e) b) ≡ t → t ≡ true
      by_budget true is = refl
      by_budget false is =
          let poor = rw (act_when_poor e r b named is) at enough in
          let none = none_left (pay (marked_count e) b.max_ops) is in
          absurd (omega (arith, poor, none))

  -- the registers that an act leaves, where some of the budget is left
  pub registers_of : (e : Entry) (r : Registers) (b : Buffer) → 0 < operations_left (act glyphs e r b).buffer.max_ops → (act glyphs e r b).registers ≡ with_mark e r b.cursor
  registers_of e r b enough = by_index (is_present e.extra.marked_insert_index) refl
    where
      by_index : (t : Bool) → is_present e.extra.marked_insert_index ≡ t → (act glyphs e r b).registers ≡ with_mark e r b.cursor
      by_index true is = ap (λ (x : Moved Registers). x.registers) (act_when_marked e r b is (was_paid e r b is enough))
      by_index false is = ap (λ (x : Moved Registers). x.registers) (act_unmarked e r b is)

  long_mark : (e : Entry) (r : Registers) (b : Buffer) → 0 < length b.line → 0 < length (at_mark glyphs e r b).line
  unfolding at_mark
  long_mark e r b some =
      let d : Buffer = with_marked_run e r.mark (marked_run e b) b in
      let same = length_unsafe d (Some r.mark) (Some (min (d.cursor + 1) (length d.line))) in
      let long = length_inserted (marked_run e b) r.mark (not (has_flag e 0x0400)) b.line in
      omega (arith, same, long, some)

  budget_of_mark : (e : Entry) (r : Registers) (b : Buffer) → operations_left b.max_ops ≤ operations_left (at_mark glyphs e r b).max_ops
  unfolding at_mark
  budget_of_mark e r b = omega arith

  -- an entry that names no run leaves the buffer
  pub idle_act : (e : Entry) (r : Registers) (b : Buffer) → is_present e.extra.marked_insert_index ≡ false → is_present e.extra.current_insert_index ≡ false → act glyphs e r b ≡ record { registers = with_mark e r b.cursor; buffer = b }
  idle_act e r b unmarked none = act_unmarked e r b unmarked ∙ rw none refl

  -- an act on both lines, where the marked place has moved on if it is asked for
  pub act_on_both : (gs : List hb_glyph_info_t) (e : Entry) (r s : Registers) (z : ℤ) (b : Buffer) → 0 < length b.line → operations_left z ≤ operations_left b.max_ops
      → 0 < operations_left (act glyphs e r (moved_on gs z b)).buffer.max_ops → (is_present e.extra.marked_insert_index ≡ true → r.mark ≡ length gs + s.mark)
      → IsMovedOn gs (act glyphs e r (moved_on gs z b)).buffer (act glyphs e s b).buffer
  act_on_both gs e r s z b some low enough moved = by_index (is_present e.extra.marked_insert_index) refl
    where
      by_index : (t : Bool) → is_present e.extra.marked_insert_index ≡ t → IsMovedOn gs (act glyphs e r (moved_on gs z b)).buffer (act glyphs e s b).buffer
      by_index true is =
          let has : int_lt (pos 0) (pay (marked_count e) z) ≡ true = was_paid e r (moved_on gs z b) is enough in
          let left = some_left (pay (marked_count e) z) has in
          let more = pays_alike (marked_count e) z b.max_ops left low in
          let has_part : has_operations (paid (marked_count e) b) ≡ true = has_some (pay (marked_count e) b.max_ops) (omega (arith, left, more)) in
          let d : Buffer = at_mark glyphs e s (paid (marked_count e) b) in
          let marked : at_mark glyphs e r (moved_on gs (pay (marked_count e) z) (paid (marked_count e) b)) ≡ moved_on gs (pay (marked_count e) z) d = mark_in_back gs e r s (pay (marked_count e) z) (paid (marked_count e) b) (moved is) some in
          let whole = act_when_marked e r (moved_on gs z b) is has ∙ ap (current_part glyphs e (with_mark e r (length gs + b.cursor))) marked in
          let part = act_when_marked e s b is has_part in
          let better = rw whole at enough in
          rw (whole, part) (part_on_both gs e (with_mark e r (length gs + b.cursor)) (with_mark e s b.cursor) (pay (marked_count e) z) d (long_mark e s (paid (marked_count e) b) some) (omega (arith, more, budget_of_mark e s (paid (marked_count e) b))) better)
      by_index false is =
          let better = rw (act_unmarked e r (moved_on gs z b) is) at enough in
          rw (act_unmarked e r (moved_on gs z b) is, act_unmarked e s b is) (part_on_both gs e (with_mark e r (length gs + b.cursor)) (with_mark e s b.cursor) z b some low better)
