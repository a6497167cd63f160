-- The insertion act on a line and on a barer one, the second time without the runs that have no glyphs.
use Rattle.std.proofs.Common.{◌≡◌, ◌∙◌, ℕ, ℤ, ◌+◌, ◌-◌, ◌/◌, ◌<◌, ◌==◌, ◌&&◌, not, Bool, true, false, cond, List, [], length, min, nat_le, nat_lt, take, drop, bit_and, Some, None, refl, ap, subst, sym, arith}
use Rattle.std.proofs.lemmas.Bool.Decides.{nat_tests}
use Rattle.std.proofs.lemmas.Int.{ints}
use Rattle.std.proofs.lemmas.Nat.{and_assoc}
use Rattle.std.specs.Prelude.{slice_range}
use Rattle.aat_buffer.specs.Buffer.{Buffer, with_line}
use Rattle.aat_buffer.specs.Marks.{unsafe_to_break}
use Rattle.aat_machine_tables.specs.Entries.{goes_on, has_flag, is_present}
use Rattle.aat_lookup.specs.declared.glyph_id.GlyphId.{GlyphId}
use Rattle.aat_glyph.specs.declared.glyph.hb_glyph_info_t.{hb_glyph_info_t}
use Rattle.aat_run.specs.Budget.{has_operations, has_overspent, operations_left, paid}
use Rattle.aat_run.specs.Context.{Moved}
use Rattle.aat_kinds.specs.Insertion.{Entry, Registers, act, at_cursor, at_mark, current_count, current_part, marked_count, put_in, run_for, with_mark}
use Rattle.aat_cut_kinds.specs.facts.FewerMarks.{AreBarer, barer_inserted, barer_long, barer_then, barer_unmarked, barer_unsafe, none_inserted}
use Rattle.aat_cut_kinds.specs.facts.InsertionActs.{act_unmarked, act_when_marked, current_run, has_some, idle_act, marked_run, pay, solvent, unsafe_from, with_current_run, with_marked_run}
use Rattle.aat_cut_kinds.specs.facts.PlainTables.{plain_entry, plain_names_none, plain_stays}

-- a buffer without positions, and the same with a barer line
pub record IsBarerBuffer (b d : Buffer) : Type 0 where
  pub line : AreBarer b.line d.line
  pub rest : d ≡ with_line b d.line
  pub none : b.positions ≡ None

-- what two acts leave: the same registers, and such buffers
pub record LeftBarer (x y : Moved Registers) : Type 0 where
  pub registers : y.registers ≡ x.registers
  pub buffer : IsBarerBuffer x.buffer y.buffer

-- No payment, and no counts.
pay_none : (z : ℤ) → 0 < operations_left z → pay 0 z ≡ z
pay_none z some = grind (arith, ints, some)

paid_none : (n : ℕ) (b : Buffer) → n ≡ 0 → 0 < operations_left b.max_ops → paid n b ≡ b
paid_none n b zero some = ap (λ (k : ℕ). paid k b) zero ∙ ap (λ (z : ℤ). record b { max_ops = z }) (pay_none b.max_ops some)

all_none : (n : ℕ) → not (bit_and n 0x03FF == 0) ≡ false → bit_and n 0x03FF ≡ 0
all_none n none = grind (arith, nat_tests, none)

none_marked : (e : Entry) → has_flag e 0x03FF ≡ false → marked_count e ≡ 0
none_marked e none = sym (and_assoc 0x001F e.flags 0x03FF) ∙ ap (λ (k : ℕ). bit_and k 0x001F) (all_none e.flags none)

none_current : (e : Entry) → has_flag e 0x03FF ≡ false → current_count e ≡ 0
none_current e none = ap (λ (k : ℕ). k / 32) (sym (and_assoc 0x03E0 e.flags 0x03FF) ∙ ap (λ (k : ℕ). bit_and k 0x03E0) (all_none e.flags none))

-- no glyphs that go in at the cursor leave the buffer
put_none : (i : ℕ) (behind : Bool) (p : ℕ) (b : Buffer) → p ≡ b.cursor → b.positions ≡ None → put_in [] i behind p b ≡ b
put_none i behind p b place none = λ j. record b { line = none_inserted i behind b.line j; cursor = place j; positions = sym none j }

module _ (glyphs : List GlyphId) where
  -- the run of glyphs is the same for both lines
  run_same : (b : Buffer) (hs : List hb_glyph_info_t) (index count : ℕ) → AreBarer b.line hs → run_for glyphs b index count ≡ run_for glyphs (with_line b hs) index count
  run_same b hs index count k = ap (λ (n : ℕ). cond (nat_lt 0 n && nat_le (index + count) (length glyphs)) (slice_range glyphs index (index + count)) []) (barer_long b.line hs k)

  -- and empty where the count is 0
  empty_run : (b : Buffer) (index count : ℕ) → count ≡ 0 → run_for glyphs b index count ≡ []
  empty_run b index count zero = by_room (nat_lt 0 (length b.line) && nat_le (index + count) (length glyphs))
    where
      by_room : (t : Bool) → cond t (slice_range glyphs index (index + count)) [] ≡ []
      by_room true = let few : index + count - index ≡ 0 = omega (arith, zero) in ap (λ (n : ℕ). take n (drop index glyphs)) few
      by_room false = refl

  -- Both acts by one entry.
  unsafe_both : (i : ℕ) (b : Buffer) (hs : List hb_glyph_info_t) → b.positions ≡ None → AreBarer b.line hs → IsBarerBuffer (unsafe_from i b) (unsafe_from i (with_line b hs))
  unsafe_both i b hs none k = record {
    line =
        subst (λ (n : ℕ). AreBarer (unsafe_from i b).line (unsafe_to_break (with_line b hs) (Some i) (Some (min (b.cursor + 1) n))).line) (barer_long b.line hs k)
        (barer_unsafe b hs (Some i) (Some (min (b.cursor + 1) (length b.line))) k);
    rest = refl;
    none = none;
  }

  mark_both : (e : Entry) (r : Registers) (b : Buffer) (hs : List hb_glyph_info_t) → AreBarer b.line hs → IsBarerBuffer (at_mark glyphs e r b) (at_mark glyphs e r (with_line b hs))
  unfolding at_mark
  mark_both e r b hs k =
      let new : List GlyphId = marked_run glyphs e b in
      let behind : Bool = not (has_flag e 0x0400) in
      let d : Buffer = with_marked_run glyphs e r.mark new b in
      subst (λ (run : List GlyphId). IsBarerBuffer (unsafe_from r.mark d) (unsafe_from r.mark (with_marked_run glyphs e r.mark run (with_line b hs)))) (run_same b hs e.extra.marked_insert_index (marked_count e) k)
      (unsafe_both r.mark d (with_marked_run glyphs e r.mark new (with_line b hs)).line refl (barer_inserted new r.mark behind b.line hs k))

  cursor_both : (e : Entry) (b : Buffer) (hs : List hb_glyph_info_t) → b.positions ≡ None → AreBarer b.line hs → IsBarerBuffer (at_cursor glyphs e b) (at_cursor glyphs e (with_line b hs))
  unfolding at_cursor
  cursor_both e b hs none k = by_debt (has_overspent (paid (current_count e) b))
    where
      by_debt : (t : Bool) → IsBarerBuffer (cond t (paid (current_count e) b) (with_current_run glyphs e (current_run glyphs e (paid (current_count e) b)) (paid (current_count e) b)))
          (cond t (paid (current_count e) (with_line b hs)) (with_current_run glyphs e (current_run glyphs e (paid (current_count e) (with_line b hs))) (paid (current_count e) (with_line b hs))))
      by_debt true = record { line = k; rest = refl; none = none }
      by_debt false =
          let d : Buffer = paid (current_count e) b in
          let new : List GlyphId = current_run glyphs e d in
          subst (λ (run : List GlyphId). IsBarerBuffer (with_current_run glyphs e new d) (with_current_run glyphs e run (with_line d hs))) (run_same d hs e.extra.current_insert_index (current_count e) k)
          (record { line = barer_inserted new b.cursor (not (has_flag e 0x0800)) b.line hs k; rest = refl; none = refl })

  part_both : (e : Entry) (s : Registers) (b d : Buffer) → IsBarerBuffer b d → IsBarerBuffer (current_part glyphs e s b).buffer (current_part glyphs e s d).buffer
  part_both e s b d k =
      subst (λ (x : Buffer). IsBarerBuffer (current_part glyphs e s b).buffer (current_part glyphs e s x).buffer) (sym k.rest) (by_index (is_present e.extra.current_insert_index))
    where
      by_index : (t : Bool) → IsBarerBuffer (cond t (at_cursor glyphs e b) b) (cond t (at_cursor glyphs e (with_line b d.line)) (with_line b d.line))
      by_index true = cursor_both e b d.line k.none k.line
      by_index false = record { line = k.line; rest = refl; none = k.none }

  act_both : (e : Entry) (r : Registers) (b : Buffer) (hs : List hb_glyph_info_t) → b.positions ≡ None → AreBarer b.line hs → LeftBarer (act glyphs e r b) (act glyphs e r (with_line b hs))
  unfolding act
  act_both e r b hs none k = by_index (is_present e.extra.marked_insert_index) (has_operations (paid (marked_count e) b))
    where
      by_index : (t u : Bool)
          → LeftBarer (cond t (cond u (current_part glyphs e (with_mark e r b.cursor) (at_mark glyphs e r (paid (marked_count e) b))) (record { registers = r; buffer = paid (marked_count e) b })) (current_part glyphs e (with_mark e r b.cursor) b))
          (cond t (cond u (current_part glyphs e (with_mark e r b.cursor) (at_mark glyphs e r (paid (marked_count e) (with_line b hs)))) (record { registers = r; buffer = paid (marked_count e) (with_line b hs) })) (current_part glyphs e (with_mark e r b.cursor) (with_line b hs)))
      by_index true true =
          let d : Buffer = paid (marked_count e) b in
          record { registers = refl; buffer = part_both e (with_mark e r b.cursor) (at_mark glyphs e r d) (at_mark glyphs e r (with_line d hs)) (mark_both e r d hs k) }
      by_index true false = record { registers = refl; buffer = record { line = k; rest = refl; none = none } }
      by_index false u = record { registers = refl; buffer = part_both e (with_mark e r b.cursor) b (with_line b hs) (record { line = k; rest = refl; none = none }) }

  -- An entry that puts none in marks from the marked place on, at most.
  module _ (e : Entry) (empty : has_flag e 0x03FF ≡ false) (b : Buffer) (some : 0 < operations_left b.max_ops) (none : b.positions ≡ None) where
    empty_mark : (r : Registers) → at_mark glyphs e r b ≡ unsafe_from r.mark b
    unfolding at_mark
    empty_mark r =
        ap (λ (new : List GlyphId). unsafe_from r.mark (with_marked_run glyphs e r.mark new b)) (empty_run b e.extra.marked_insert_index (marked_count e) (none_marked e empty))
        ∙ ap (λ (d : Buffer). unsafe_from r.mark d) (put_none r.mark (not (has_flag e 0x0400)) (b.cursor + 0) b (omega arith) none)

    stays : (t : Bool) → b.cursor + cond t 0 0 ≡ b.cursor
    stays true = omega arith
    stays false = omega arith

    empty_cursor : at_cursor glyphs e b ≡ b
    unfolding at_cursor
    empty_cursor =
        ap (λ (d : Buffer). cond (has_overspent d) d (with_current_run glyphs e (current_run glyphs e d) d)) (paid_none (current_count e) b (none_current e empty) some)
        ∙ (ap (λ (t : Bool). cond t b (with_current_run glyphs e (current_run glyphs e b) b)) (solvent b.max_ops some)
        ∙ (ap (λ (new : List GlyphId). with_current_run glyphs e new b) (empty_run b e.extra.current_insert_index (current_count e) (none_current e empty))
        ∙ put_none b.cursor (not (has_flag e 0x0800)) (b.cursor + cond (goes_on e) 0 0) b (stays (goes_on e)) none))

    empty_part : (s : Registers) → current_part glyphs e s b ≡ record { registers = s; buffer = b }
    empty_part s = ap (λ (d : Buffer). record { registers = s; buffer = d }) (by_index (is_present e.extra.current_insert_index))
      where
        by_index : (t : Bool) → cond t (at_cursor glyphs e b) b ≡ b
        by_index true = empty_cursor
        by_index false = refl

  -- so its act sets the mark, and marks where a marked run is named
  empty_act : (e : Entry) (r : Registers) (b : Buffer) → has_flag e 0x03FF ≡ false → 0 < operations_left b.max_ops → b.positions ≡ None
      → act glyphs e r b ≡ record { registers = with_mark e r b.cursor; buffer = cond (is_present e.extra.marked_insert_index) (unsafe_from r.mark b) b }
  empty_act e r b empty some none = by_index (is_present e.extra.marked_insert_index) refl
    where
      free : paid (marked_count e) b ≡ b
      free = paid_none (marked_count e) b (none_marked e empty) some

      by_index : (t : Bool) → is_present e.extra.marked_insert_index ≡ t → act glyphs e r b ≡ record { registers = with_mark e r b.cursor; buffer = cond t (unsafe_from r.mark b) b }
      by_index true is =
          act_when_marked glyphs e r b is (ap (λ (d : Buffer). has_operations d) free ∙ has_some b.max_ops some)
          ∙ (ap (λ (d : Buffer). current_part glyphs e (with_mark e r b.cursor) (at_mark glyphs e r d)) free
          ∙ (ap (λ (d : Buffer). current_part glyphs e (with_mark e r b.cursor) d) (empty_mark e empty b some none r)
          ∙ empty_part e empty (unsafe_from r.mark b) some none (with_mark e r b.cursor)))
      by_index false is = act_unmarked glyphs e r b is ∙ empty_part e empty b some none (with_mark e r b.cursor)

  -- the act of an entry, and that of the plain one on the barer line
  pub barer_act : (e : Entry) (r : Registers) (b : Buffer) (hs : List hb_glyph_info_t) → 0 < operations_left b.max_ops → b.positions ≡ None → AreBarer b.line hs
      → LeftBarer (act glyphs e r b) (act glyphs (plain_entry e) r (with_line b hs))
  barer_act e r b hs some none k = by_flag (has_flag e 0x03FF) refl
    where
      by_mark : (t : Bool) → LeftBarer (record { registers = with_mark e r b.cursor; buffer = cond t (unsafe_from r.mark b) b }) (record { registers = with_mark e r b.cursor; buffer = with_line b hs })
      by_mark true = record {
        registers = refl;
        buffer = record { line = barer_then (unsafe_from r.mark b).line b.line hs (barer_unmarked b (Some r.mark) (Some (min (b.cursor + 1) (length b.line)))) k; rest = refl; none = none };
      }
      by_mark false = record { registers = refl; buffer = record { line = k; rest = refl; none = none } }

      by_flag : (t : Bool) → has_flag e 0x03FF ≡ t → LeftBarer (act glyphs e r b) (act glyphs (plain_entry e) r (with_line b hs))
      by_flag true is = subst (λ (f : Entry). LeftBarer (act glyphs e r b) (act glyphs f r (with_line b hs))) (sym (plain_stays e is)) (act_both e r b hs none k)
      by_flag false is =
          let quiet = plain_names_none e is in
          subst (λ (x : Moved Registers). LeftBarer x (act glyphs (plain_entry e) r (with_line b hs))) (sym (empty_act e r b is some none))
          (subst (λ (y : Moved Registers). LeftBarer (record { registers = with_mark e r b.cursor; buffer = cond (is_present e.extra.marked_insert_index) (unsafe_from r.mark b) b }) y)
          (sym (idle_act glyphs (plain_entry e) r (with_line b hs) quiet.0 quiet.1)) (by_mark (is_present e.extra.marked_insert_index)))
