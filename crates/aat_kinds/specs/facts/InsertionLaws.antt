-- The laws of the insertion act.
use Rattle.std.proofs.Common.{◌≡◌, ℕ, ◌+◌, ◌-◌, ◌≤◌, ◌&&◌, not, Bool, true, false, cond, min, ℤ, pos, negsuc, ◌-ℤ◌, List, [], ◌++◌, length, take, drop, map, Option, Some, None, refl, ap, ◌∙◌, arith, nat_le, nat_lt, length-append, length-take, length-drop}
use Rattle.std.specs.Prelude.{int_lt, slice_range, All}
use Rattle.std.specs.Int.{int_max}
use Rattle.std.proofs.lemmas.Bool.Decides.{nat_tests}
use Rattle.std.proofs.lemmas.Int.{ints}
use Rattle.std.proofs.lemmas.List.{length-map}
use Rattle.std.proofs.lemmas.List.Elements.{All-append, All-take, All-drop, All-map}
use Rattle.aat_buffer.specs.Buffer.{Buffer, Is16Bit}
use Rattle.aat_buffer.specs.Clusters.{IsSmall}
use Rattle.aat_buffer.specs.facts.Ids.{small_of_unsafe}
use Rattle.aat_buffer.specs.Marks.{unsafe_to_break}
use Rattle.aat_glyph.specs.declared.glyph.hb_glyph_info_t.{hb_glyph_info_t}
use Rattle.aat_lookup.specs.declared.glyph_id.GlyphId.{GlyphId}
use Rattle.aat_machine_tables.specs.Entries.{has_flag, goes_on, is_present}
use Rattle.aat_run.specs.Budget.{paid, operations_left, potential, has_operations, has_overspent, extent}
use Rattle.aat_run.specs.Context.{Moved}
use Rattle.aat_kinds.specs.Insertion.{Entry, Registers, IsFit, fresh, inserted, run_for, put_in, at_mark, at_cursor, current_part, act, with_mark, marked_count, current_count}
use Rattle.aat_buffer.specs.Buffer.{model_at}
use Rattle.aat_run.specs.Laws.{KeepsFit, PassesFit, FitsFresh, Pays, Bounded, Lengthens, MakesNoPositions, KeepsSettings, SameSettings}
use Rattle.aat_buffer.specs.facts.Cases.{chosen}
use Rattle.aat_buffer.specs.facts.Lines.{length_slice, length_unsafe}

-- what a payment takes, where it leaves no debt
spent : (n : ℕ) (z : ℤ) → int_lt (int_max (z -ℤ pos n) (negsuc 2147483647)) (pos 0) ≡ false → operations_left (int_max (z -ℤ pos n) (negsuc 2147483647)) + n ≡ operations_left z
spent n z h = grind (arith, ints, h)

spent_with_operations : (n : ℕ) (z : ℤ) → int_lt (pos 0) (int_max (z -ℤ pos n) (negsuc 2147483647)) ≡ true → operations_left (int_max (z -ℤ pos n) (negsuc 2147483647)) + n ≡ operations_left z
spent_with_operations n z h = grind (arith, ints, h)

spent_less : (n : ℕ) (z : ℤ) → operations_left (int_max (z -ℤ pos n) (negsuc 2147483647)) ≤ operations_left z
spent_less n z = grind (arith, ints)

-- neither potential nor length and budget grow; the cursor and the length never fall
record Grows (old new : Buffer) : Type 0 where
  cursor : old.cursor ≤ new.cursor
  length : length old.line ≤ length new.line
  potential : potential new ≤ potential old
  extent : extent new ≤ extent old

grows_refl : (b : Buffer) → Grows b b
grows_refl b = record { cursor = omega arith; length = omega arith; potential = omega arith; extent = omega arith }

grows_trans : (a b c : Buffer) → Grows a b → Grows b c → Grows a c
grows_trans a b c f g = record {
  cursor = omega (arith, f.cursor, g.cursor);
  length = omega (arith, f.length, g.length);
  potential = omega (arith, f.potential, g.potential);
  extent = omega (arith, f.extent, g.extent);
}

length_at : {X : Type 0} (a : ℕ) (xs new : List X) → length (take a xs ++ (new ++ drop a xs)) ≡ length xs + length new
length_at a xs new = rw (length-append (take a xs) (new ++ drop a xs), length-append new (drop a xs), length-take a xs, length-drop a xs) (omega arith)

pub length_inserted : (new : List GlyphId) (i : ℕ) (behind : Bool) (line : List hb_glyph_info_t) → length (inserted new i behind line) ≡ length line + length new
unfolding inserted
length_inserted new i behind line =
    let made = map (λ (g : GlyphId). record (model_at line i) { glyph_id = g.0 }) new in
    let long : length made ≡ length new = length-map new _ in
    length_at (cond (behind && nat_lt i (length line)) (i + 1) i) line made ∙ ap (λ n. length line + n) long

pub fits_fresh : FitsFresh IsFit fresh
fits_fresh n = omega arith

pub passes_fit : PassesFit IsFit
passes_fit r p n fit below = fit

module _ (glyphs : List GlyphId) where
  length_run : (b : Buffer) (index count : ℕ) → length (run_for glyphs b index count) ≤ count
  length_run b index count =
      chosen (λ (xs : List GlyphId). length xs ≤ count) (nat_lt 0 (length b.line) && nat_le (index + count) (length glyphs)) (slice_range glyphs index (index + count)) []
      (λ yes. let room : index + count ≤ length glyphs = grind (arith, nat_tests, yes) in omega (arith, length_slice index (index + count) glyphs (omega arith) room)) (λ _. omega arith)

  pay_grows : (n : ℕ) (b : Buffer) → Grows b (paid n b)
  pay_grows n b = record { cursor = omega arith; length = omega arith; potential = omega (arith, spent_less n b.max_ops); extent = omega (arith, spent_less n b.max_ops) }

  mark_grows : (e : Entry) (r : Registers) (b : Buffer) → has_operations (paid (marked_count e) b) ≡ true → Grows b (at_mark glyphs e r (paid (marked_count e) b))
  unfolding at_mark
  mark_grows e r b has_one =
      let d = paid (marked_count e) b in
      let new = run_for glyphs d e.extra.marked_insert_index (marked_count e) in
      let put = put_in new r.mark (not (has_flag e 0x0400)) (d.cursor + length new) d in
      let long : length put.line ≡ length b.line + length new = length_inserted new r.mark (not (has_flag e 0x0400)) b.line in
      let same : length (unsafe_to_break put (Some r.mark) (Some (min (put.cursor + 1) (length put.line)))).line ≡ length put.line = length_unsafe put (Some r.mark) (Some (min (put.cursor + 1) (length put.line))) in
      let few = length_run d e.extra.marked_insert_index (marked_count e) in
      let exact = spent_with_operations (marked_count e) b.max_ops has_one in
      record { cursor = omega arith; length = omega (arith, long, same); potential = omega (arith, long, same, few, exact); extent = omega (arith, long, same, few, exact) }

  cursor_grows : (e : Entry) (b : Buffer) → Grows b (at_cursor glyphs e b)
  unfolding at_cursor
  cursor_grows e b =
      let d = paid (current_count e) b in
      let new = run_for glyphs d e.extra.current_insert_index (current_count e) in
      let by = cond (goes_on e) (length new) 0 in
      let put = put_in new d.cursor (not (has_flag e 0x0800)) (d.cursor + by) d in
      let long : length put.line ≡ length b.line + length new = length_inserted new d.cursor (not (has_flag e 0x0800)) b.line in
      let few = length_run d e.extra.current_insert_index (current_count e) in
      chosen (Grows b) (has_overspent d) d put (λ _. pay_grows (current_count e) b) (λ solvent.
      let exact = spent (current_count e) b.max_ops solvent in
      record { cursor = omega arith; length = omega (arith, long); potential = omega (arith, long, few, exact); extent = omega (arith, long, few, exact) })

  current_grows : (e : Entry) (r : Registers) (b : Buffer) → Grows b (current_part glyphs e r b).buffer
  current_grows e r b = chosen (Grows b) (is_present e.extra.current_insert_index) (at_cursor glyphs e b) b (λ _. cursor_grows e b) (λ _. grows_refl b)

  grows : (e : Entry) (r : Registers) (b : Buffer) → Grows b (act glyphs e r b).buffer
  unfolding act
  grows e r b =
      let d = paid (marked_count e) b in
      let s = with_mark e r b.cursor in
      chosen (λ (n : Moved Registers). Grows b n.buffer) (is_present e.extra.marked_insert_index) (cond (has_operations d) (current_part glyphs e s (at_mark glyphs e r d)) (record { registers = r; buffer = d })) (current_part glyphs e s b)
      (λ _. chosen (λ (n : Moved Registers). Grows b n.buffer) (has_operations d) (current_part glyphs e s (at_mark glyphs e r d)) (record { registers = r; buffer = d })
      (λ has_one. grows_trans b (at_mark glyphs e r d) _ (mark_grows e r b has_one) (current_grows e s (at_mark glyphs e r d))) (λ _. pay_grows (marked_count e) b))
      (λ _. current_grows e s b)

  -- behind the marked run no act makes the line shorter
  pub marked_within : (e : Entry) (r : Registers) (b : Buffer) → is_present e.extra.marked_insert_index ≡ true → has_operations (paid (marked_count e) b) ≡ true
      → length (at_mark glyphs e r (paid (marked_count e) b)).line ≤ length (act glyphs e r b).buffer.line
  unfolding act
  marked_within e r b named has_one =
      let d = paid (marked_count e) b in
      let s = with_mark e r b.cursor in
      let marked = at_mark glyphs e r d in
      chosen (λ (n : Moved Registers). length marked.line ≤ length n.buffer.line) (is_present e.extra.marked_insert_index) (cond (has_operations d) (current_part glyphs e s marked) (record { registers = r; buffer = d })) (current_part glyphs e s b)
      (λ _. chosen (λ (n : Moved Registers). length marked.line ≤ length n.buffer.line) (has_operations d) (current_part glyphs e s marked) (record { registers = r; buffer = d })
      (λ _. (current_grows e s marked).length) (λ has_none. absurd (grind (arith, has_one, has_none)))) (λ none. absurd (grind (arith, named, none)))

  pub pays : Pays (act glyphs) IsFit
  pays e r b fit = (grows e r b).potential

  pub bounded : Bounded (act glyphs) IsFit
  bounded e r b fit = (grows e r b).extent

  pub lengthens : Lengthens (act glyphs) IsFit
  lengthens e r b fit = (grows e r b).length

  -- the mark stays, or is the cursor from before
  mark_of_regs : (P : ℕ → Type 0) (e : Entry) (r : Registers) (b : Buffer) → P r.mark → P b.cursor → P (act glyphs e r b).registers.mark
  unfolding act
  mark_of_regs P e r b stay set =
      let d = paid (marked_count e) b in
      let s = with_mark e r b.cursor in
      let marked : P s.mark = chosen (λ (x : Registers). P x.mark) (has_flag e 0x8000) (record { mark = b.cursor }) r (λ _. set) (λ _. stay) in
      chosen (λ (n : Moved Registers). P n.registers.mark) (is_present e.extra.marked_insert_index) (cond (has_operations d) (current_part glyphs e s (at_mark glyphs e r d)) (record { registers = r; buffer = d })) (current_part glyphs e s b)
      (λ _. chosen (λ (n : Moved Registers). P n.registers.mark) (has_operations d) (current_part glyphs e s (at_mark glyphs e r d)) (record { registers = r; buffer = d }) (λ _. marked) (λ _. stay))
      (λ _. marked)

  pub keeps_fit : KeepsFit (act glyphs) IsFit
  keeps_fit e r b fit below =
      let g = grows e r b in
      mark_of_regs (λ m. m ≤ length (act glyphs e r b).buffer.line) e r b (omega (arith, fit, g.length)) (omega (arith, below, g.cursor))

  module _ (P : Buffer → Type 0)
      (on_pay : (n : ℕ) (d : Buffer) → P d → P (paid n d))
      (on_unsafe : (d : Buffer) (i j : Option ℕ) → P d → P (unsafe_to_break d i j))
      (on_put : (index count i : ℕ) (behind : Bool) (by : ℕ) (d : Buffer) → P d → P (put_in (run_for glyphs d index count) i behind (d.cursor + by) d))
    where
      of_current : (e : Entry) (r : Registers) (b : Buffer) → P b → P (current_part glyphs e r b).buffer
      unfolding at_cursor
      of_current e r b p =
          let d = paid (current_count e) b in
          let new = run_for glyphs d e.extra.current_insert_index (current_count e) in
          let put = put_in new d.cursor (not (has_flag e 0x0800)) (d.cursor + cond (goes_on e) (length new) 0) d in
          chosen P (is_present e.extra.current_insert_index) (at_cursor glyphs e b) b
          (λ _. chosen P (has_overspent d) d put (λ _. on_pay (current_count e) b p) (λ _. on_put e.extra.current_insert_index (current_count e) d.cursor (not (has_flag e 0x0800)) (cond (goes_on e) (length new) 0) d (on_pay (current_count e) b p)))
          (λ _. p)

      -- what paying, marking and putting in keep, an act keeps
      pub of_act : (e : Entry) (r : Registers) (b : Buffer) → P b → P (act glyphs e r b).buffer
      unfolding act at_mark
      of_act e r b p =
          let d = paid (marked_count e) b in
          let s = with_mark e r b.cursor in
          let new = run_for glyphs d e.extra.marked_insert_index (marked_count e) in
          let put = put_in new r.mark (not (has_flag e 0x0400)) (d.cursor + length new) d in
          let marked : P (at_mark glyphs e r d) = on_unsafe put (Some r.mark) (Some (min (put.cursor + 1) (length put.line))) (on_put e.extra.marked_insert_index (marked_count e) r.mark (not (has_flag e 0x0400)) (length new) d (on_pay (marked_count e) b p)) in
          chosen (λ (n : Moved Registers). P n.buffer) (is_present e.extra.marked_insert_index) (cond (has_operations d) (current_part glyphs e s (at_mark glyphs e r d)) (record { registers = r; buffer = d })) (current_part glyphs e s b)
          (λ _. chosen (λ (n : Moved Registers). P n.buffer) (has_operations d) (current_part glyphs e s (at_mark glyphs e r d)) (record { registers = r; buffer = d })
          (λ _. of_current e s (at_mark glyphs e r d) marked) (λ _. on_pay (marked_count e) b p))
          (λ _. of_current e s b p)

  -- where each glyph of the list has 16 bits, an act leaves glyph ids of 16 bits
  small_run : All (λ (g : GlyphId). g.0 ≤ 65535) glyphs → (b : Buffer) (index count : ℕ) → All (λ (g : GlyphId). g.0 ≤ 65535) (run_for glyphs b index count)
  small_run small b index count =
      chosen (λ (new : List GlyphId). All (λ (g : GlyphId). g.0 ≤ 65535) new) (nat_lt 0 (length b.line) && nat_le (index + count) (length glyphs)) (slice_range glyphs index (index + count)) []
      (λ _. All-take (λ (g : GlyphId). g.0 ≤ 65535) (index + count - index) (drop index glyphs) (All-drop (λ (g : GlyphId). g.0 ≤ 65535) index glyphs small)) (λ _. λ k d low. absurd (omega (arith, low)))

  small_inserted : (new : List GlyphId) (i : ℕ) (behind : Bool) (b : Buffer) → All (λ (g : GlyphId). g.0 ≤ 65535) new → IsSmall b → All Is16Bit (inserted new i behind b.line)
  unfolding inserted
  small_inserted new i behind b small ids =
      let a = cond (behind && nat_lt i (length b.line)) (i + 1) i in
      let f = λ (g : GlyphId). record (model_at b.line i) { glyph_id = g.0 } in
      All-append Is16Bit (take a b.line) (map f new ++ drop a b.line) (All-take Is16Bit a b.line ids)
      (All-append Is16Bit (map f new) (drop a b.line) (All-map Is16Bit f new small) (All-drop Is16Bit a b.line ids))

  pub keeps_small : All (λ (g : GlyphId). g.0 ≤ 65535) glyphs → (e : Entry) (r : Registers) (b : Buffer) → IsFit r b.cursor (length b.line) → IsSmall b → IsSmall (act glyphs e r b).buffer
  keeps_small small e r b fit ids =
      of_act IsSmall (λ n d k. k) (λ d i j k. small_of_unsafe d i j k) (λ index count i behind by d k. small_inserted (run_for glyphs d index count) i behind d (small_run small d index count) k) e r b ids

  pub makes_no_positions : MakesNoPositions (act glyphs) IsFit
  makes_no_positions e r b fit none = of_act (λ d. d.positions ≡ None) (λ n d k. k) (λ d i j k. k) (λ index count i behind by d k. refl) e r b none

  pub keeps_settings : KeepsSettings (act glyphs) IsFit
  keeps_settings e r b fit =
      of_act (SameSettings b)
      (λ n d k. record { direction = k.direction; cluster_level = k.cluster_level; flags = k.flags; scratch_flags = k.scratch_flags; max_len = k.max_len; successful = k.successful })
      (λ d i j k. record { direction = k.direction; cluster_level = k.cluster_level; flags = k.flags; scratch_flags = k.scratch_flags; max_len = k.max_len; successful = k.successful })
      (λ index count i behind by d k. record { direction = k.direction; cluster_level = k.cluster_level; flags = k.flags; scratch_flags = k.scratch_flags; max_len = k.max_len; successful = k.successful })
      e r b (record { direction = refl; cluster_level = refl; flags = refl; scratch_flags = refl; max_len = refl; successful = refl })
