-- The insertion act. TrueType Reference Manual: The 'morx' table, glyph insertion.
use Rattle.std.specs.Prelude.{ℕ, ◌≡◌, ◌⊎◌, ◌+◌, ◌/◌, ◌&&◌, ◌||◌, ◌≤◌, not, IsTrue, Bool, false, nat_lt, nat_le, min, bit_and, List, [], ◌++◌, length, map, take, drop, slice_range, Some, None, if◌then◌else◌}
use Rattle.aat_buffer.specs.Buffer.{Buffer, model_at}
use Rattle.aat_buffer.specs.Marks.{unsafe_to_break}
use Rattle.aat_glyph.specs.declared.glyph.hb_glyph_info_t.{hb_glyph_info_t}
use Rattle.aat_lookup.specs.declared.glyph_id.GlyphId.{GlyphId}
use Rattle.aat_machine_tables.specs.declared.state_table.GenericStateEntry.{GenericStateEntry}
use Rattle.aat_machine_tables.specs.declared.entries.InsertionEntryData.{InsertionEntryData}
use Rattle.aat_machine_tables.specs.Entries.{has_flag, goes_on, is_present}
use Rattle.aat_run.specs.Budget.{paid, has_operations, has_overspent}
use Rattle.aat_run.specs.Context.{Context, Moved}

abbrev pub Entry : Type 0
Entry = GenericStateEntry InsertionEntryData

-- the marked place
pub record Registers : Type 0 where
  pub mark : ℕ

abbrev pub fresh : Registers
fresh = record { mark = 0 }

-- how many glyphs go in at the cursor, and at the mark
abbrev pub current_count : Entry → ℕ
current_count e = bit_and e.flags 0x03E0 / 32

abbrev pub marked_count : Entry → ℕ
marked_count e = bit_and e.flags 0x001F

-- an entry is actionable where it has a count and an index
abbrev pub actionable : Entry → Registers → ℕ → ℕ → Bool
actionable e r p n =
    has_flag e 0x03FF && (is_present e.extra.current_insert_index || is_present e.extra.marked_insert_index)

-- 0x8000 marks a place
abbrev pub with_mark : Entry → Registers → ℕ → Registers
with_mark e r p = if has_flag e 0x8000 then record { mark = p } else r

-- the registers fit where the mark lies within the line or at its end
abbrev pub IsFit : Registers → ℕ → ℕ → Type 0
IsFit r p n = r.mark ≤ n

-- copies of a glyph, each with an id of its own
abbrev pub copies : hb_glyph_info_t → List GlyphId → List hb_glyph_info_t
copies model glyphs = map (λ g. record model { glyph_id = g.0 }) glyphs

-- L[..a] ++ G ++ L[a..], where a is i, or i + 1 where G goes behind a glyph
unfoldable pub inserted : List GlyphId → ℕ → Bool → List hb_glyph_info_t → List hb_glyph_info_t
inserted glyphs i behind line =
    let a = if behind && nat_lt i (length line) then i + 1 else i in
    take a line ++ (copies (model_at line i) glyphs ++ drop a line)

-- a run goes in at place i, or behind the glyph there, the cursor goes to place p, and the positions are dropped
abbrev pub put_in : List GlyphId → ℕ → Bool → ℕ → Buffer → Buffer
put_in new i behind p b = record b { line = inserted new i behind b.line; cursor = p; positions = None }

module _ (glyphs : List GlyphId) where
  -- the run of so many glyphs from an index; one that leaves the list, or goes into an empty line, has none
  abbrev pub run_for : Buffer → ℕ → ℕ → List GlyphId
  run_for b index count =
      if nat_lt 0 (length b.line) && nat_le (index + count) (length glyphs)
      then slice_range glyphs index (index + count)
      else []

  -- the marked run goes in at the mark, and from there to the cursor the line is unsafe
  unfoldable pub at_mark : Entry → Registers → Buffer → Buffer
  at_mark e r b =
      let new = run_for b e.extra.marked_insert_index (marked_count e) in
      let d = put_in new r.mark (not (has_flag e 0x0400)) (b.cursor + length new) b in
      unsafe_to_break d (Some r.mark) (Some (min (d.cursor + 1) (length d.line)))

  -- the current run is paid for and, unless the budget is then below 0, goes in at the cursor, which moves past it
  -- where the entry advances
  unfoldable pub at_cursor : Entry → Buffer → Buffer
  at_cursor e b =
      let d = paid (current_count e) b in
      let new = run_for d e.extra.current_insert_index (current_count e) in
      if has_overspent d
      then d
      else put_in new d.cursor (not (has_flag e 0x0800)) (d.cursor + (if goes_on e then length new else 0)) d

  -- the current part of an act, behind the mark
  abbrev pub current_part : Entry → Registers → Buffer → Moved Registers
  current_part e r b =
      record { registers = r; buffer = if is_present e.extra.current_insert_index then at_cursor e b else b }

  -- the act of an entry: the marked run is paid for and goes in, unless that leaves no budget, which ends the act;
  -- then the cursor from before is marked, and the current run follows
  unfoldable pub act : Entry → Registers → Buffer → Moved Registers
  act e r b =
      let d = paid (marked_count e) b in
      let s = with_mark e r b.cursor in
      if is_present e.extra.marked_insert_index
      then (if has_operations d then current_part e s (at_mark e r d) else record { registers = r; buffer = d })
      else current_part e s b

  abbrev pub context : Context Registers Entry
  context = record { fresh = fresh; in_place = false; advances = goes_on; actionable = actionable; act = act }

-- what a context holds: the glyphs of its subtable, and the registers
pub record Held : Type 0 where
  pub glyphs : List GlyphId
  pub registers : Registers

abbrev pub held_actionable : Entry → Held → ℕ → ℕ → Bool
held_actionable e h p n = actionable e h.registers p n

-- the act of an entry over what a context holds
abbrev pub held_act : Entry → Held → Buffer → Moved Held
held_act e h b =
    let n = act h.glyphs e h.registers b in
    record { registers = record h { registers = n.registers }; buffer = n.buffer }

abbrev pub held_fit : Held → ℕ → ℕ → Type 0
held_fit h p n = IsFit h.registers p n

-- the first place is marked, with which a run starts
abbrev pub IsHeldFresh : Held → Type 0
IsHeldFresh h = h.registers ≡ fresh

-- the act of an entry puts its marked run in: it has an index, and leaves a budget once it is paid for
abbrev pub puts_marked : Entry → Buffer → Bool
puts_marked e b = is_present e.extra.marked_insert_index && has_operations (paid (marked_count e) b)

-- the line behind the first run that an act puts in: the one with the marked run, where that has glyphs and goes in,
-- and else the one that the act leaves
abbrev pub line_of_first_run : Entry → Held → Buffer → List hb_glyph_info_t
line_of_first_run e h b =
    let d = at_mark h.glyphs e h.registers (paid (marked_count e) b) in
    if puts_marked e b && nat_lt (length b.line) (length d.line) then d.line else (held_act e h b).buffer.line

-- the line that a refused act leaves has no part of a run: it is the one from before the act or, where the act puts the
-- marked run in and it is the current run that is refused, the one with the marked run
abbrev pub IsLineOfWholeRuns : Entry → Held → Buffer → List hb_glyph_info_t → Type 0
IsLineOfWholeRuns e h b line =
    (line ≡ b.line)
    ⊎ (IsTrue (puts_marked e b) × IsTrue (is_present e.extra.current_insert_index)
    × (line ≡ (at_mark h.glyphs e h.registers (paid (marked_count e) b)).line))
