-- Insertions that grow without end, or put the deleted glyph in. Apple's TrueType Reference Manual, "The 'morx' table",
-- glyph insertion.
use Rattle.std.specs.Prelude.{◌≡◌, ℕ, zero, suc, ◌+◌, ◌/◌, ◌==◌, ◌&&◌, ◌||◌, Bool, true, false, not, nat_le, nat_lt, bit_and, List, [], length, option_map, slice_get, slice_range, unwrap_or, if◌then◌else◌}
use Rattle.std.specs.List.{list_any}
use Rattle.aat_lookup.specs.Truth.{is_some_and}
use Rattle.aat_lookup.specs.declared.glyph_id.GlyphId.{GlyphId}
use Rattle.aat_machine_tables.specs.Entries.{goes_on, has_flag, is_present}
use Rattle.aat_machine_tables.specs.Table.{Rule, TableValue, class_of, entry_of, known_class}
use Rattle.aat_machine_tables.specs.declared.entries.InsertionEntryData.{InsertionEntryData}
use Rattle.aat_machine_tables.specs.declared.state_table.GenericStateEntry.{GenericStateEntry}
use Rattle.aat_findings.specs.Reached.{IsReached}
use Rattle.aat_findings.specs.declared.growth.InsertionKind.{InsertionKind}
use Rattle.aat_findings.specs.declared.growth.InsertionKind.TheVariants.{Grows, PutsDeleted}

abbrev pub Entry : Type 0
Entry = GenericStateEntry InsertionEntryData

-- the class as which a machine takes a glyph: 1, out of bounds, where it has none below the number of classes
abbrev pub taken_as : {E : Type 0} → TableValue E → ℕ → ℕ
taken_as table glyph = known_class table.class_count (unwrap_or (class_of table glyph) 1)

-- glyphs have the deleted one, 0xFFFF
abbrev pub has_deleted : List GlyphId → Bool
has_deleted run = list_any (λ g. g.0 == 0xFFFF) run

module _ (glyphs : List GlyphId) where
  -- so many glyphs go in, from an index on: some, where there is an index, and the list has them all
  abbrev pub go_in : ℕ → ℕ → Bool
  go_in index count = is_present index && (nat_lt 0 count && nat_le (index + count) (length glyphs))

  -- an entry puts glyphs in at the glyph where the machine is, or at the mark
  abbrev pub at_cursor : Entry → Bool
  at_cursor e = go_in e.extra.current_insert_index (bit_and e.flags 0x03E0 / 32)

  abbrev pub at_mark : Entry → Bool
  at_mark e = go_in e.extra.marked_insert_index (bit_and e.flags 0x001F)

  -- so many glyphs from an index on: none, where there is no index, or the list does not have them all
  abbrev pub run_at : ℕ → ℕ → List GlyphId
  run_at index count =
      if is_present index && nat_le (index + count) (length glyphs) then slice_range glyphs index (index + count) else []

  -- an entry puts the deleted glyph in
  abbrev pub puts_deleted : Entry → Bool
  puts_deleted e =
      has_deleted (run_at e.extra.current_insert_index (bit_and e.flags 0x03E0 / 32))
      || has_deleted (run_at e.extra.marked_insert_index (bit_and e.flags 0x001F))

  -- an entry stays, and puts none in behind the mark: where that is at the glyph, the machine would not stay there
  abbrev pub stays_at : Entry → Bool
  stays_at e = not (goes_on e) && (has_flag e 0x0400 || not (at_mark e))

-- a state and a class are those of a pair
abbrev pub is_cell : ℕ × ℕ → ℕ → ℕ → Bool
is_cell cell state class = (state == cell.0) && (class == cell.1)

module _ (table : TableValue Entry) (glyphs : List GlyphId) where
  -- the class of the glyph where the machine is behind an entry that stays: the first of those that went in before the
  -- one where it was, or that one
  abbrev pub class_behind : Entry → ℕ → ℕ
  class_behind e class =
      if has_flag e 0x0800 && at_cursor glyphs e
      then unwrap_or (option_map (λ g. taken_as table g.0) (slice_get glyphs e.extra.current_insert_index)) class
      else class

  -- an entry of a class stays and leads to a state and a class, or to others from which they are reached
  abbrev pub leads_by : ℕ × ℕ → (ℕ × ℕ → Bool) → ℕ → Entry → Bool
  leads_by end rest class e =
      let behind = class_behind e class in
      stays_at glyphs e && (is_cell end e.new_state behind || rest (e.new_state, behind))

  -- entries that stay lead from a state and a class to others, by at least one and at most so many of them
  unfoldable pub leads_to : ℕ × ℕ → ℕ → ℕ × ℕ → Bool
  leads_to end zero cell = false
  leads_to end (suc turns) cell =
      is_some_and (entry_of table cell.0 cell.1) (leads_by end (leads_to end turns) cell.1)

  -- a rule of another class than the end of the text puts glyphs in, and at most 64 entries that stay lead back to it
  abbrev pub grows : Rule Entry → Bool
  grows r = not (r.1 == 0) && ((at_cursor glyphs r.2 || at_mark glyphs r.2) && leads_to (r.0, r.1) 64 (r.0, r.1))

  -- a rule is of a kind: a line that comes to it grows until the budget or the greatest length ends it, or it puts the
  -- deleted glyph in
  abbrev pub is_inserting : InsertionKind → Rule Entry → Bool
  is_inserting Grows r = grows r
  is_inserting PutsDeleted r = puts_deleted glyphs r.2

  -- so it is of one of a state that some line reaches
  pub record IsInserting (kind : InsertionKind) (rule : Rule Entry) : Type 0 where
    pub reached : IsReached table rule.0
    pub told : is_inserting kind rule ≡ true
