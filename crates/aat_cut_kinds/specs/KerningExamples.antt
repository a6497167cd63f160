-- Lines that are cut where a run of a kerning machine leaves them open, or closes them, and what it leaves of their
-- parts. A glyph of a line is an id and a cluster.
use Rattle.std.specs.Prelude.{◌≡◌, ℕ, ℤ, Bool, true, false, pos, negsuc, List, [], ◌∷◌, map, Some, None}
use Rattle.aat_buffer.specs.Buffer.{Buffer, empty_buffer, no_glyph, position_list, with_direction, zero_position}
use Rattle.aat_machine_tables.specs.Table.{Rule, TableValue, table_value}
use Rattle.aat_machine_tables.specs.declared.entries.EntryData.{EntryData}
use Rattle.aat_machine_tables.specs.declared.entries.KernEntryData.{KernEntryData}
use Rattle.aat_machine_tables.specs.declared.state_table.GenericStateEntry.{GenericStateEntry}
use Rattle.aat_glyph.specs.declared.glyph.Direction.{Direction}
use Rattle.aat_glyph.specs.declared.glyph.Direction.TheVariants.{LeftToRight, RightToLeft}
use Rattle.aat_kerning_tables.specs.declared.kern.KernKind.TheVariants.{Pairs}
use Rattle.aat_kerning_tables.specs.declared.kern.KernSubtable.{KernSubtable}
use Rattle.aat_kerning.specs.Positioning.{kern_positioning}
use Rattle.aat_kerning.specs.RowWords.{kern_subtable, machine_of_kern}
use Rattle.aat_cut_kinds.specs.CutExamples.{table_with}
use Rattle.aat_cut_kinds.specs.KernedTables.{by_kern}
use Rattle.aat_cut_kinds.specs.KerningCuts.{KernedRun, by_anchors, kern_stack, kerx_stack, placed_back, placed_front}

-- an entry of a `kern` machine, and of one of `kerx`: its state, flags and index; 0xFFFF is none
abbrev pub kern_entry : ℕ → ℕ → ℕ → GenericStateEntry KernEntryData
kern_entry state flags index = record { new_state = state; flags = flags; extra = record { value_index = index } }

abbrev pub kerx_entry : ℕ → ℕ → ℕ → GenericStateEntry EntryData
kerx_entry state flags index = record { new_state = state; flags = flags; extra = record { action_index = index } }

-- a table of five classes with these rules, whose other entries do nothing
abbrev pub kern_table : List (ℕ × ℕ) → List (Rule (GenericStateEntry KernEntryData))
    → TableValue (GenericStateEntry KernEntryData)
kern_table classes rules = table_with classes rules (kern_entry 0 0 0xFFFF)

-- a line of these glyphs, with the mask 8, an advance of 500 units each, and a budget
abbrev pub kern_line : ℤ → List (ℕ × ℕ) → Buffer
kern_line budget glyphs =
    record (empty_buffer 100 budget) {
      line = map (λ g. record no_glyph { glyph_id = g.0; cluster = g.1; mask = 8 }) glyphs;
      positions = Some (map (λ g. record zero_position { x_advance = pos 500 }) glyphs);
    }

-- what is left of the advances, and of the attachments
abbrev pub advances_of : Buffer → List ℤ
advances_of b = map (λ p. p.x_advance) (position_list b)

abbrev pub chains_of : Buffer → List ℤ
chains_of b = map (λ p. p.attach_chain) (position_list b)

-- whether a run leaves a place of a line open, and what it leaves of the line, of the front and of the back
pub record Cut : Type 0 where
  pub is_open : Bool
  pub whole : List ℤ
  pub front : List ℤ
  pub back : List ℤ

-- at place q, of a run whose outcome is read so
abbrev pub cut_at : (Buffer → List ℤ) → KernedRun → ℕ → Buffer → Cut
cut_at read r q b = record {
  is_open = r.opens q b;
  whole = read (r.left b);
  front = read (r.left (placed_front q b));
  back = read (r.left (placed_back q b));
}

-- by a `kern` stack with these values and this kern mask, by a `kerx` stack, and by anchors without points
abbrev pub kern_cut : TableValue (GenericStateEntry KernEntryData) → List ℤ → ℕ → ℕ → Buffer → Cut
kern_cut table values kern_mask = cut_at advances_of (kern_stack true false kern_mask values table)

abbrev pub kerx_cut : TableValue (GenericStateEntry EntryData) → List ℤ → ℕ → Buffer → Cut
kerx_cut table values = cut_at advances_of (kerx_stack false false 8 0 values table)

abbrev pub anchor_cut : TableValue (GenericStateEntry EntryData) → ℕ → Buffer → Cut
anchor_cut table = cut_at chains_of (by_anchors false None [] table)

-- by all subtables of a `kern` table, over a line of a direction
abbrev pub kern_table_cut : List KernSubtable → Direction → ℕ → Buffer → Cut
kern_table_cut subtables direction q b =
    cut_at advances_of
    (record {
      left = λ d. (kern_positioning true 8 subtables d).buffer;
      opens = (by_kern true 8 subtables direction).opens;
    })
    q (with_direction b direction)

-- the place is open, or closed, and that is left of the whole and of the parts
abbrev pub opened : List ℤ → List ℤ → List ℤ → Cut
opened whole front back = record { is_open = true; whole = whole; front = front; back = back }

abbrev pub closed : List ℤ → List ℤ → List ℤ → Cut
closed whole front back = record { is_open = false; whole = whole; front = front; back = back }

-- glyph 1 gets the value before glyph 2, which alone has a class
abbrev pub kerning_before_two : TableValue (GenericStateEntry KernEntryData)
kerning_before_two = kern_table ((2, 4) ∷ []) ((0, 1, kern_entry 1 0x8000 0xFFFF) ∷ (1, 4, kern_entry 0 0 0) ∷ [])

-- each other glyph gets the value
abbrev pub kerning_in_turns : TableValue (GenericStateEntry KernEntryData)
kerning_in_turns = kern_table [] ((0, 1, kern_entry 1 0x8000 0) ∷ [])

-- an entry pushes and goes back to state 0
abbrev pub pushing_back : TableValue (GenericStateEntry KernEntryData)
pushing_back = kern_table [] ((0, 1, kern_entry 1 0 0) ∷ (1, 1, kern_entry 0 0xC000 0xFFFF) ∷ [])

-- state 0 has no entry for the end of the text
abbrev pub without_end : TableValue (GenericStateEntry KernEntryData)
without_end = table_value 5 [] ((0, 1, kern_entry 0 0x8000 0) ∷ [])

-- the glyph before the end of the text gets the value
abbrev pub kerning_at_end : TableValue (GenericStateEntry KernEntryData)
kerning_at_end = kern_table [] ((0, 0, kern_entry 0 0 0) ∷ (0, 1, kern_entry 0 0x8000 0xFFFF) ∷ [])

-- glyph 1 takes the places of glyphs before it off the stack
abbrev pub taking_back : TableValue (GenericStateEntry KernEntryData)
taking_back = kern_table ((1, 3) ∷ []) ((0, 1, kern_entry 0 0x8000 0xFFFF) ∷ (0, 3, kern_entry 0 0 0) ∷ [])

-- glyph 1 is pushed twice, and glyph 2 takes places off the stack
abbrev pub pushing_twice : TableValue (GenericStateEntry KernEntryData)
pushing_twice =
    kern_table ((2, 4) ∷ [])
    ((0, 1, kern_entry 1 0xC000 0xFFFF) ∷ (0, 4, kern_entry 0 0 0) ∷ (1, 1, kern_entry 0 0x8000 0xFFFF) ∷ [])

-- glyph 1 gets the value as long as some of the budget is left
abbrev pub kerning_for_ever : TableValue (GenericStateEntry KernEntryData)
kerning_for_ever = kern_table [] ((0, 1, kern_entry 0 0xC000 0) ∷ [])

-- each glyph gets the value, and the entry for the end of the text has an index
abbrev pub kerning_each : TableValue (GenericStateEntry KernEntryData)
kerning_each = kern_table [] ((0, 0, kern_entry 0 0 0) ∷ (0, 1, kern_entry 0 0x8000 0) ∷ [])

-- glyph 2 clears the stack, since its first value is missing
abbrev pub clearing : TableValue (GenericStateEntry KernEntryData)
clearing = kern_table ((2, 4) ∷ []) ((0, 1, kern_entry 0 0x8000 0xFFFF) ∷ (0, 4, kern_entry 0 0 9) ∷ [])

-- glyph 2 empties the stack, is pushed, and gets the value
abbrev pub resetting : TableValue (GenericStateEntry EntryData)
resetting =
    table_with ((2, 4) ∷ []) ((0, 1, kerx_entry 0 0x8000 0xFFFF) ∷ (0, 4, kerx_entry 0 0xA000 0) ∷ [])
    (kerx_entry 0 0 0xFFFF)

-- each glyph is attached to the one before it
abbrev pub attaching_each : TableValue (GenericStateEntry EntryData)
attaching_each = table_with [] ((0, 1, kerx_entry 0 0x8000 0) ∷ []) (kerx_entry 0 0 0xFFFF)

-- A place is open in the first three lines: a stack that is cleared for want of a value, or emptied by a flag, closes
-- nothing. In the next seven it is closed, and the parts leave something else: the state, a push on the way back to
-- state 0, a missing entry, the end of the text, a place that is taken off the stack, one that a push at eight clears,
-- and a mark. In the last two it is open: the budget is used up, and the kern mask is a glyph flag.
pub record KerningExamples : Type 0 where
  pub a_plain_line :
      kern_cut kerning_before_two (pos 3 ∷ []) 8 2 (kern_line (pos 100) ((1, 0) ∷ (2, 1) ∷ (1, 2) ∷ (2, 3) ∷ []))
      ≡ opened (pos 502 ∷ pos 500 ∷ pos 502 ∷ pos 500 ∷ []) (pos 502 ∷ pos 500 ∷ []) (pos 502 ∷ pos 500 ∷ [])
  pub a_stack_is_cleared :
      kern_cut clearing (pos 2 ∷ []) 8 1 (kern_line (pos 100) ((1, 0) ∷ (2, 1) ∷ []))
      ≡ opened (pos 500 ∷ pos 500 ∷ []) (pos 500 ∷ []) (pos 500 ∷ [])
  pub a_stack_is_emptied :
      kerx_cut resetting (pos 3 ∷ []) 1 (kern_line (pos 100) ((1, 0) ∷ (2, 1) ∷ []))
      ≡ opened (pos 500 ∷ pos 502 ∷ []) (pos 500 ∷ []) (pos 502 ∷ [])
  pub the_state_is_another :
      kern_cut kerning_in_turns (pos 2 ∷ []) 8 1 (kern_line (pos 100) ((1, 2) ∷ (1, 3) ∷ []))
      ≡ closed (pos 502 ∷ pos 500 ∷ []) (pos 502 ∷ []) (pos 502 ∷ [])
  pub the_way_back_pushes :
      kern_cut pushing_back (pos 2 ∷ []) 8 1 (kern_line (pos 100) ((1, 1) ∷ (1, 2) ∷ []))
      ≡ closed (pos 500 ∷ pos 502 ∷ []) (pos 500 ∷ []) (pos 500 ∷ [])
  pub an_entry_is_missing :
      kern_cut without_end (pos 2 ∷ []) 8 1 (kern_line (pos 100) ((1, 2) ∷ (1, 3) ∷ []))
      ≡ closed (pos 500 ∷ pos 500 ∷ []) (pos 502 ∷ []) (pos 502 ∷ [])
  pub the_end_acts :
      kern_cut kerning_at_end (pos 3 ∷ []) 8 1 (kern_line (pos 100) ((1, 1) ∷ (1, 2) ∷ []))
      ≡ closed (pos 500 ∷ pos 502 ∷ []) (pos 502 ∷ []) (pos 502 ∷ [])
  pub a_place_is_taken :
      kern_cut taking_back (pos 2 ∷ []) 8 1 (kern_line (pos 100) ((2, 2) ∷ (1, 3) ∷ []))
      ≡ closed (pos 502 ∷ pos 500 ∷ []) (pos 500 ∷ []) (pos 500 ∷ [])
  pub a_push_clears :
      kern_cut pushing_twice (pos 2 ∷ pos 3 ∷ []) 8 4
      (kern_line (pos 100) ((1, 0) ∷ (1, 1) ∷ (1, 2) ∷ (1, 3) ∷ (1, 4) ∷ (2, 5) ∷ []))
      ≡ closed (pos 500 ∷ pos 500 ∷ pos 500 ∷ pos 500 ∷ pos 502 ∷ pos 500 ∷ [])
      (pos 500 ∷ pos 500 ∷ pos 500 ∷ pos 500 ∷ []) (pos 504 ∷ pos 500 ∷ [])
  pub a_mark_is_used :
      anchor_cut attaching_each 1 (kern_line (pos 100) ((1, 1) ∷ (1, 2) ∷ []))
      ≡ closed (pos 0 ∷ negsuc 0 ∷ []) (pos 0 ∷ []) (pos 0 ∷ [])
  pub the_budget_is_used_up :
      kern_cut kerning_for_ever (pos 2 ∷ []) 8 1 (kern_line (pos 3) ((1, 0) ∷ (1, 1) ∷ []))
      ≡ opened (pos 506 ∷ pos 502 ∷ []) (pos 506 ∷ []) (pos 506 ∷ [])
  pub the_kern_mask_is_a_flag :
      kern_cut kerning_each (pos 2 ∷ []) 1 1 (kern_line (pos 100) ((1, 0) ∷ (1, 1) ∷ []))
      ≡ opened (pos 500 ∷ pos 502 ∷ []) (pos 500 ∷ []) (pos 500 ∷ [])

-- a pair of the value 4, and the machine that gives glyph 1 the value before glyph 2
abbrev pub pair_and_machine : List KernSubtable
pair_and_machine =
    kern_subtable (Pairs ((1, 2, pos 4) ∷ [])) ∷ kern_subtable (machine_of_kern kerning_before_two (pos 3 ∷ [])) ∷ []

-- A place between pairs is open to a table of pairs and a machine, also in a line from right to left; it is closed
-- where a pair stands over it.
pub record KernedTableExamples : Type 0 where
  pub between_pairs :
      kern_table_cut pair_and_machine LeftToRight 2 (kern_line (pos 100) ((1, 0) ∷ (2, 1) ∷ (1, 2) ∷ (2, 3) ∷ []))
      ≡ opened (pos 504 ∷ pos 502 ∷ pos 504 ∷ pos 502 ∷ []) (pos 504 ∷ pos 502 ∷ []) (pos 504 ∷ pos 502 ∷ [])
  pub from_right_to_left :
      kern_table_cut pair_and_machine RightToLeft 2 (kern_line (pos 100) ((2, 3) ∷ (1, 2) ∷ (2, 1) ∷ (1, 0) ∷ []))
      ≡ opened (pos 502 ∷ pos 504 ∷ pos 502 ∷ pos 504 ∷ []) (pos 502 ∷ pos 504 ∷ []) (pos 502 ∷ pos 504 ∷ [])
  pub within_a_pair :
      kern_table_cut pair_and_machine LeftToRight 1 (kern_line (pos 100) ((1, 0) ∷ (2, 1) ∷ (1, 2) ∷ (2, 3) ∷ []))
      ≡ closed (pos 504 ∷ pos 502 ∷ pos 504 ∷ pos 502 ∷ []) (pos 500 ∷ []) (pos 500 ∷ pos 504 ∷ pos 502 ∷ [])
