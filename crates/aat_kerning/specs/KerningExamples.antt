-- An example of each rule of kerning that no worked row shows.
use Rattle.std.specs.Prelude.{◌≡◌, bit_and, ℕ, ℤ, pos, negsuc, Bool, true, false, List, [], ◌∷◌, ◌++◌, Some, None}
use Rattle.aat_buffer.specs.Buffer.{Buffer, glyph_at}
use Rattle.aat_glyph.specs.declared.glyph.hb_glyph_info_t.{hb_glyph_info_t}
use Rattle.aat_glyph.specs.declared.glyph.GlyphPosition.{GlyphPosition}
use Rattle.aat_glyph.specs.declared.glyph.Direction.{Direction}
use Rattle.aat_glyph.specs.declared.glyph.Direction.TheVariants.{LeftToRight, RightToLeft, TopToBottom}
use Rattle.aat_kerning_tables.specs.Classes.{ClassValues}
use Rattle.aat_machine_tables.specs.declared.entries.EntryData.{EntryData}
use Rattle.aat_machine_tables.specs.declared.entries.KernEntryData.{KernEntryData}
use Rattle.aat_machine_tables.specs.declared.state_table.GenericStateEntry.{GenericStateEntry}
use Rattle.aat_run.specs.Outcome.{Outcome, untouched}
use Rattle.aat_run.specs.Rows.{glyph, entry, many}
use Rattle.aat_kerning.specs.Advances.{all_advances, all_values, kern_values, values_by_all}
use Rattle.aat_kerning.specs.Cut.{ordered_line, IsCutPlace, AreParts, IsKernedInParts}
use Rattle.aat_kerning.specs.KerningRows.{positions_of, skipped_mark, kern_machine, three_values, two_points}
use Rattle.aat_kerning.specs.PairKerning.{pair_kerning, value_of}
use Rattle.aat_kerning.specs.Pairs.{kern_skips, pairs_of}
use Rattle.aat_kerning_tables.specs.declared.kerx.KerxFormat.TheVariants.{Format0, Format2, Format2Classes, Format6, Format6Classes}
use Rattle.aat_kerning_tables.specs.declared.kern.KernKind.TheVariants as kind
use Rattle.aat_kerning_tables.specs.declared.kern.KernSubtable.{KernSubtable}
use Rattle.aat_kerning_tables.specs.declared.kerx.KerxSubtable.{KerxSubtable}
use Rattle.aat_kerning.specs.Positioning.{run_of_kerx_subtable, kerning_of_kern_subtable, kern_positioning}
use Rattle.aat_kerning_machines.specs.Positions.{attached_as}
use Rattle.aat_kerning.specs.RowWords.{position, untouched_position, along_x, PrintedKerning, printed_kerning, shows_positions, shows_three_turns, asking_from, two_glyphs, two_glyphs_marked, buffer_with_advances, kern_subtable, kerx_subtable, by_kern, by_kerx, values_from, no_values, action_at, no_action, kern_rules, kerx_rules, kern_entries, kerx_entries, anchor_entries, kern_pairs, pairs_of_kern, machine_of_kern, stack_of_kerx, anchors_of_kerx}

-- the two glyphs in horizontal text, left to right
abbrev pub in_a_row : Buffer
in_a_row = buffer_with_advances LeftToRight many two_glyphs

-- the two glyphs in vertical text, downwards
abbrev pub in_a_column : Buffer
in_a_column = buffer_with_advances TopToBottom many two_glyphs

-- the line in a row where the buffer asks for marks on what cannot be joined
abbrev pub asking_for_concat : Buffer
asking_for_concat = record in_a_row { flags = record { 0 = 0x40 } }

-- two glyphs in state 0 whose marks say that they cannot be joined
abbrev pub two_glyphs_apart : List hb_glyph_info_t
two_glyphs_apart = glyph 1 0 10 ∷ glyph 2 1 10 ∷ []

-- positions that kerning leaves as they are
abbrev pub two_untouched : List GlyphPosition
two_untouched = untouched_position ∷ untouched_position ∷ []

-- a position that is attached to the one before it as a cursive glyph
abbrev pub cursive : GlyphPosition → GlyphPosition
cursive q = attached_as 2 (negsuc 0) q

-- the pair of 1 and 2
abbrev pub one_pair : ℤ → List (ℕ × ℕ × ℤ)
one_pair v = (1, 2, v) ∷ []

-- the same pair by classes: glyph 1 has left class 1, and glyph 2 right class 2
abbrev pub one_pair_by_classes : ℤ → ClassValues
one_pair_by_classes v = record {
  left = (1, 1) ∷ [];
  right = (2, 2) ∷ [];
  right_count = 3;
  values = pos 0 ∷ pos 0 ∷ pos 0 ∷ pos 0 ∷ pos 0 ∷ v ∷ [];
}

-- three glyphs, of which the one in the middle has props
abbrev pub with_middle : hb_glyph_info_t → List hb_glyph_info_t
with_middle g = glyph 1 0 8 ∷ g ∷ glyph 2 2 8 ∷ []

-- the line of row 16
abbrev pub four_glyphs : List hb_glyph_info_t
four_glyphs = asking_from 0 (1 ∷ 2 ∷ 3 ∷ 4 ∷ [])

-- the subtable of row 16 twice, and once for vertical text
abbrev pub three_tables : List KernSubtable
three_tables =
    let one = kern_subtable (pairs_of_kern three_values) in one ∷ one ∷ record one { horizontal = false } ∷ []

-- a `kern` subtable of pairs across the stream
abbrev pub kern_across : KernSubtable
kern_across = record (kern_subtable (pairs_of_kern (one_pair (pos 30)))) { has_cross_stream = true }

-- which glyphs pair, and what a pair moves. TrueType Reference Manual: The 'kern' table and The 'kerx' table.
pub record PairExamples : Type 0 where
  -- a base in between is skipped by `kerx`, and not by `kern`
  pub kern_stops_at_base :
      kern_pairs LeftToRight (one_pair (negsuc 24)) (with_middle (record (glyph 3 1 8) { glyph_props = 2 }))
      ≡ shows_positions (with_middle (record (glyph 3 1 8) { glyph_props = 2 })) (untouched_position ∷ two_untouched)
  pub kerx_skips_base :
      by_kerx None (kerx_subtable (Format0 (one_pair (negsuc 24))) ∷ [])
      (buffer_with_advances LeftToRight many (with_middle (record (glyph 3 1 8) { glyph_props = 2 })))
      ≡ shows_positions (glyph 1 0 8 ∷ record (glyph 3 1 11) { glyph_props = 2 } ∷ glyph 2 2 11 ∷ [])
      (along_x (pos 487) (pos 0) ∷ untouched_position ∷ along_x (pos 488) (negsuc 11) ∷ [])
  -- an ignorable glyph is skipped, unless it was substituted
  pub ignorable_is_skipped :
      positions_of (kern_pairs LeftToRight (one_pair (negsuc 24))
      (with_middle (record (glyph 3 1 8) { unicode_props = 0x20 })))
      ≡ along_x (pos 487) (pos 0) ∷ untouched_position ∷ along_x (pos 488) (negsuc 11) ∷ []
  pub substituted_is_solid :
      positions_of (kern_pairs LeftToRight (one_pair (negsuc 24))
      (with_middle (record (glyph 3 1 8) { unicode_props = 0x20; glyph_props = 0x10 })))
      ≡ untouched_position ∷ two_untouched
  -- a solid glyph that does not ask for kerning is in no pair, and nothing pairs over it
  pub unasked_pair :
      positions_of (kern_pairs LeftToRight ((1, 2, negsuc 24) ∷ (1, 3, pos 9) ∷ (3, 2, pos 9) ∷ [])
      (with_middle (glyph 3 1 0)))
      ≡ untouched_position ∷ two_untouched
  -- a skipped glyph that asks is the left one where it stands first
  pub skipped_at_left :
      positions_of (kern_pairs LeftToRight (one_pair (negsuc 24)) (skipped_mark 1 0 8 ∷ glyph 2 1 8 ∷ []))
      ≡ along_x (pos 487) (pos 0) ∷ along_x (pos 488) (negsuc 11) ∷ []
  -- in vertical text the halves go to y, and a value across the stream to x
  pub vertical_pair :
      by_kern (record (kern_subtable (pairs_of_kern (one_pair (negsuc 24)))) { horizontal = false } ∷ []) in_a_column
      ≡ shows_positions two_glyphs_marked
      (position (pos 500) (negsuc 12) (pos 0) (pos 0) ∷ position (pos 500) (negsuc 11) (pos 0) (negsuc 11) ∷ [])
  pub vertical_pair_across :
      by_kern (record kern_across { horizontal = false } ∷ []) in_a_column
      ≡ record (shows_positions two_glyphs_marked
      (cursive untouched_position ∷ cursive (position (pos 500) (pos 0) (pos 30) (pos 0)) ∷ [])) { scratch = 8 }
  -- a pair of classes is kerned as a listed one is
  pub pair_by_classes :
      by_kern (kern_subtable (kind.Classes (one_pair_by_classes (negsuc 24))) ∷ []) in_a_row
      ≡ by_kern (kern_subtable (pairs_of_kern (one_pair (negsuc 24))) ∷ []) in_a_row
  -- also by format 2 of `kerx`, which marks the line against joining, and by format 6
  pub kerx_pair_by_classes :
      (by_kerx None (kerx_subtable (Format2Classes (one_pair_by_classes (negsuc 24))) ∷ []) in_a_row
      ≡ by_kerx None (kerx_subtable (Format2 (one_pair (negsuc 24))) ∷ []) in_a_row)
      × (by_kerx None (kerx_subtable (Format6Classes (one_pair_by_classes (negsuc 24))) ∷ []) in_a_row
      ≡ by_kerx None (kerx_subtable (Format6 (one_pair (negsuc 24))) ∷ []) in_a_row)
  -- a pair across the stream sets the scratch flag, and attaches nothing
  pub attaches_nothing :
      printed_kerning (untouched (pair_kerning kern_skips 8 true (value_of (one_pair (pos 30))) in_a_row))
      ≡ record (shows_positions two_glyphs_marked
      (untouched_position ∷ position (pos 500) (pos 0) (pos 0) (pos 30) ∷ [])) {
        scratch = 8;
      }
  -- right to left, cut between 2 and 3, the parts give the same
  pub backward_cut :
      positions_of (kern_pairs RightToLeft ((2, 1, negsuc 19) ∷ []) (asking_from 0 (1 ∷ 2 ∷ 3 ∷ [])))
      ≡ positions_of (kern_pairs RightToLeft ((2, 1, negsuc 19) ∷ []) (asking_from 0 (1 ∷ 2 ∷ [])))
      ++ positions_of (kern_pairs RightToLeft ((2, 1, negsuc 19) ∷ []) (asking_from 2 (3 ∷ [])))
  -- the pairs of row 16 have the values -20, 0 and 10, so four advances of 500 become 1990
  pub advances_added :
      all_advances true (positions_of (kern_pairs LeftToRight three_values four_glyphs)) ≡ pos 1990
  pub values_added : all_values (value_of three_values) four_glyphs (pairs_of kern_skips 8 four_glyphs) ≡ negsuc 9
  -- two subtables that are for the text change them twice, so they become 1980
  pub advances_added_twice :
      all_advances true (positions_of (by_kern three_tables (buffer_with_advances LeftToRight many four_glyphs)))
      ≡ pos 1980
  pub values_added_twice :
      values_by_all (kerning_of_kern_subtable 8) (λ s. kern_values s.kind) kern_skips 8 three_tables
      (buffer_with_advances LeftToRight many four_glyphs) ≡ negsuc 19

-- a `kern` machine with rules, values and glyphs
abbrev pub kern_machine_of :
    List (ℕ × ℕ × GenericStateEntry KernEntryData) → List ℤ → List ℕ → PrintedKerning
kern_machine_of rules values ids =
    by_kern (kern_subtable (machine_of_kern (kern_rules rules) values) ∷ [])
    (buffer_with_advances LeftToRight many (asking_from 0 ids))

-- what a machine shows of a line whose positions stay
abbrev pub shows_unmoved : List hb_glyph_info_t → ℕ → ℤ → PrintedKerning
shows_unmoved line turns budget = record (shows_positions line two_untouched) { turns = turns; budget = budget }

-- the turn of a kerning machine. TrueType Reference Manual: State tables.
pub record MachineExamples : Type 0 where
  -- in a state that is not 0 an entry that only advances, only goes to another state than 0 or only acts makes the line
  -- unsafe before the cursor
  pub unsafe_advancing :
      kern_machine_of ((0, 4, entry 1 0 no_values) ∷ []) [] (1 ∷ 2 ∷ []) ≡ shows_unmoved two_glyphs_marked 3 (pos 16382)
  pub unsafe_going_on :
      kern_machine_of ((0, 4, entry 1 0 no_values) ∷ (1, 5, entry 2 0x4000 no_values) ∷ []) [] (1 ∷ 2 ∷ [])
      ≡ shows_unmoved two_glyphs_marked 3 (pos 16382)
  pub unsafe_acting :
      kern_machine_of ((0, 4, entry 1 0 no_values) ∷ (1, 5, entry 0 0x4000 (values_from 0)) ∷ []) [] (1 ∷ 2 ∷ [])
      ≡ shows_unmoved two_glyphs_marked 4 (pos 16381)
  -- one that does none of the three begins anew
  pub safe_staying :
      kern_machine_of ((0, 4, entry 1 0 no_values) ∷ (1, 5, entry 0 0x4000 no_values) ∷ []) [] (1 ∷ 2 ∷ [])
      ≡ shows_unmoved two_glyphs 4 (pos 16381)
  -- an entry for the end that is actionable makes the line unsafe behind the cursor
  pub unsafe_behind :
      kern_machine_of ((0, 0, entry 0 0 (values_from 0)) ∷ []) [] (1 ∷ 2 ∷ [])
      ≡ shows_unmoved two_glyphs_marked 3 (pos 16382)
  -- where the state has no entry for the end, the run ends before the last glyph
  pub nothing_ahead :
      by_kern (kern_subtable (machine_of_kern (record {
        class_count = 6;
        classes = [];
        rules = (0, 1, entry 0 0 no_values) ∷ [];
      }) []) ∷ []) in_a_row
      ≡ shows_unmoved two_glyphs 1 many
  -- with one operation left a `kern` entry that stays moves on, and a `kerx` entry stays once more
  pub last_operation_of_kern :
      by_kern (kern_subtable (machine_of_kern (kern_rules ((0, 4, entry 0 0x4000 no_values) ∷ [])) []) ∷ [])
      (buffer_with_advances LeftToRight (pos 1) (asking_from 0 (1 ∷ [])))
      ≡ record (shows_positions (asking_from 0 (1 ∷ [])) (untouched_position ∷ [])) { turns = 2; budget = pos 0 }
  pub last_operation_of_kerx :
      by_kerx None (kerx_subtable (stack_of_kerx (kerx_rules ((0, 4, entry 0 0x4000 no_action) ∷ [])) []) ∷ [])
      (buffer_with_advances LeftToRight (pos 1) (asking_from 0 (1 ∷ [])))
      ≡ record (shows_positions (asking_from 0 (1 ∷ [])) (untouched_position ∷ [])) { turns = 3; budget = negsuc 0 }

-- a `kerx` stack subtable with values, so many tuples, and rules
abbrev pub stack_with_tuples : List (ℕ × ℕ × GenericStateEntry EntryData) → ℕ → List ℤ → KerxSubtable
stack_with_tuples rules tuples values =
    record (kerx_subtable (stack_of_kerx (kerx_rules rules) values)) { tuple_count = tuples }

-- rules that push 1, and take values at 2 from an index, by an entry with flags
abbrev pub taking : ℕ → ℕ → List (ℕ × ℕ × GenericStateEntry EntryData)
taking flags index = (0, 4, entry 0 0x8000 no_action) ∷ (0, 5, entry 0 flags (action_at index)) ∷ []

-- a `kerx` machine that pushes 1 and 2 and takes values across the stream
abbrev pub stack_across : List ℤ → KerxSubtable
stack_across values = record (stack_with_tuples (taking 0x8000 0) 1 values) { has_cross_stream = true }

-- a `kern` machine that pushes 1 and 2 and takes values, for vertical text
abbrev pub vertical_stack : Bool → List ℤ → KernSubtable
vertical_stack is_cross values = record (kern_subtable (machine_of_kern kern_entries values)) {
  horizontal = false;
  has_cross_stream = is_cross;
}

-- 1 is pushed, 2 takes values from an index, and 3 takes them from 0
abbrev pub taking_twice : KernEntryData → PrintedKerning
taking_twice first =
    kern_machine_of
    ((0, 4, entry 0 0x8000 no_values) ∷ (0, 5, entry 0 0 first) ∷ (0, 1, entry 0 0 (values_from 0)) ∷ [])
    (pos 20 ∷ []) (1 ∷ 2 ∷ 3 ∷ [])

-- the stack acts. TrueType Reference Manual: The 'kerx' table, format 1, and The 'kern' table, format 1.
pub record StackExamples : Type 0 where
  -- an odd value at a place of the line is that of the even one below it, and ends its list
  pub odd_ends :
      kern_machine_of ((0, 4, entry 0 0x8000 no_values) ∷ (0, 5, entry 0 0x8000 (values_from 0)) ∷ [])
      (pos 21 ∷ pos 11 ∷ []) (1 ∷ 2 ∷ [])
      ≡ shows_three_turns two_glyphs (untouched_position ∷ along_x (pos 520) (pos 20) ∷ [])
  -- at the end a place beyond the line is pushed: it uses up an odd value, and the list goes on
  pub odd_beyond :
      kern_machine_of ((0, 4, entry 0 0x8000 no_values) ∷ (0, 0, entry 0 0x8000 (values_from 0)) ∷ [])
      (pos 21 ∷ pos 11 ∷ []) (1 ∷ [])
      ≡ record (shows_positions (asking_from 0 (1 ∷ [])) (along_x (pos 510) (pos 10) ∷ [])) {
        turns = 2;
        budget = pos 16383;
      }
  -- a glyph whose mask does not meet the kern mask uses up its value
  pub unasked_place :
      by_kern (kern_subtable (machine_of_kern kern_entries (pos 20 ∷ pos 10 ∷ [])) ∷ [])
      (buffer_with_advances LeftToRight many (glyph 1 0 8 ∷ glyph 2 1 0 ∷ []))
      ≡ shows_three_turns (glyph 1 0 8 ∷ glyph 2 1 0 ∷ []) (along_x (pos 510) (pos 10) ∷ untouched_position ∷ [])
  -- 0x2000 empties the stack before the push
  pub reset :
      by_kerx None (stack_with_tuples (taking 0xA000 0) 1 (pos 20 ∷ pos 10 ∷ []) ∷ []) in_a_row
      ≡ shows_three_turns two_glyphs (untouched_position ∷ along_x (pos 520) (pos 20) ∷ [])
  -- a missing value ends the action
  pub kerx_missing :
      by_kerx None (stack_with_tuples (taking 0x8000 0) 1 (pos 20 ∷ []) ∷ []) in_a_row
      ≡ shows_three_turns two_glyphs (untouched_position ∷ along_x (pos 520) (pos 20) ∷ [])
  -- a next index of 65535 is not too large, and one of 65536 is
  pub next_index_fits :
      by_kerx None (stack_with_tuples (taking 0x8000 0) 65535 (pos 20 ∷ pos 30 ∷ []) ∷ []) in_a_row
      ≡ shows_three_turns two_glyphs (untouched_position ∷ along_x (pos 520) (pos 20) ∷ [])
  pub next_index_too_large :
      by_kerx None (stack_with_tuples (taking 0x8000 1) 65535 (pos 20 ∷ pos 30 ∷ []) ∷ []) in_a_row
      ≡ shows_three_turns two_glyphs two_untouched
  -- in `kern` a missing first value clears the stack
  pub kern_missing_first :
      taking_twice (values_from 5)
      ≡ record (shows_positions (asking_from 0 (1 ∷ 2 ∷ 3 ∷ [])) (untouched_position ∷ two_untouched)) {
        turns = 4;
        budget = pos 16381;
      }
  pub kern_stack_kept :
      taking_twice no_values
      ≡ record (shows_positions (asking_from 0 (1 ∷ 2 ∷ 3 ∷ [])) (along_x (pos 520) (pos 20) ∷ two_untouched)) {
        turns = 4;
        budget = pos 16381;
      }
  -- across the stream -0x8000, and -0x7FFF, which stands for it, take the attachment away
  pub detached :
      by_kerx None (stack_across (negsuc 32767 ∷ []) ∷ []) in_a_row
      ≡ shows_three_turns two_glyphs (cursive untouched_position ∷ untouched_position ∷ [])
  pub detached_by_odd :
      by_kerx None (stack_across (negsuc 32766 ∷ []) ∷ []) in_a_row
      ≡ shows_three_turns two_glyphs (cursive untouched_position ∷ untouched_position ∷ [])
  -- and another value is added to the offset of an attached glyph
  pub values_across :
      by_kerx None (stack_across (pos 20 ∷ negsuc 6 ∷ []) ∷ []) in_a_row
      ≡ record (shows_three_turns two_glyphs
      (cursive (position (pos 500) (pos 0) (pos 0) (negsuc 7))
      ∷ cursive (position (pos 500) (pos 0) (pos 0) (pos 20)) ∷ [])) {
        scratch = 8;
      }
  pub values_across_unattached :
      printed_kerning
      (run_of_kerx_subtable 8 None true 1 (stack_of_kerx kerx_entries (pos 20 ∷ negsuc 6 ∷ [])) in_a_row)
      ≡ shows_three_turns two_glyphs two_untouched
  -- in vertical text a value goes to y, but only where there is no offset yet, and one across the stream goes to x
  pub vertical_values :
      by_kern (vertical_stack false (pos 20 ∷ pos 11 ∷ []) ∷ []) in_a_column
      ≡ shows_three_turns two_glyphs
      (position (pos 500) (pos 10) (pos 0) (pos 10) ∷ position (pos 500) (pos 20) (pos 0) (pos 20) ∷ [])
  pub vertical_values_once :
      by_kern (vertical_stack false (pos 20 ∷ pos 11 ∷ []) ∷ vertical_stack false (pos 20 ∷ pos 11 ∷ []) ∷ [])
      in_a_column
      ≡ record (shows_positions two_glyphs
      (position (pos 500) (pos 10) (pos 0) (pos 10) ∷ position (pos 500) (pos 20) (pos 0) (pos 20) ∷ [])) {
        turns = 6;
        budget = pos 16380;
      }
  pub vertical_values_across :
      by_kern (vertical_stack true (pos 20 ∷ pos 11 ∷ []) ∷ []) in_a_column
      ≡ record (shows_three_turns two_glyphs
      (cursive (position (pos 500) (pos 0) (pos 10) (pos 0))
      ∷ cursive (position (pos 500) (pos 0) (pos 20) (pos 0)) ∷ [])) {
        scratch = 8;
      }

-- an anchor subtable with rules and pairs of points, over three glyphs of which the last has no points
abbrev pub anchored_three : List (ℕ × ℕ × GenericStateEntry EntryData) → List (ℕ × ℕ) → PrintedKerning
anchored_three rules pairs =
    by_kerx (Some two_points) (kerx_subtable (anchors_of_kerx (kerx_rules rules) pairs) ∷ [])
    (buffer_with_advances LeftToRight many (asking_from 0 (1 ∷ 2 ∷ 3 ∷ [])))

-- rules that mark 1, act at 2 and mark it, and act at 3
abbrev pub anchor_rules : ℕ → List (ℕ × ℕ × GenericStateEntry EntryData)
anchor_rules index =
    (0, 4, entry 0 0x8000 no_action) ∷ (0, 5, entry 0 0x8000 (action_at index)) ∷ (0, 1, entry 0 0 (action_at 0)) ∷ []

-- what three glyphs show behind four turns that attach
abbrev pub shows_attached : List GlyphPosition → PrintedKerning
shows_attached positions = record (shows_positions (asking_from 0 (1 ∷ 2 ∷ 3 ∷ [])) positions) {
  scratch = 8;
  turns = 4;
  budget = pos 16381;
}

-- the anchor act. TrueType Reference Manual: The 'kerx' table, format 4, and The 'ankr' table.
pub record AnchorExamples : Type 0 where
  -- without anchor points the offsets stay, and the glyph is attached
  pub no_points :
      by_kerx None (kerx_subtable (anchors_of_kerx anchor_entries ((0, 0) ∷ [])) ∷ []) in_a_row
      ≡ record (shows_three_turns two_glyphs (untouched_position ∷ attached_as 1 (negsuc 0) untouched_position ∷ [])) {
        scratch = 8;
      }
  -- the attachment is made before the mark is moved, and a missing point is the origin
  pub mark_moves :
      anchored_three (anchor_rules 0) ((0, 0) ∷ [])
      ≡ shows_attached (untouched_position
      ∷ attached_as 1 (negsuc 0) (position (pos 500) (pos 0) (pos 70) (pos 250))
      ∷ attached_as 1 (negsuc 0) (position (pos 500) (pos 0) (pos 30) (negsuc 49)) ∷ [])
  -- a missing pair of points attaches nothing, and the mark stays where it was
  pub missing_pair :
      anchored_three (anchor_rules 5) ((0, 0) ∷ [])
      ≡ shows_attached (untouched_position ∷ untouched_position
      ∷ attached_as 1 (negsuc 1) (position (pos 500) (pos 0) (pos 100) (pos 200)) ∷ [])
  -- at the end of the line nothing stands that could be attached
  pub at_end :
      by_kerx (Some two_points) (kerx_subtable (anchors_of_kerx
      (kerx_rules ((0, 4, entry 0 0x8000 no_action) ∷ (0, 0, entry 0 0 (action_at 0)) ∷ [])) ((0, 0) ∷ [])) ∷ [])
      (buffer_with_advances LeftToRight many (asking_from 0 (1 ∷ [])))
      ≡ record (shows_positions (asking_from 0 (1 ∷ [])) (untouched_position ∷ [])) { turns = 2; budget = pos 16383 }

-- `kerx` pairs across the stream without a value
abbrev pub attaching : KerxSubtable
attaching = record (kerx_subtable (Format0 [])) { has_cross_stream = true }

-- an anchor subtable that attaches 2 to 1
abbrev pub anchoring : KerxSubtable
anchoring = kerx_subtable (anchors_of_kerx anchor_entries ((0, 0) ∷ []))

-- the position that the anchors give to 2
abbrev pub anchored_position : GlyphPosition
anchored_position = position (pos 500) (pos 0) (pos 70) (pos 250)

-- all subtables. TrueType Reference Manual: The 'kerx' table and The 'kern' table.
pub record PositioningExamples : Type 0 where
  -- subtables that are variable or of the other orientation are passed over: they kern, mark and attach nothing
  pub variable_is_passed :
      by_kern (record kern_across { variable = true } ∷ []) in_a_row ≡ shows_positions two_glyphs two_untouched
  pub vertical_is_passed :
      by_kern (record kern_across { horizontal = false } ∷ []) in_a_row ≡ shows_positions two_glyphs two_untouched
  pub horizontal_is_passed : by_kern (kern_across ∷ []) in_a_column ≡ shows_positions two_glyphs two_untouched
  pub kerx_are_passed :
      by_kerx (Some two_points) (record anchoring { variable = true } ∷ record anchoring { horizontal = false } ∷ [])
      in_a_row
      ≡ shows_positions two_glyphs two_untouched
  -- so the first that is not passed over attaches
  pub attached_at_second :
      by_kerx None (record attaching { variable = true } ∷ attaching ∷ []) in_a_row
      ≡ shows_positions two_glyphs (cursive untouched_position ∷ cursive untouched_position ∷ [])
  -- the cursive attachment is made once: what an anchor subtable attached before is written over, but not its offsets
  pub written_over :
      by_kerx (Some two_points) (anchoring ∷ attaching ∷ []) in_a_row
      ≡ record (shows_three_turns two_glyphs (cursive untouched_position ∷ cursive anchored_position ∷ [])) {
        scratch = 8;
      }
  -- and what one attaches behind it stays
  pub attached_once :
      by_kerx (Some two_points) (attaching ∷ anchoring ∷ attaching ∷ []) in_a_row
      ≡ record (shows_three_turns two_glyphs
      (cursive untouched_position ∷ attached_as 1 (negsuc 0) anchored_position ∷ [])) { scratch = 8 }
  -- in a backward text each glyph is attached to the one behind it
  pub attached_backward :
      by_kerx None (attaching ∷ []) (buffer_with_advances RightToLeft many two_glyphs)
      ≡ shows_positions two_glyphs
      (attached_as 2 (pos 1) untouched_position ∷ attached_as 2 (pos 1) untouched_position ∷ [])
  -- where the buffer asks for marks against joining, format 2 of `kerx` marks the whole line first, format 0 does not
  pub format_2_marks :
      (run_of_kerx_subtable 8 None false 0 (Format2 []) asking_for_concat).buffer.line ≡ two_glyphs_apart
  pub format_0_does_not : (run_of_kerx_subtable 8 None false 0 (Format0 []) asking_for_concat).buffer.line ≡ two_glyphs
  -- pairs of `kern` do, and its machines do not
  pub kern_pairs_mark :
      by_kern (kern_subtable (pairs_of_kern []) ∷ []) asking_for_concat ≡ shows_positions two_glyphs_apart two_untouched
  pub kern_machine_does_not :
      by_kern (kern_subtable (machine_of_kern (kern_rules []) []) ∷ []) asking_for_concat
      ≡ shows_three_turns two_glyphs two_untouched
  -- positioning by `kerx` marks the whole line before any subtable
  pub kerx_marks : by_kerx None [] asking_for_concat ≡ shows_positions two_glyphs_apart two_untouched

-- the glyphs 1, 2 and 1, kerned by a stack machine that is from last to first or not: a 2 behind a 1 takes 20 for
-- itself and 10 for the 1
abbrev pub three_by_stack : Bool → Direction → PrintedKerning
three_by_stack is_last_to_first direction =
    let rules = (0, 4, entry 1 0x8000 no_action) ∷ (1, 5, entry 0 0x8000 (action_at 0)) ∷ [] in
    let machine = stack_of_kerx (kerx_rules rules) (pos 20 ∷ pos 11 ∷ []) in
    by_kerx None (record (kerx_subtable machine) { is_last_to_first = is_last_to_first } ∷ [])
    (buffer_with_advances direction many (asking_from 0 (1 ∷ 2 ∷ 1 ∷ [])))

-- what is left where it takes them from the first on: of the two glyphs marked the second has the greater cluster
abbrev pub kerned_from_first : PrintedKerning
kerned_from_first =
    record (shows_positions (glyph 1 0 8 ∷ glyph 2 1 11 ∷ glyph 1 2 8 ∷ [])
    (along_x (pos 510) (pos 10) ∷ along_x (pos 520) (pos 20) ∷ untouched_position ∷ [])) {
      turns = 4;
      budget = pos 16381;
    }

-- and from the last on: of the two marked it is the last
abbrev pub kerned_from_last : PrintedKerning
kerned_from_last =
    record (shows_positions (glyph 1 0 8 ∷ glyph 2 1 8 ∷ glyph 1 2 11 ∷ [])
    (untouched_position ∷ along_x (pos 520) (pos 20) ∷ along_x (pos 510) (pos 10) ∷ [])) {
      turns = 4;
      budget = pos 16381;
    }

-- machines from last to first. TrueType Reference Manual: The 'kerx' table, process direction.
pub record OrderExamples : Type 0 where
  -- such a machine takes a forward line from its last glyph on, and a backward one from its first
  pub first_to_last : three_by_stack false LeftToRight ≡ kerned_from_first
  pub last_to_first : three_by_stack true LeftToRight ≡ kerned_from_last
  pub backward_first_to_last : three_by_stack false RightToLeft ≡ kerned_from_last
  pub backward_last_to_first : three_by_stack true RightToLeft ≡ kerned_from_first
  -- a chain is counted in the order of the machine: 2 is attached to the 1 that stands behind it in the line
  pub chain_in_its_order :
      by_kerx (Some two_points) (record anchoring { is_last_to_first = true } ∷ [])
      (buffer_with_advances LeftToRight many (asking_from 0 (2 ∷ 1 ∷ [])))
      ≡ record (shows_three_turns (asking_from 0 (2 ∷ 1 ∷ []))
      (attached_as 1 (negsuc 0) anchored_position ∷ untouched_position ∷ [])) { scratch = 8 }
  -- pairs take no notice
  pub pairs_in_order :
      by_kerx None (record (kerx_subtable (Format0 (one_pair (negsuc 24)))) { is_last_to_first = true } ∷ []) in_a_row
      ≡ shows_positions two_glyphs_marked (along_x (pos 487) (pos 0) ∷ along_x (pos 488) (negsuc 11) ∷ [])

-- right to left, the pair of 2 and 1, of which 2 comes first in processing order
abbrev pub backward_pair : Buffer → Outcome
backward_pair b = kern_positioning true 8 (kern_subtable (pairs_of_kern ((2, 1, negsuc 19) ∷ [])) ∷ []) b

-- right to left, glyphs with clusters from one on, so that clusters fall in processing order
abbrev pub backward_line : ℕ → List ℕ → Buffer
backward_line c ids = buffer_with_advances RightToLeft many (asking_from c ids)

-- the three glyphs of such a line
abbrev pub three_backward : Buffer
three_backward = backward_line 0 (1 ∷ 2 ∷ 3 ∷ [])

-- what can be cut, and that each condition is needed. (Own.)
pub record CutExamples : Type 0 where
  -- cut between 3 and 2: of the two it is 3 whose cluster is greater and which has to be unflagged; 2 is flagged, as
  -- it is kerned with 1
  pub falling_place : IsCutPlace kern_skips 1 (backward_pair three_backward).buffer
  pub falling_parts : AreParts 1 three_backward (backward_line 2 (3 ∷ [])) (backward_line 0 (1 ∷ 2 ∷ []))
  pub falling_flagged : bit_and (glyph_at (ordered_line (backward_pair three_backward).buffer) 1).mask 1 ≡ 1
  pub falling_cut :
      IsKernedInParts backward_pair (backward_pair three_backward).buffer (backward_line 2 (3 ∷ []))
      (backward_line 0 (1 ∷ 2 ∷ []))
  -- cut between 2 and 1 the parts, of one glyph each, stay: 1 is unflagged, but 2, of the greater cluster, is not
  pub greater_flagged :
      printed_kerning (backward_pair (backward_line 0 (1 ∷ 2 ∷ [])))
      ≡ shows_positions two_glyphs_marked (along_x (pos 490) (negsuc 9) ∷ along_x (pos 490) (pos 0) ∷ [])
  pub one_glyph_stays :
      printed_kerning (backward_pair (backward_line 1 (2 ∷ [])))
      ≡ shows_positions (glyph 2 1 8 ∷ []) (untouched_position ∷ [])
  -- within a cluster no glyph is flagged
  pub within_cluster :
      kern_pairs LeftToRight (one_pair (negsuc 24)) (glyph 1 0 8 ∷ glyph 2 0 8 ∷ [])
      ≡ shows_positions (glyph 1 0 8 ∷ glyph 2 0 8 ∷ [])
      (along_x (pos 487) (pos 0) ∷ along_x (pos 488) (negsuc 11) ∷ [])
  -- a skipped glyph is the left one of a pair where it begins the line, and not where a solid one stands before it
  pub before_skipped :
      kern_pairs LeftToRight ((3, 2, negsuc 24) ∷ []) (with_middle (skipped_mark 3 1 8))
      ≡ shows_positions (with_middle (skipped_mark 3 1 8)) (untouched_position ∷ two_untouched)
  pub from_skipped :
      kern_pairs LeftToRight ((3, 2, negsuc 24) ∷ []) (skipped_mark 3 1 8 ∷ glyph 2 2 8 ∷ [])
      ≡ shows_positions (skipped_mark 3 1 8 ∷ glyph 2 2 11 ∷ [])
      (along_x (pos 487) (pos 0) ∷ along_x (pos 488) (negsuc 11) ∷ [])
  -- by a kern mask of UNSAFE_TO_CONCAT (2) a line pairs where its buffer asks for that mark, and else it does not
  pub mask_unasked :
      printed_kerning (kern_positioning true 2 (kern_subtable (pairs_of_kern (one_pair (negsuc 24))) ∷ []) in_a_row)
      ≡ shows_positions two_glyphs two_untouched
  pub mask_asked :
      printed_kerning
      (kern_positioning true 2 (kern_subtable (pairs_of_kern (one_pair (negsuc 24))) ∷ []) asking_for_concat)
      ≡ shows_positions (glyph 1 0 10 ∷ glyph 2 1 11 ∷ [])
      (along_x (pos 487) (pos 0) ∷ along_x (pos 488) (negsuc 11) ∷ [])
  -- a machine moves 1 where 2 stands behind it, and flags neither (row 18a); it leaves 1 alone where it is
  pub machine_alone : positions_of (kern_machine many (1 ∷ [])) ≡ untouched_position ∷ []

-- all of them
pub record KerningExamples : Type 0 where
  pub pairs : PairExamples
  pub cut : CutExamples
  pub machines : MachineExamples
  pub stack : StackExamples
  pub anchors : AnchorExamples
  pub positioning : PositioningExamples
  pub order : OrderExamples
