-- The worked rows of kerning.
use Rattle.std.specs.Prelude.{◌≡◌, ℕ, ℤ, pos, negsuc, true, false, List, [], ◌∷◌, ◌++◌, Some, None, unwrap_or, replicate}
use Rattle.aat_buffer.specs.Removal.{removed, is_deleted}
use Rattle.aat_glyph.specs.declared.glyph.hb_glyph_info_t.{hb_glyph_info_t}
use Rattle.aat_glyph.specs.declared.glyph.GlyphPosition.{GlyphPosition}
use Rattle.aat_glyph.specs.declared.glyph.Direction.TheVariants.{LeftToRight, RightToLeft}
use Rattle.aat_kerning_tables.specs.AnchorPoints.{Points}
use Rattle.aat_run.specs.Rows.{glyph, buffer_with, many}
use Rattle.aat_kerning_tables.specs.declared.kerx.KerxFormat.TheVariants.{Format0}
use Rattle.aat_kerning.specs.Positioning.{kerx_positioning, kern_positioning}
use Rattle.aat_kerning_machines.specs.Positions.{attached_as}
use Rattle.aat_kerning.specs.RowWords.{position, untouched_position, along_x, PrintedKerning, printed_kerning, shows_positions, shows_three_turns, asking_from, two_glyphs, two_glyphs_marked, buffer_with_advances, kern_subtable, kerx_subtable, by_kern, by_kerx, kern_entries, kerx_entries, anchor_entries, kern_pairs, pairs_of_kern, machine_of_kern, stack_of_kerx, anchors_of_kerx}
use Rattle.aat_kerning.specs.Zeroing.{zeroed}

-- the positions alone
abbrev pub positions_of : PrintedKerning → List GlyphPosition
positions_of k = unwrap_or k.positions []

-- a glyph with the props of a mark, which kerning skips
abbrev pub skipped_mark : ℕ → ℕ → ℕ → hb_glyph_info_t
skipped_mark id cluster flags = record (glyph id cluster flags) { glyph_props = 8 }

-- the pairs of row 16
abbrev pub three_values : List (ℕ × ℕ × ℤ)
three_values = (1, 2, negsuc 19) ∷ (2, 3, pos 0) ∷ (3, 4, pos 10) ∷ []

-- a `kern` machine with the values 20 and 11
abbrev pub kern_machine : ℤ → List ℕ → PrintedKerning
kern_machine budget ids =
    by_kern (kern_subtable (machine_of_kern kern_entries (pos 20 ∷ pos 11 ∷ [])) ∷ [])
    (buffer_with_advances LeftToRight budget (asking_from 0 ids))

-- a `kerx` stack machine with so many tuples
abbrev pub kerx_tuples : ℕ → PrintedKerning
kerx_tuples count =
    by_kerx None
    (record (kerx_subtable (stack_of_kerx kerx_entries (pos 20 ∷ pos 0 ∷ pos 11 ∷ []))) { tuple_count = count } ∷ [])
    (buffer_with_advances LeftToRight many two_glyphs)

-- anchor points of the glyphs 1 and 2
abbrev pub two_points : Points
two_points = (1, record { x = pos 100; y = pos 200 } ∷ []) ∷ (2, record { x = pos 30; y = negsuc 49 } ∷ []) ∷ []

-- a line without its deleted glyphs
abbrev pub line_without_deleted : List hb_glyph_info_t → List hb_glyph_info_t
line_without_deleted line = (removed is_deleted (buffer_with line many)).line

-- the rows that the program prints, with what a test sees of attachments and scratch flags
pub record KerningRows : Type 0 where
  pub row_15a :
      kern_pairs LeftToRight ((1, 2, negsuc 24) ∷ []) two_glyphs
      ≡ shows_positions two_glyphs_marked (along_x (pos 487) (pos 0) ∷ along_x (pos 488) (negsuc 11) ∷ [])
  -- a mark in between is skipped; it has an advance of 0
  pub row_15b :
      by_kern (kern_subtable (pairs_of_kern ((1, 2, negsuc 24) ∷ [])) ∷ [])
      (record (buffer_with (glyph 1 0 8 ∷ skipped_mark 3 1 8 ∷ glyph 2 2 8 ∷ []) many) {
        positions = Some (untouched_position ∷ along_x (pos 0) (pos 0) ∷ untouched_position ∷ []);
      })
      ≡ shows_positions (glyph 1 0 8 ∷ skipped_mark 3 1 11 ∷ glyph 2 2 11 ∷ [])
      (along_x (pos 487) (pos 0) ∷ along_x (pos 0) (pos 0) ∷ along_x (pos 488) (negsuc 11) ∷ [])
  pub row_16 :
      kern_pairs LeftToRight three_values (asking_from 0 (1 ∷ 2 ∷ 3 ∷ 4 ∷ []))
      ≡ shows_positions (glyph 1 0 8 ∷ glyph 2 1 11 ∷ glyph 3 2 8 ∷ glyph 4 3 11 ∷ [])
      (along_x (pos 490) (pos 0) ∷ along_x (pos 490) (negsuc 9)
      ∷ along_x (pos 505) (pos 0) ∷ along_x (pos 505) (pos 5) ∷ [])
  -- cut before glyph 3 the parts give the same
  pub row_16_cut :
      positions_of (kern_pairs LeftToRight three_values (asking_from 0 (1 ∷ 2 ∷ 3 ∷ 4 ∷ [])))
      ≡ positions_of (kern_pairs LeftToRight three_values (asking_from 0 (1 ∷ 2 ∷ [])))
      ++ positions_of (kern_pairs LeftToRight three_values (asking_from 2 (3 ∷ 4 ∷ [])))
  -- right to left
  pub row_17a :
      printed_kerning (kern_positioning false 8 (kern_subtable (pairs_of_kern ((2, 1, negsuc 24) ∷ [])) ∷ [])
      (buffer_with_advances RightToLeft many two_glyphs))
      ≡ shows_positions two_glyphs (untouched_position ∷ untouched_position ∷ [])
  pub row_17b :
      kern_pairs RightToLeft ((2, 1, negsuc 24) ∷ []) two_glyphs
      ≡ shows_positions two_glyphs_marked (along_x (pos 488) (negsuc 11) ∷ along_x (pos 487) (pos 0) ∷ [])
  pub row_18a :
      kern_machine many (1 ∷ 2 ∷ [])
      ≡ shows_three_turns two_glyphs (along_x (pos 510) (pos 10) ∷ along_x (pos 520) (pos 20) ∷ [])
  -- the ninth push clears the stack
  pub row_18b :
      kern_machine many (1 ∷ 1 ∷ 1 ∷ 1 ∷ 1 ∷ 1 ∷ 1 ∷ 1 ∷ 2 ∷ [])
      ≡ record (shows_positions (asking_from 0 (1 ∷ 1 ∷ 1 ∷ 1 ∷ 1 ∷ 1 ∷ 1 ∷ 1 ∷ 2 ∷ []))
      (replicate 9 untouched_position)) {
        turns = 10;
        budget = pos 16375;
      }
  pub row_19a :
      (zeroed (record (buffer_with (glyph 5 0 0 ∷ glyph 65535 1 0 ∷ []) many) {
        positions = Some (replicate 2 (along_x (pos 300) (pos 0)));
      })).positions
      ≡ Some (along_x (pos 300) (pos 0) ∷ along_x (pos 0) (pos 0) ∷ [])
  pub row_19b : line_without_deleted (glyph 65535 0 0 ∷ glyph 5 1 0 ∷ []) ≡ glyph 5 0 0 ∷ []
  pub row_19c : line_without_deleted (glyph 5 1 0 ∷ glyph 65535 0 0 ∷ []) ≡ glyph 5 0 0 ∷ []
  pub row_19d : line_without_deleted (glyph 5 0 0 ∷ glyph 65535 1 0 ∷ []) ≡ glyph 5 0 0 ∷ []
  -- sums wrap
  pub row_20 :
      by_kern (kern_subtable (pairs_of_kern ((1, 2, pos 3) ∷ [])) ∷ [])
      (record (buffer_with two_glyphs many) {
        positions = Some (along_x (pos 2147483647) (pos 0) ∷ untouched_position ∷ []);
      })
      ≡ shows_positions two_glyphs_marked (along_x (negsuc 2147483647) (pos 0) ∷ along_x (pos 502) (pos 2) ∷ [])
  pub row_21 :
      by_kerx (Some two_points) (kerx_subtable (anchors_of_kerx anchor_entries ((0, 0) ∷ [])) ∷ [])
      (buffer_with_advances LeftToRight many two_glyphs)
      ≡ record (shows_three_turns two_glyphs
      (untouched_position ∷ attached_as 1 (negsuc 0) (position (pos 500) (pos 0) (pos 70) (pos 250)) ∷ [])) {
        scratch = 8;
      }
  -- the cursive attachment is made at the first subtable with cross-stream, also where it is skipped
  pub row_28a :
      by_kerx None (record (kerx_subtable (Format0 ((1, 2, negsuc 24) ∷ []))) { has_cross_stream = true } ∷ [])
      (buffer_with_advances LeftToRight many two_glyphs)
      ≡ record (shows_positions two_glyphs_marked
      (attached_as 2 (negsuc 0) untouched_position
      ∷ attached_as 2 (negsuc 0) (position (pos 500) (pos 0) (pos 0) (negsuc 24)) ∷ [])) { scratch = 8 }
  pub row_28b :
      printed_kerning (kerx_positioning false 8 None
      (record (kerx_subtable (Format0 ((1, 2, negsuc 24) ∷ []))) { has_cross_stream = true } ∷ [])
      (buffer_with_advances LeftToRight many two_glyphs))
      ≡ shows_positions two_glyphs
      (attached_as 2 (negsuc 0) untouched_position ∷ attached_as 2 (negsuc 0) untouched_position ∷ [])
  pub row_29a :
      kerx_tuples 2 ≡ shows_three_turns two_glyphs (along_x (pos 510) (pos 10) ∷ along_x (pos 520) (pos 20) ∷ [])
  pub row_29b : kerx_tuples 65536 ≡ shows_three_turns two_glyphs (untouched_position ∷ untouched_position ∷ [])
  pub row_34 :
      kern_machine (negsuc 2147483647) (1 ∷ 2 ∷ [])
      ≡ record (shows_three_turns two_glyphs (along_x (pos 510) (pos 10) ∷ along_x (pos 520) (pos 20) ∷ [])) {
        budget = negsuc 2147483647;
      }
