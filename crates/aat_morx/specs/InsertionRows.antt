-- The worked rows of insertion.
use Rattle.std.specs.Prelude.{◌≡◌, ℕ, pos, negsuc, ◌==◌, not, List, [], ◌∷◌}
use Rattle.aat_machine_tables.specs.declared.state_table.GenericStateEntry.{GenericStateEntry}
use Rattle.aat_lookup.specs.declared.glyph_id.GlyphId.{GlyphId}
use Rattle.aat_machine_tables.specs.declared.entries.InsertionEntryData.{InsertionEntryData}
use Rattle.aat_machine_tables.specs.declared.morx.SubtableKind.{SubtableKind}
use Rattle.aat_morx.specs.Rows.{substituted_by, row_on, row, row_with, subtable}
use Rattle.aat_run.specs.Rows.{shows, shows_with, printed, glyph, rising_from, all_at, table, entry, buffer_with}

abbrev pub with_indexes : ℕ → ℕ → InsertionEntryData
with_indexes current marked = record { current_insert_index = current; marked_insert_index = marked }

abbrev pub id : ℕ → GlyphId
id g = record { 0 = g }

-- 5 has class 4, 6 class 5; 0xFFFF is no index
abbrev pub inserting : List GlyphId → List (ℕ × ℕ × GenericStateEntry InsertionEntryData) → SubtableKind
inserting glyphs listed =
    SubtableKind.Insertion (record {
      state = table (with_indexes 0xFFFF 0xFFFF) 6 ((5, 4) ∷ (6, 5) ∷ []) listed;
      glyphs = glyphs;
    })

-- two glyphs go in before 5
abbrev pub two_before : ℕ → SubtableKind
two_before index = inserting (id 7 ∷ id 8 ∷ []) ((0, 4, entry 0 0x0840 (with_indexes index 0xFFFF)) ∷ [])

-- 5 is marked, and two glyphs go in behind the mark at 6
abbrev pub two_at_mark : SubtableKind
two_at_mark =
    inserting (id 7 ∷ id 8 ∷ [])
    ((0, 4, entry 0 0x8000 (with_indexes 0xFFFF 0xFFFF)) ∷ (0, 5, entry 0 0x0002 (with_indexes 0xFFFF 0)) ∷ [])

pub record InsertionRows : Type 0 where
  pub row_13a : row_with (pos 2) (two_before 0) (glyph 5 3 0 ∷ []) ≡ shows_with (pos 0) (all_at 3 (7 ∷ 8 ∷ 5 ∷ [])) 2
  pub row_13b : row_with (pos 1) (two_before 0) (glyph 5 3 0 ∷ []) ≡ shows_with (negsuc 0) (glyph 5 3 0 ∷ []) 2
  -- nothing goes into an empty line, and it is paid for
  pub row_13c :
      row (inserting (id 7 ∷ id 8 ∷ []) ((0, 0, entry 0 0x0840 (with_indexes 0 0xFFFF)) ∷ [])) []
      ≡ shows_with (pos 16382) [] 1
  -- a run that leaves the list is no run, and it is paid for
  pub row_13d : row (two_before 1) (glyph 5 3 0 ∷ []) ≡ shows_with (pos 16382) (glyph 5 3 0 ∷ []) 2
  pub row_14 :
      row_with (pos 3) (inserting (id 5 ∷ []) ((0, 4, entry 0 0x4820 (with_indexes 0 0xFFFF)) ∷ [])) (glyph 5 0 0 ∷ [])
      ≡ shows_with (negsuc 4) (all_at 0 (5 ∷ 5 ∷ 5 ∷ [])) 5
  -- a marked insertion stops at a budget of 0, where a current one does not
  pub row_25a :
      row_with (pos 3) two_at_mark (rising_from 0 (5 ∷ 6 ∷ []))
      ≡ shows_with (pos 1) (glyph 5 0 0 ∷ glyph 7 0 0 ∷ glyph 8 0 0 ∷ glyph 6 1 3 ∷ []) 3
  pub row_25b :
      row_with (pos 2) two_at_mark (rising_from 0 (5 ∷ 6 ∷ [])) ≡ shows_with (pos 0) (glyph 5 0 0 ∷ glyph 6 1 3 ∷ []) 3
  -- one budget for both subtables
  pub row_27 :
      printed (substituted_by (subtable (two_before 0) ∷ subtable (two_before 0) ∷ [])
      (buffer_with (glyph 5 3 0 ∷ []) (pos 3)))
      ≡ shows_with (negsuc 0) (all_at 3 (7 ∷ 8 ∷ 5 ∷ [])) 6
  -- insertion at the end
  pub row_33 :
      row_with (pos 2) (inserting (id 5 ∷ []) ((0, 0, entry 0 0x4820 (with_indexes 0 0xFFFF)) ∷ [])) (glyph 6 0 0 ∷ [])
      ≡ shows_with (negsuc 0) (all_at 0 (6 ∷ 5 ∷ [])) 4
  -- 0x8000 marks the cursor from before the marked run, so that the end puts its 8 before the 7 and not before the 5
  pub mark_before :
      row (inserting (id 7 ∷ id 8 ∷ [])
      ((0, 4, entry 1 0x8401 (with_indexes 0xFFFF 0)) ∷ (1, 0, entry 0 0x0401 (with_indexes 0xFFFF 1)) ∷ []))
      (glyph 5 0 0 ∷ [])
      ≡ shows_with (pos 16382) (all_at 0 (8 ∷ 7 ∷ 5 ∷ [])) 2
  -- a marked run that leaves the list has no glyphs; it is paid for, and the action goes on with the current one
  pub empty_marked :
      row (inserting (id 7 ∷ []) ((0, 4, entry 0 0x0822 (with_indexes 0 9)) ∷ [])) (glyph 5 0 0 ∷ [])
      ≡ shows_with (pos 16381) (all_at 0 (7 ∷ 5 ∷ [])) 2
  -- at the end the last cluster looked at decides whether the turn is on
  pub off_at_end :
      row_on (λ x. not (x == 1)) (inserting (id 7 ∷ []) ((0, 0, entry 0 0x0020 (with_indexes 0 0xFFFF)) ∷ []))
      (rising_from 0 (5 ∷ 6 ∷ []))
      ≡ shows (rising_from 0 (5 ∷ 6 ∷ [])) 3
  pub on_at_end :
      row_on (λ x. not (x == 0)) (inserting (id 7 ∷ []) ((0, 0, entry 0 0x0020 (with_indexes 0 0xFFFF)) ∷ []))
      (rising_from 0 (5 ∷ 6 ∷ []))
      ≡ shows_with (pos 16383) (glyph 5 0 0 ∷ glyph 6 1 3 ∷ glyph 7 1 3 ∷ []) 3
