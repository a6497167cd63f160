-- The worked rows of ligature subtables.
use Rattle.std.specs.Prelude.{◌≡◌, ℕ, pos, ◌==◌, not, List, [], ◌∷◌, ◌++◌, replicate}
use Rattle.aat_glyph.specs.declared.glyph.hb_glyph_info_t.{hb_glyph_info_t}
use Rattle.aat_buffer.specs.Removal.{removed, is_deleted}
use Rattle.aat_machine_tables.specs.declared.state_table.GenericStateEntry.{GenericStateEntry}
use Rattle.aat_machine_tables.specs.declared.morx.SubtableKind.{SubtableKind}
use Rattle.aat_morx.specs.Rows.{substituted_by, row_on, row_of_sizes, row, sizes, subtable}
use Rattle.aat_run.specs.Rows.{shows, shows_with, Printed, glyph, rising_from, deleted_in, deleted_from, table, entry, buffer_with, many}

-- 10 has class 4 and 11 class 5; two component values of 0, and one ligature
abbrev pub joining : List (ℕ × ℕ × GenericStateEntry ℕ) → List ℕ → SubtableKind
joining listed actions =
    SubtableKind.Ligature (record {
      state = table 0 6 ((10, 4) ∷ (11, 5) ∷ []) listed;
      actions = actions;
      components = 0 ∷ 0 ∷ [];
      ligatures = record { 0 = 20 } ∷ [];
    })

-- 10 is held as a component, and 11 behind it takes both in
abbrev pub pair : List (ℕ × ℕ × GenericStateEntry ℕ)
pair = (0, 4, entry 1 0x8000 0) ∷ (1, 5, entry 0 0xA000 0) ∷ []

-- two actions whose offset is -10; the second is the last one
abbrev pub two : List ℕ
two = 0x3FFFFFF6 ∷ 0xBFFFFFF6 ∷ []

-- each 10 is held, and 11 takes all in
abbrev pub wrapping : List ℕ → SubtableKind
wrapping actions = joining ((0, 4, entry 0 0x8000 0) ∷ (0, 5, entry 0 0xA000 0) ∷ []) actions

-- with so many slots
abbrev pub sized_row : ℕ → SubtableKind → List hb_glyph_info_t → Printed
sized_row slots kind line = row_of_sizes (record sizes { slots = slots }) kind line

-- 10, 11 and 12 are joined by three actions, of which the second one stores
abbrev pub storing : SubtableKind
storing =
    SubtableKind.Ligature (record {
      state = table 0 7 ((10, 4) ∷ (11, 5) ∷ (12, 6) ∷ [])
          ((0, 4, entry 1 0x8000 0) ∷ (1, 5, entry 1 0x8000 0) ∷ (1, 6, entry 0 0xA000 0) ∷ []);
      actions = 0x3FFFFFF6 ∷ 0x7FFFFFF6 ∷ 0xBFFFFFF6 ∷ [];
      components = 1 ∷ 1 ∷ 0 ∷ [];
      ligatures = record { 0 = 20 } ∷ record { 0 = 21 } ∷ record { 0 = 22 } ∷ [];
    })

-- the sum of the components leads past the one ligature
abbrev pub without_ligature : SubtableKind
without_ligature =
    SubtableKind.Ligature (record {
      state = table 0 6 ((10, 4) ∷ (11, 5) ∷ []) pair;
      actions = two;
      components = 0 ∷ 1 ∷ [];
      ligatures = record { 0 = 20 } ∷ [];
    })

-- a 4 is held, and a 1 behind it takes all in: a 4 becomes the ligature 3. Each entry goes to state 0
abbrev pub four_then_one : SubtableKind
four_then_one =
    SubtableKind.Ligature (record {
      state = table 0 5 ((1, 3) ∷ (4, 4) ∷ []) ((0, 3, entry 0 0x2000 0) ∷ (0, 4, entry 0 0x8000 0) ∷ []);
      actions = 0xFFFFFFFF ∷ [];
      components = 0 ∷ 0 ∷ 1 ∷ 0 ∷ [];
      ligatures = record { 0 = 3 } ∷ [];
    })

-- the rows, and what else is shown of ligatures
pub record LigatureRows : Type 0 where
  pub row_11a : row (joining pair two) (rising_from 0 (10 ∷ 11 ∷ [])) ≡ shows (glyph 20 0 0 ∷ deleted_in 0 ∷ []) 3
  pub row_11b :
      (removed is_deleted (substituted_by (subtable (joining pair two) ∷ [])
      (buffer_with (rising_from 0 (10 ∷ 11 ∷ [])) many)).buffer).line
      ≡ glyph 20 0 0 ∷ []
  -- a glyph that is off in between leaves the registers
  pub row_12 :
      row_on (λ x. not (x == 1)) (joining ((0, 5, entry 0 0xA000 0) ∷ pair) two) (rising_from 0 (10 ∷ 50 ∷ 11 ∷ []))
      ≡ shows (glyph 20 0 0 ∷ glyph 50 0 0 ∷ deleted_in 0 ∷ []) 4
  -- a store keeps the sum, and its ligature is taken by the last one
  pub row_24 :
      row storing (rising_from 0 (10 ∷ 11 ∷ 12 ∷ []))
      ≡ shows (glyph 22 0 0 ∷ deleted_in 0 ∷ deleted_in 0 ∷ []) 4
  -- the two newest components stand in the slots of the two oldest, so the ligature is deleted as a component
  pub row_31 :
      row (wrapping (replicate 65 0x3FFFFFF6 ++ 0xBFFFFFF6 ∷ [])) (rising_from 0 (replicate 65 10 ++ 11 ∷ []))
      ≡ shows (rising_from 0 (10 ∷ 10 ∷ []) ++ (deleted_from 2 (replicate 63 0) ++ deleted_in 64 ∷ [])) 67
  -- the last ligature stands behind its components, and nothing merges
  pub row_32 :
      row (wrapping (0x3FFFFFF6 ∷ 0x3FFFFFF6 ∷ 0x7FFFFFF6 ∷ replicate 61 0x3FFFFFF6 ++ 0xBFFF0001 ∷ []))
      (rising_from 0 (replicate 65 10 ++ 11 ∷ []))
      ≡ shows (rising_from 0 (10 ∷ 10 ∷ [])
      ++ (deleted_from 2 (replicate 62 0) ++ deleted_in 63 ∷ record (deleted_in 63) { glyph_id = 20 } ∷ [])) 67
  pub row_37a :
      sized_row 1 (joining pair two) (rising_from 0 (10 ∷ 11 ∷ []))
      ≡ shows (glyph 10 0 0 ∷ record (deleted_in 1) { mask = 3 } ∷ []) 3
  pub row_37b :
      sized_row 2 (joining pair two) (rising_from 0 (10 ∷ 11 ∷ [])) ≡ shows (glyph 20 0 0 ∷ deleted_in 0 ∷ []) 3
  -- a ligature keeps the glyph props of the glyph that it replaces
  pub kept_props :
      row (joining pair two) (record (glyph 10 0 0) { glyph_props = 2 } ∷ glyph 11 1 0 ∷ [])
      ≡ shows (record (glyph 20 0 0) { glyph_props = 2 } ∷ deleted_in 0 ∷ []) 3
  -- an entry that stays holds its glyph once: two components are taken, and the last action is not reached
  pub held_once :
      row (joining ((0, 4, entry 1 0xC000 0) ∷ (1, 4, entry 1 0x8000 0) ∷ (1, 5, entry 0 0xA000 0) ∷ [])
      (0x3FFFFFF6 ∷ two)) (rising_from 0 (10 ∷ 11 ∷ []))
      ≡ shows_with (pos 16383) (glyph 10 0 0 ∷ glyph 11 1 3 ∷ []) 4
  -- a store whose ligature is missing ends the act
  pub missing :
      row without_ligature (rising_from 0 (10 ∷ 11 ∷ []))
      ≡ shows (glyph 10 0 0 ∷ glyph 11 1 3 ∷ []) 3
  -- what is held outlives state 0. In the whole text the first glyph becomes a ligature, and the second one has no mark
  -- that says that it is unsafe to break before it; and yet, shaped in two parts, the first glyph stays
  pub a_register_outlives_the_first_state :
      (row four_then_one (glyph 4 5 0 ∷ glyph 3 6 0 ∷ glyph 1 7 0 ∷ [])
      ≡ shows (glyph 3 5 0 ∷ glyph 3 6 0 ∷ glyph 1 7 3 ∷ []) 4)
      × (row four_then_one (glyph 4 5 0 ∷ []) ≡ shows (glyph 4 5 0 ∷ []) 2)
      × (row four_then_one (glyph 3 6 0 ∷ glyph 1 7 0 ∷ []) ≡ shows (glyph 3 6 0 ∷ glyph 1 7 3 ∷ []) 3)
