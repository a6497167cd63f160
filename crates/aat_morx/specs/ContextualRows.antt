-- The worked rows of contextual and noncontextual subtables.
use Rattle.std.specs.Prelude.{◌≡◌, ℕ, ◌==◌, not, List, [], ◌∷◌, Some}
use Rattle.aat_glyph.specs.declared.glyph.hb_glyph_info_t.{hb_glyph_info_t}
use Rattle.aat_machine_tables.specs.declared.state_table.GenericStateEntry.{GenericStateEntry}
use Rattle.aat_machine_tables.specs.declared.entries.ContextualEntryData.{ContextualEntryData}
use Rattle.aat_machine_tables.specs.declared.morx.SubtableKind.{SubtableKind}
use Rattle.aat_morx.specs.Rows.{row_on, row_of_sizes, row, sizes}
use Rattle.aat_run.specs.Rows.{shows, Printed, glyph, rising_from, table, entry}

-- the look-ups that an entry asks for the marked glyph and for the one at the cursor
abbrev pub with_lookups : ℕ → ℕ → ContextualEntryData
with_lookups mark current = record { mark_index = mark; current_index = current }

-- a table over one class and entries; 0xFFFF is no index
abbrev pub replacing : ℕ → List (ℕ × ℕ) → List (ℕ × ℕ × GenericStateEntry ContextualEntryData) → SubtableKind
replacing glyph lookup listed =
    SubtableKind.Contextual (record {
      state = table (with_lookups 0xFFFF 0xFFFF) 6 ((glyph, 4) ∷ []) listed;
      lookups = lookup ∷ [];
    })

-- one look-up, 1 to 2; the end asks for the marked glyph
abbrev pub at_end : List (ℕ × ℕ × GenericStateEntry ContextualEntryData) → SubtableKind
at_end listed = replacing 1 ((1, 2) ∷ []) ((0, 0, entry 0 0 (with_lookups 0 0xFFFF)) ∷ listed)

-- with glyph classes
abbrev pub classed_row : SubtableKind → List hb_glyph_info_t → Printed
classed_row kind line = row_of_sizes (record sizes { classes = Some ((2, 8) ∷ []) }) kind line

pub record ContextualRows : Type 0 where
  -- a noncontextual map takes as many turns as there are glyphs
  pub row_1 :
      row (SubtableKind.NonContextual ((5, 9) ∷ [])) (rising_from 0 (5 ∷ 6 ∷ 5 ∷ []))
      ≡ shows (glyph 9 0 0 ∷ glyph 6 1 0 ∷ glyph 9 2 0 ∷ []) 3
  -- each glyph by its own cluster, whichever way the clusters run
  pub by_own_cluster :
      row_on (λ x. not (x == 1)) (SubtableKind.NonContextual ((5, 9) ∷ []))
      (glyph 5 2 0 ∷ glyph 5 1 0 ∷ glyph 5 0 0 ∷ [])
      ≡ shows (glyph 9 2 0 ∷ glyph 5 1 0 ∷ glyph 9 0 0 ∷ []) 3
  -- no mark was set, so the end does nothing
  pub row_10a : row (at_end []) (rising_from 0 (1 ∷ [])) ≡ shows (rising_from 0 (1 ∷ [])) 2
  pub row_10b :
      row (at_end ((0, 4, entry 0 0x8000 (with_lookups 0xFFFF 0xFFFF)) ∷ [])) (rising_from 0 (1 ∷ 7 ∷ []))
      ≡ shows (glyph 2 0 0 ∷ glyph 7 1 3 ∷ []) 3
  -- the missing lookup ends the action before the glyph at the cursor and before the mark
  pub row_10c :
      row (at_end ((0, 4, entry 0 0x8000 (with_lookups 5 0)) ∷ [])) (rising_from 0 (1 ∷ 7 ∷ []))
      ≡ shows (glyph 1 0 0 ∷ glyph 7 1 3 ∷ []) 3
  -- the deleted glyph is of class 2, whatever the list says
  pub row_35 :
      row (replacing 65535 ((65535, 9) ∷ []) ((0, 4, entry 0 0 (with_lookups 0xFFFF 0)) ∷ []))
      (rising_from 0 (65535 ∷ []))
      ≡ shows (rising_from 0 (65535 ∷ [])) 2
  -- both indexes at one place: the second look-up sees what the first one left there
  pub one_place :
      row (replacing 1 ((1, 2) ∷ (2, 3) ∷ []) ((0, 4, entry 0 0 (with_lookups 0 0)) ∷ [])) (rising_from 0 (1 ∷ []))
      ≡ shows (rising_from 0 (3 ∷ [])) 2
  -- a replaced glyph gets the props of its new id, where the font has glyph classes
  pub new_props :
      classed_row (replacing 1 ((1, 2) ∷ []) ((0, 4, entry 0 0 (with_lookups 0xFFFF 0)) ∷ []))
      (rising_from 0 (1 ∷ 7 ∷ []))
      ≡ shows (record (glyph 2 0 0) { glyph_props = 8 } ∷ glyph 7 1 0 ∷ []) 3
