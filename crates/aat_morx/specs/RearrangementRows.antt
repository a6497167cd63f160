-- The worked rows of rearrangement.
use Rattle.std.specs.Prelude.{◌≡◌, ℕ, List, [], ◌∷◌, ◌++◌, map, replicate, bit_or}
use Rattle.aat_glyph.specs.declared.glyph.hb_glyph_info_t.{hb_glyph_info_t}
use Rattle.aat_glyph.specs.declared.glyph.Direction.{Direction}
use Rattle.aat_glyph.specs.declared.glyph.Direction.TheVariants.{RightToLeft, TopToBottom}
use Rattle.aat_machine_tables.specs.declared.morx.SubtableKind.{SubtableKind}
use Rattle.aat_morx.specs.Rows.{substituted_by, row_of_sizes, row, sizes, subtable}
use Rattle.aat_kinds.specs.Rearrangement.{rearranged, verbs}
use Rattle.aat_run.specs.Rows.{shows, printed, Printed, glyph, rising_from, all_at, table, entry, buffer_with, many}

-- the first glyph has class 4, which marks the start, and the last class 5, which marks the end and has the verb
abbrev pub moving : ℕ → ℕ → ℕ → SubtableKind
moving first last verb =
    SubtableKind.Rearrangement
    (table tt 6 ((first, 4) ∷ (last, 5) ∷ [])
    ((0, 4, entry 0 0x8000 tt) ∷ (0, 5, entry 0 (bit_or 0x2000 verb) tt) ∷ []))

-- such a subtable with a bound of its own
abbrev pub bounded_row : ℕ → SubtableKind → List hb_glyph_info_t → Printed
bounded_row bound kind line = row_of_sizes (record sizes { bound = bound }) kind line

-- verb 1 on the glyphs 1 and 3, in a direction and with a coverage
abbrev pub turned_row : Direction → ℕ → Printed
turned_row direction coverage =
    printed (substituted_by (record (subtable (moving 1 3 1)) { coverage = record { 0 = coverage } } ∷ [])
    (record (buffer_with (rising_from 0 (1 ∷ 3 ∷ [])) many) { direction = direction }))

-- a cluster level, and flags of the buffer
abbrev pub levelled_row : ℕ → ℕ → Printed
levelled_row level flags =
    printed (substituted_by (subtable (moving 1 5 5) ∷ [])
    (record (buffer_with (rising_from 0 (1 ∷ 2 ∷ 5 ∷ [])) many) {
      cluster_level = level;
      flags = record { 0 = flags };
    }))

-- the letters A B x C D are the glyphs 1 2 3 4 5
pub record RearrangementRows : Type 0 where
  pub row_8a : row (moving 1 3 1) (rising_from 0 (1 ∷ 3 ∷ [])) ≡ shows (all_at 0 (3 ∷ 1 ∷ [])) 3
  pub row_8b : row (moving 1 3 5) (rising_from 0 (1 ∷ 2 ∷ 3 ∷ [])) ≡ shows (all_at 0 (3 ∷ 2 ∷ 1 ∷ [])) 4
  pub row_8c : row (moving 3 5 7) (rising_from 0 (3 ∷ 4 ∷ 5 ∷ [])) ≡ shows (all_at 0 (5 ∷ 4 ∷ 3 ∷ [])) 4
  pub row_8d : row (moving 1 5 11) (rising_from 0 (1 ∷ 2 ∷ 3 ∷ 5 ∷ [])) ≡ shows (all_at 0 (5 ∷ 3 ∷ 2 ∷ 1 ∷ [])) 5
  pub row_8e :
      row (moving 1 5 12) (rising_from 0 (1 ∷ 2 ∷ 3 ∷ 4 ∷ 5 ∷ [])) ≡ shows (all_at 0 (4 ∷ 5 ∷ 3 ∷ 1 ∷ 2 ∷ [])) 6
  pub row_8f :
      row (moving 1 5 15) (rising_from 0 (1 ∷ 2 ∷ 3 ∷ 4 ∷ 5 ∷ [])) ≡ shows (all_at 0 (5 ∷ 4 ∷ 3 ∷ 2 ∷ 1 ∷ [])) 6
  pub row_9a :
      row (moving 10 12 1) (rising_from 0 (10 ∷ replicate 62 11 ++ 12 ∷ []))
      ≡ shows (all_at 0 (replicate 62 11 ++ 12 ∷ 10 ∷ [])) 65
  pub row_9b :
      row (moving 10 12 1) (rising_from 0 (10 ∷ replicate 63 11 ++ 12 ∷ []))
      ≡ shows (rising_from 0 (10 ∷ replicate 63 11 ++ 12 ∷ [])) 66
  -- a state table without rules
  pub row_22 :
      row (SubtableKind.Rearrangement (record { class_count = 6; classes = []; rules = [] })) (rising_from 0 (5 ∷ []))
      ≡ shows (rising_from 0 (5 ∷ [])) 1
  -- the first merge reaches past the span, and the mark set before the last glyph goes with its cluster
  pub row_23 :
      row (SubtableKind.Rearrangement
      (table tt 7 ((1, 4) ∷ (2, 5) ∷ (3, 6) ∷ [])
      ((0, 4, entry 0 0x8000 tt) ∷ (0, 5, entry 0 0x2000 tt) ∷ (0, 6, entry 0 0x0001 tt) ∷ [])))
      (rising_from 0 (1 ∷ 2 ∷ 3 ∷ []))
      ≡ shows (all_at 0 (2 ∷ 1 ∷ 3 ∷ [])) 4
  -- right to left the line is processed from its end, unless the subtable is in logical order
  pub row_26a : turned_row RightToLeft 0x20 ≡ shows (rising_from 0 (1 ∷ 3 ∷ [])) 3
  pub row_26b : turned_row RightToLeft 0x30 ≡ shows (all_at 0 (3 ∷ 1 ∷ [])) 3
  pub row_26c : turned_row TopToBottom 0x00 ≡ shows (rising_from 0 (1 ∷ 3 ∷ [])) 0
  pub row_36a :
      bounded_row 3 (moving 10 12 1) (rising_from 0 (10 ∷ 11 ∷ 12 ∷ [])) ≡ shows (all_at 0 (11 ∷ 12 ∷ 10 ∷ [])) 4
  pub row_36b :
      bounded_row 2 (moving 10 12 1) (rising_from 0 (10 ∷ 11 ∷ 12 ∷ [])) ≡ shows (rising_from 0 (10 ∷ 11 ∷ 12 ∷ [])) 4
  -- level 1 merges as level 0 does; level 2 marks the glyphs above the least cluster in place of a merge
  pub level_1 : levelled_row 1 0 ≡ shows (all_at 0 (5 ∷ 2 ∷ 1 ∷ [])) 4
  pub level_2 : levelled_row 2 0 ≡ shows (glyph 5 2 3 ∷ glyph 2 1 3 ∷ glyph 1 0 0 ∷ []) 4
  -- the whole line is marked first where the buffer asks for it; a cluster that changes loses the mark
  pub concat : levelled_row 0 0x40 ≡ shows (glyph 5 0 0 ∷ glyph 2 0 0 ∷ glyph 1 0 2 ∷ []) 4
  -- the sixteen verbs on five glyphs
  pub all_verbs :
      map (λ v. rearranged {X = ℕ} v (1 ∷ 2 ∷ 3 ∷ 4 ∷ 5 ∷ [])) verbs
      ≡ (1 ∷ 2 ∷ 3 ∷ 4 ∷ 5 ∷ [])
      ∷ (2 ∷ 3 ∷ 4 ∷ 5 ∷ 1 ∷ [])
      ∷ (5 ∷ 1 ∷ 2 ∷ 3 ∷ 4 ∷ [])
      ∷ (5 ∷ 2 ∷ 3 ∷ 4 ∷ 1 ∷ [])
      ∷ (3 ∷ 4 ∷ 5 ∷ 1 ∷ 2 ∷ [])
      ∷ (3 ∷ 4 ∷ 5 ∷ 2 ∷ 1 ∷ [])
      ∷ (4 ∷ 5 ∷ 1 ∷ 2 ∷ 3 ∷ [])
      ∷ (5 ∷ 4 ∷ 1 ∷ 2 ∷ 3 ∷ [])
      ∷ (4 ∷ 5 ∷ 2 ∷ 3 ∷ 1 ∷ [])
      ∷ (5 ∷ 4 ∷ 2 ∷ 3 ∷ 1 ∷ [])
      ∷ (5 ∷ 3 ∷ 4 ∷ 1 ∷ 2 ∷ [])
      ∷ (5 ∷ 3 ∷ 4 ∷ 2 ∷ 1 ∷ [])
      ∷ (4 ∷ 5 ∷ 3 ∷ 1 ∷ 2 ∷ [])
      ∷ (4 ∷ 5 ∷ 3 ∷ 2 ∷ 1 ∷ [])
      ∷ (5 ∷ 4 ∷ 3 ∷ 1 ∷ 2 ∷ [])
      ∷ (5 ∷ 4 ∷ 3 ∷ 2 ∷ 1 ∷ [])
      ∷ []
