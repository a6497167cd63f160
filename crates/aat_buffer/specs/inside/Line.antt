-- What a line of glyphs with a cursor is to the buffer that holds it.
use Rattle.std.specs.Prelude.{ℕ, List, [], ◌∷◌, ◌++◌, ◌+◌, ◌-◌, drop, insert, length, map, remove, reverse, slice_set, take}
use Rattle.std.specs.List.{refill}
use Rattle.aat_buffer.specs.Marks.{on_span}
use Rattle.aat_glyph.specs.declared.glyph.hb_glyph_info_t.{hb_glyph_info_t}

-- the glyphs, and the place of the cursor
pub record Line : Type 0 where
  pub glyphs : List hb_glyph_info_t
  pub cursor : ℕ

-- no glyph
abbrev pub empty_line : Line
empty_line = record { glyphs = []; cursor = 0 }

-- the cursor is at place p
abbrev pub moved_to : Line → ℕ → Line
moved_to l p = record l { cursor = p }

-- the record r stands at place i
abbrev pub with_glyph : Line → ℕ → hb_glyph_info_t → Line
with_glyph l i r = record l { glyphs = slice_set l.glyphs i r }

-- the glyphs from place i up to place j are changed by f
abbrev pub with_changed : Line → (hb_glyph_info_t → hb_glyph_info_t) → ℕ → ℕ → Line
with_changed l f i j = record l { glyphs = on_span (map f) i j l.glyphs }

-- the glyphs from the cursor on are ws, which are as many
abbrev pub with_rest : Line → List hb_glyph_info_t → Line
with_rest l ws =
    record l { glyphs = take l.cursor l.glyphs ++ refill (length l.glyphs - l.cursor) (drop l.cursor l.glyphs) ws }

-- r goes last
abbrev pub with_last : Line → hb_glyph_info_t → Line
with_last l r = record l { glyphs = l.glyphs ++ r ∷ [] }

-- r goes in at the cursor, which moves past it
abbrev pub with_inserted : Line → hb_glyph_info_t → Line
with_inserted l r = record { glyphs = insert l.glyphs l.cursor r; cursor = l.cursor + 1 }

-- the glyphs gs go in at place i, and the cursor moves on by their number
abbrev pub with_all_inserted : Line → ℕ → List hb_glyph_info_t → Line
with_all_inserted l i gs = record {
  glyphs = take i l.glyphs ++ (gs ++ drop i l.glyphs);
  cursor = l.cursor + length gs;
}

-- the glyph at the cursor goes
abbrev pub without_current : Line → Line
without_current l = record l { glyphs = remove l.glyphs l.cursor }

-- the glyphs in the opposite order
abbrev pub turned_line : Line → Line
turned_line l = record l { glyphs = reverse l.glyphs }
