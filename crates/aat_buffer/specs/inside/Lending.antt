-- What a borrow leaves in the buffer.
use Rattle.std.specs.Prelude.{ℕ, List}
use denote.RattleType.{RattleType}
use Rattle.std.specs.declared.alloc.Allocator.{Ghosts}
use Rattle.std.specs.Borrow.{Array, Lends, MutBor, Fml}
use Rattle.aat_buffer.specs.Buffer.{Buffer, with_from_cursor, with_position, with_positions_from_cursor, with_info}
use Rattle.aat_glyph.specs.declared.glyph.hb_glyph_info_t.{hb_glyph_info_t}
use Rattle.aat_glyph.specs.contracts.glyph.hb_glyph_info_t.{the_row as glyph_row}
use Rattle.aat_glyph.specs.declared.glyph.GlyphPosition.{GlyphPosition}
use Rattle.aat_glyph.specs.contracts.glyph.GlyphPosition.{the_row as position_row}
use Rattle.aat_buffer.specs.contracts.buffer.hb_buffer_t.{the_row as buffer_row}

-- the buffer ends with the glyph at place i as it was last written through r
abbrev pub LendsInfo : (A : RattleType) → Ghosts A.Denot → MutBor Buffer → ℕ → MutBor hb_glyph_info_t → Fml
LendsInfo A heap s i r = Lends (buffer_row A heap) glyph_row s r (with_info s.now i)

-- the same at the cursor
abbrev pub LendsCur : (A : RattleType) → Ghosts A.Denot → MutBor Buffer → MutBor hb_glyph_info_t → Fml
LendsCur A heap s r = Lends (buffer_row A heap) glyph_row s r (with_info s.now s.now.cursor)

-- the buffer ends with the glyphs from the cursor on as they were last written through r
abbrev pub LendsFromCursor : (A : RattleType) → Ghosts A.Denot → MutBor Buffer → MutBor (List hb_glyph_info_t) → Fml
LendsFromCursor A heap s r = Lends (buffer_row A heap) (Array glyph_row 0) s r (with_from_cursor s.now)

-- the buffer ends with the position at place i as it was last written through r
abbrev pub LendsPosition : (A : RattleType) → Ghosts A.Denot → MutBor Buffer → ℕ → MutBor GlyphPosition → Fml
LendsPosition A heap s i r = Lends (buffer_row A heap) position_row s r (with_position s.now i)

-- the buffer ends with the positions from the cursor on as they were last written through r
abbrev pub LendsPositions : (A : RattleType) → Ghosts A.Denot → MutBor Buffer → MutBor (List GlyphPosition) → Fml
LendsPositions A heap s r = Lends (buffer_row A heap) (Array position_row 0) s r (with_positions_from_cursor s.now)
