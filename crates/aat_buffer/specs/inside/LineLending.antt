-- What a borrow leaves in a line.
use Rattle.std.specs.Prelude.{ℕ, List}
use denote.RattleType.{RattleType}
use Rattle.std.specs.declared.alloc.Allocator.{Ghosts}
use Rattle.std.specs.Borrow.{Array, Lends, MutBor, Fml}
use Rattle.aat_buffer.specs.inside.Line.{Line, with_glyph, with_rest}
use Rattle.aat_buffer.specs.contracts.gap_line.GapLine.{the_row as line_row}
use Rattle.aat_glyph.specs.declared.glyph.hb_glyph_info_t.{hb_glyph_info_t}
use Rattle.aat_glyph.specs.contracts.glyph.hb_glyph_info_t.{the_row as glyph_row}

-- the line ends with the glyph at place i as it was last written through r
abbrev pub LendsGlyph : (A : RattleType) → Ghosts A.Denot → MutBor Line → ℕ → MutBor hb_glyph_info_t → Fml
LendsGlyph A heap s i r = Lends (line_row A heap) glyph_row s r (with_glyph s.now i)

-- the line ends with the glyphs from the cursor on as they were last written through r
abbrev pub LendsRest : (A : RattleType) → Ghosts A.Denot → MutBor Line → MutBor (List hb_glyph_info_t) → Fml
LendsRest A heap s r = Lends (line_row A heap) (Array glyph_row 0) s r (with_rest s.now)
