-- Positions, along the line and across it. TrueType Reference Manual: The 'kern' table and The 'kerx' table.
use Rattle.std.specs.Prelude.{◌≡◌, ℕ, ℤ, Bool, true, false, length, map, option_map, bit_or}
use Rattle.std.specs.Int.{int_wrapping_add, w32}
use Rattle.aat_buffer.specs.Buffer.{Buffer, position_at, position_list, with_position}
use Rattle.aat_glyph.specs.declared.glyph.GlyphPosition.{GlyphPosition}

-- each glyph has its position
abbrev pub IsPlaced : Buffer → Type 0
IsPlaced b = length (position_list b) ≡ length b.line

-- one position is changed
abbrev pub on_position : (GlyphPosition → GlyphPosition) → ℕ → Buffer → Buffer
on_position f i b = with_position b i (f (position_at b i))

-- all positions are changed
abbrev pub on_positions : (GlyphPosition → GlyphPosition) → Buffer → Buffer
on_positions f b = record b { positions = option_map (λ qs. map f qs) b.positions }

-- sums wrap modulo 2 ^ 32
abbrev pub plus : ℤ → ℤ → ℤ
plus x v = int_wrapping_add w32 x v

-- v is added to the advance: in x where the text is horizontal, and else in y
abbrev pub with_advance : Bool → ℤ → GlyphPosition → GlyphPosition
with_advance true v q = record q { x_advance = plus q.x_advance v }
with_advance false v q = record q { y_advance = plus q.y_advance v }

-- v is added to the offset along the line
abbrev pub with_shift : Bool → ℤ → GlyphPosition → GlyphPosition
with_shift true v q = record q { x_offset = plus q.x_offset v }
with_shift false v q = record q { y_offset = plus q.y_offset v }

-- the offset across the line: in y where the text is horizontal, and else in x
abbrev pub cross_offset : Bool → GlyphPosition → ℤ
cross_offset true q = q.y_offset
cross_offset false q = q.x_offset

-- the offset across the line becomes v
abbrev pub with_cross_offset : Bool → ℤ → GlyphPosition → GlyphPosition
with_cross_offset true v q = record q { y_offset = v }
with_cross_offset false v q = record q { x_offset = v }

-- the scratch flag HAS_GPOS_ATTACHMENT: the buffer remembers that offsets are to be added up along the attachments
abbrev pub with_attachment_flag : Buffer → Buffer
with_attachment_flag b = record b { scratch_flags = record { 0 = bit_or b.scratch_flags.0 0x08 } }

-- the attach type (0 none, 1 a mark, 2 a cursive glyph), and the chain: how many places on the glyph stands that this
-- one is attached to. An anchor's chain is counted in the order in which the machine takes the glyphs. A line that was
-- turned round for it is then turned back and the chain is not, so there it points the other way. Where glyphs are
-- removed later, chains stay as they are, so one may lead to another glyph or past the line. (No chapter of the manual:
-- both are the shaper's own.)
abbrev pub attached_as : ℕ → ℤ → GlyphPosition → GlyphPosition
attached_as kind chain q = record q { attach_type = kind; attach_chain = chain }
