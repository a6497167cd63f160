-- What a buffer is to its callers, and what each plain call leaves of it.
use Rattle.std.specs.Prelude.{min, option_map, pos, reverse, replicate, unwrap_or, ◌+◌, remove, insert, ◌-◌, nat_lt, if◌then◌else◌, ℕ, ℤ, ◌≤◌, Bool, true, false, List, [], ◌∷◌, ◌++◌, Option, Some, None, length, take, drop, slice_index_or, slice_set}
use Rattle.std.specs.List.{refill}
use Rattle.aat_glyph.specs.declared.glyph.hb_glyph_info_t.{hb_glyph_info_t}
use Rattle.aat_glyph.specs.declared.glyph.GlyphPosition.{GlyphPosition}
use Rattle.aat_glyph.specs.declared.glyph.Direction.{Direction}
use Rattle.aat_glyph.specs.declared.glyph.Direction.TheVariants.{LeftToRight}
use Rattle.aat_glyph.specs.declared.flags.BufferFlags.{BufferFlags}
use Rattle.aat_glyph.specs.declared.flags.ScratchFlags.{ScratchFlags}

-- a line of glyphs with a cursor, the positions where they stand, and the plain fields
pub record Buffer : Type 0 where
  pub line : List hb_glyph_info_t
  pub cursor : ℕ
  pub positions : Option (List GlyphPosition)
  pub direction : Direction
  pub cluster_level : ℕ
  pub flags : BufferFlags
  pub scratch_flags : ScratchFlags
  pub max_ops : ℤ
  pub max_len : ℕ
  pub successful : Bool

-- an empty line without positions, left to right, with no flag
abbrev pub empty_buffer : ℕ → ℤ → Buffer
empty_buffer most ops =
    record {
      line = [];
      cursor = 0;
      positions = None;
      direction = LeftToRight;
      cluster_level = 0;
      flags = record { 0 = 0 };
      scratch_flags = record { 0 = 0 };
      max_ops = ops;
      max_len = most;
      successful = true;
    }

-- the line is gs
abbrev pub with_line : Buffer → List hb_glyph_info_t → Buffer
with_line b gs = record b { line = gs }

-- the cursor is at place p
abbrev pub with_cursor : Buffer → ℕ → Buffer
with_cursor b p = record b { cursor = p }

-- the direction is d
abbrev pub with_direction : Buffer → Direction → Buffer
with_direction b d = record b { direction = d }

-- the cluster level is this
abbrev pub with_cluster_level : Buffer → ℕ → Buffer
with_cluster_level b level = record b { cluster_level = level }

-- the flags are these
abbrev pub with_flags : Buffer → BufferFlags → Buffer
with_flags b flags = record b { flags = flags }

-- the scratch flags are these
abbrev pub with_scratch_flags : Buffer → ScratchFlags → Buffer
with_scratch_flags b flags = record b { scratch_flags = flags }

-- the budget is this
abbrev pub with_max_ops : Buffer → ℤ → Buffer
with_max_ops b ops = record b { max_ops = ops }

-- a call was refused
abbrev pub failed : Buffer → Buffer
failed b = record b { successful = false }

-- a glyph that is all zero
abbrev pub no_glyph : hb_glyph_info_t
no_glyph = record { glyph_id = 0; mask = 0; cluster = 0; glyph_props = 0; unicode_props = 0 }

-- the glyph at place i
abbrev pub glyph_at : List hb_glyph_info_t → ℕ → hb_glyph_info_t
glyph_at gs i = slice_index_or gs i no_glyph

-- the record r stands at place i
abbrev pub with_info : Buffer → ℕ → hb_glyph_info_t → Buffer
with_info b i r = record b { line = slice_set b.line i r }

-- the record r stands at place i, but for the cluster and the mask, which stay
abbrev pub rewritten : List hb_glyph_info_t → ℕ → hb_glyph_info_t → hb_glyph_info_t
rewritten gs i r = record r { mask = (glyph_at gs i).mask; cluster = (glyph_at gs i).cluster }

-- the same on the line of a buffer
abbrev pub with_rewritten : Buffer → ℕ → hb_glyph_info_t → Buffer
with_rewritten b i r = with_info b i (rewritten b.line i r)

-- the glyphs from the cursor on are ws, which are as many
abbrev pub with_from_cursor : Buffer → List hb_glyph_info_t → Buffer
with_from_cursor b ws =
    record b { line = take b.cursor b.line ++ refill (length b.line - b.cursor) (drop b.cursor b.line) ws }

-- the glyph at place i gets the glyph id g
abbrev pub with_glyph_id : Buffer → ℕ → ℕ → Buffer
with_glyph_id b i g = with_info b i (record (glyph_at b.line i) { glyph_id = g })

-- the glyph id has 16 bits
abbrev pub Is16Bit : hb_glyph_info_t → Type 0
Is16Bit g = g.glyph_id ≤ 65535

-- r goes last, and the positions are dropped
abbrev pub added : Buffer → hb_glyph_info_t → Buffer
added b r = record b { line = b.line ++ r ∷ []; positions = None }

-- no positions stand
abbrev pub without_positions : Buffer → Buffer
without_positions b = record b { positions = None }

-- the positions qs stand
abbrev pub with_positions : Buffer → List GlyphPosition → Buffer
with_positions b qs = record b { positions = Some qs }

-- the glyph at the cursor goes, and the positions are dropped
abbrev pub skipped : Buffer → Buffer
skipped b = record b { line = remove b.line b.cursor; positions = None }

-- the glyph that one put in at place i is a copy of: that at place i, or the last one where i is past the line
abbrev pub model_at : List hb_glyph_info_t → ℕ → hb_glyph_info_t
model_at gs i = glyph_at gs (min i (length gs - 1))

-- a copy with the glyph id g goes in at the cursor, which moves past it; nothing goes into an empty line; the
-- positions are dropped
abbrev pub output : Buffer → ℕ → Buffer
output b g =
    if nat_lt 0 (length b.line)
    then (record b {
      line = insert b.line b.cursor (record (model_at b.line b.cursor) { glyph_id = g });
      cursor = b.cursor + 1;
      positions = None;
    })
    else record b { positions = None }

-- the glyphs gs go in at place i, and the cursor moves on by their number; the positions are dropped
abbrev pub with_glyphs_at : Buffer → ℕ → List hb_glyph_info_t → Buffer
with_glyphs_at b i gs =
    record b { line = take i b.line ++ (gs ++ drop i b.line); cursor = b.cursor + length gs; positions = None }

-- the glyphs gs go in at the cursor, which moves past them; the positions are dropped
abbrev pub with_glyphs_in : Buffer → List hb_glyph_info_t → Buffer
with_glyphs_in b gs = with_glyphs_at b b.cursor gs

-- the glyph at the cursor gets the glyph id g, and the cursor moves on
abbrev pub replaced : Buffer → ℕ → Buffer
replaced b g = with_cursor (with_glyph_id b b.cursor g) (b.cursor + 1)

-- line and positions in the opposite order
abbrev pub reversed : Buffer → Buffer
reversed b = record b { line = reverse b.line; positions = option_map reverse b.positions }

-- a position that is all zero
abbrev pub zero_position : GlyphPosition
zero_position =
    record {
      x_advance = pos 0;
      y_advance = pos 0;
      x_offset = pos 0;
      y_offset = pos 0;
      attach_type = 0;
      attach_chain = pos 0;
    }

-- one position a glyph, all zero
abbrev pub with_zero_positions : Buffer → Buffer
with_zero_positions b = record b { positions = Some (replicate (length b.line) zero_position) }

-- the positions, and an empty list where none stand
abbrev pub position_list : Buffer → List GlyphPosition
position_list b = unwrap_or b.positions []

-- the position at place i
abbrev pub position_at : Buffer → ℕ → GlyphPosition
position_at b i = slice_index_or (position_list b) i zero_position

-- the position r stands at place i
abbrev pub with_position : Buffer → ℕ → GlyphPosition → Buffer
with_position b i r = record b { positions = Some (slice_set (position_list b) i r) }

-- the positions from the cursor on are ws, which are as many
abbrev pub with_positions_from_cursor : Buffer → List GlyphPosition → Buffer
with_positions_from_cursor b ws =
    let qs = position_list b in
    record b { positions = Some (take b.cursor qs ++ refill (length qs - b.cursor) (drop b.cursor qs) ws) }
