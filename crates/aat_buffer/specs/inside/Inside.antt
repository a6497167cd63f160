-- How the fields of a buffer show its value.
use Rattle.std.specs.Prelude.{◌≤◌, ◌≡◌, true, Some, None, IfSome, if◌then◌else◌, length, vec_len}
use Rattle.aat_buffer.specs.Buffer.{Buffer}
use Rattle.aat_buffer.specs.inside.Marked.{HasMarks, IsMerged}
use Rattle.aat_buffer.specs.declared.buffer.hb_buffer_t.TheInside.{Inside}

-- the line, the positions where they stand, and the plain fields
abbrev pub buffer_of : {Z : Type 0} → Inside Z → Buffer
buffer_of a =
    record {
      line = a.line.glyphs;
      cursor = a.line.cursor;
      positions = if a.have_positions then Some a.positions.items else None;
      direction = a.direction;
      cluster_level = a.cluster_level;
      flags = a.flags;
      scratch_flags = a.scratch_flags;
      max_ops = a.max_ops;
      max_len = a.max_len;
      successful = a.successful;
    }

-- the line has at most its greatest length and a position for each glyph where positions stand, and what is known of its
-- spans holds
pub record IsSoundInside {Z : Type 0} (a : Inside Z) : Type 0 where
  pub in_line : a.line.cursor ≤ length a.line.glyphs
  pub within_max : length a.line.glyphs ≤ a.max_len
  pub small : a.max_len ≤ 0x3FFFFFFF
  pub placed : a.have_positions ≡ true → vec_len a.positions ≡ length a.line.glyphs
  pub marked : IfSome a.marked (HasMarks a.line.glyphs)
  pub merged : IfSome a.merged (IsMerged a.line.glyphs)
