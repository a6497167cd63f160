-- What is known of spans of a line.
use Rattle.std.specs.Prelude.{◌≡◌, ◌<◌, ◌≤◌, ℕ, List, bit_or, length}
use Rattle.aat_buffer.specs.Buffer.{glyph_at}
use Rattle.aat_buffer.specs.Marks.{cluster_at}
use Rattle.aat_buffer.specs.declared.marked_span.MarkedSpan.{MarkedSpan}
use Rattle.aat_buffer.specs.declared.marked_span.MergedSpan.{MergedSpan}
use Rattle.aat_glyph.specs.declared.glyph.hb_glyph_info_t.{hb_glyph_info_t}

-- a glyph has both break marks
abbrev pub IsMarked : hb_glyph_info_t → Type 0
IsMarked g = bit_or g.mask 3 ≡ g.mask

-- a span of a line has its least cluster, and first at a place, and each glyph above it is marked
pub record HasMarks (gs : List hb_glyph_info_t) (s : MarkedSpan) : Type 0 where
  pub ordered : s.start ≤ s.low
  pub within : s.low < s.end
  pub in_line : s.end ≤ length gs
  pub least : cluster_at gs s.low ≡ s.least
  pub above : (k : ℕ) → s.start ≤ k → k < s.end → s.least ≤ cluster_at gs k
  pub first : (k : ℕ) → s.start ≤ k → k < s.low → s.least < cluster_at gs k
  pub marked : (k : ℕ) → s.start ≤ k → k < s.end → s.least < cluster_at gs k → IsMarked (glyph_at gs k)

-- a span of a line is one cluster
pub record IsMerged (gs : List hb_glyph_info_t) (s : MergedSpan) : Type 0 where
  pub in_line : s.end ≤ length gs
  pub one : (k : ℕ) → s.start ≤ k → k < s.end → cluster_at gs k ≡ s.cluster
