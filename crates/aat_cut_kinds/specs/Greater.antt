-- The mark that tells of a cut between two clusters.
use Rattle.std.specs.Prelude.{◌≡◌, ℕ, ◌-◌, bit_and, nat_lt, List, map, if◌then◌else◌}
use Rattle.aat_buffer.specs.Buffer.{glyph_at}
use Rattle.aat_buffer.specs.Marks.{cluster_at}
use Rattle.aat_glyph.specs.declared.glyph.hb_glyph_info_t.{hb_glyph_info_t}

-- of the glyphs before and at place q, the place of the one with the greater cluster
abbrev pub greater_at : ℕ → List hb_glyph_info_t → ℕ
greater_at q gs = if nat_lt (cluster_at gs (q - 1)) (cluster_at gs q) then q else q - 1

-- a glyph is without UNSAFE_TO_BREAK (1)
abbrev pub IsUnflagged : hb_glyph_info_t → Type 0
IsUnflagged g = bit_and g.mask 1 ≡ 0

-- the clusters along a line
abbrev pub clusters : List hb_glyph_info_t → List ℕ
clusters gs = map (λ g. g.cluster) gs

-- of a line that has the clusters of another one: at place q, the glyph with the greater cluster has the flag
abbrev pub IsFlaggedAt : ℕ → List hb_glyph_info_t → List hb_glyph_info_t → Type 0
IsFlaggedAt q old line = clusters line ≡ clusters old → IsUnflagged (glyph_at line (greater_at q old)) → ⊥
