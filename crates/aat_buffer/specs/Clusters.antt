-- What a line keeps where it is edited: its glyph ids, the order of its clusters, and where they come from.
use Rattle.std.specs.Prelude.{◌≡◌, ◌≢◌, true, ℕ, ◌<◌, ◌≤◌, List, length, All, AllPairs, map}
use Rattle.aat_buffer.specs.Buffer.{Buffer, Is16Bit}
use Rattle.aat_buffer.specs.Marks.{cluster_at, clusters_stay_apart}
use Rattle.aat_glyph.specs.declared.glyph.hb_glyph_info_t.{hb_glyph_info_t}

-- the glyph ids of a line
abbrev pub ids : List hb_glyph_info_t → List ℕ
ids line = map (λ g. g.glyph_id) line

-- clusters in an order along the line: those that never fall, and those that never rise
abbrev pub IsOrdered : (ℕ → ℕ → Type 0) → List hb_glyph_info_t → Type 0
IsOrdered R line = AllPairs (λ g h. R g.cluster h.cluster) line

abbrev pub IsRisingLine : List hb_glyph_info_t → Type 0
IsRisingLine line = IsOrdered (λ x y. x ≤ y) line

abbrev pub IsFallingLine : List hb_glyph_info_t → Type 0
IsFallingLine line = IsOrdered (λ x y. y ≤ x) line

-- each glyph id has 16 bits
abbrev pub IsSmall : Buffer → Type 0
IsSmall b = All Is16Bit b.line

-- each cluster of the new line stood on the old one
abbrev pub ComesFrom : List hb_glyph_info_t → List hb_glyph_info_t → Type 0
ComesFrom old new = (k : ℕ) → k < length new → (j : ℕ) × (j < length old) × (cluster_at new k ≡ cluster_at old j)

-- a line that keeps the order of the clusters of another one: where those never fall along the line, its own never
-- fall, where they never rise, its own never rise, and each of its own stood there
pub record KeepsOrder (old new : List hb_glyph_info_t) : Type 0 where
  pub rising : IsRisingLine old → IsRisingLine new
  pub falling : IsFallingLine old → IsFallingLine new
  pub clusters : ComesFrom old new

-- clusters merge at a cluster level
abbrev pub ClustersMerge : ℕ → Type 0
ClustersMerge level = clusters_stay_apart level ≢ true
