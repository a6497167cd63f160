-- What a run that tells of its open clusters leaves of a line and of its parts.
use Rattle.std.specs.Prelude.{◌≡◌, ℕ, ◌<◌, ◌≤◌, Bool, true, List, length, take, drop, None, All}
use Rattle.aat_buffer.specs.Buffer.{Buffer}
use Rattle.aat_buffer.specs.Clusters.{ClustersMerge, IsFallingLine, IsRisingLine}
use Rattle.aat_buffer.specs.Marks.{cluster_at}
use Rattle.aat_glyph.specs.declared.glyph.hb_glyph_info_t.{hb_glyph_info_t}
use Rattle.aat_run.specs.Budget.{operations_left}
use Rattle.aat_cut_kinds.specs.Open.{is_open}
use Rattle.aat_cut_kinds.specs.Parts.{LeftInParts, back_part, front_part}
use Rattle.aat_closing.specs.ClosingRuns.{Told}

-- a place q inside a line whose clusters never fall, and reach or pass c there, at a level at which clusters merge
pub record IsRise (c q : ℕ) (b : Buffer) : Type 0 where
  pub behind_first : 0 < q
  pub before_end : q < length b.line
  pub before : All (λ g. g.cluster < c) (take q b.line)
  pub behind : All (λ g. c ≤ g.cluster) (drop q b.line)
  pub ordered : IsRisingLine b.line
  pub merges : ClustersMerge b.cluster_level

-- the same of a line whose clusters never rise, and fall there below c
pub record IsFall (c q : ℕ) (b : Buffer) : Type 0 where
  pub behind_first : 0 < q
  pub before_end : q < length b.line
  pub before : All (λ g. c ≤ g.cluster) (take q b.line)
  pub behind : All (λ g. g.cluster < c) (drop q b.line)
  pub ordered : IsFallingLine b.line
  pub merges : ClustersMerge b.cluster_level

-- a run tells that cluster c is open, and some of the budget is left
pub record TellsOpen (c : ℕ) (o : Told) : Type 0 where
  pub told : o.is_told ≡ true
  pub opens : is_open c o.buffer.line ≡ true
  pub budget : 0 < operations_left o.buffer.max_ops

-- the whole run leaves the line that the runs over the parts leave, and no more of the budget; these tell too
pub record ToldInParts (whole front back : Told) : Type 0 where
  pub parts : LeftInParts whole.buffer front.buffer back.buffer
  pub front_told : front.is_told ≡ true
  pub back_told : back.is_told ≡ true

module _ (run : Buffer → Told) (on : ℕ → Bool) where
  -- At each rise of the clusters at which the subtable is on, the run leaves its parts, and tells of both, where it tells
  -- that the cluster which begins there is open, with some of the budget left.
  abbrev pub PartsAtRise : Type 0
  PartsAtRise =
      (c q : ℕ) (b : Buffer) → IsRise c q b → on (cluster_at b.line q) ≡ true → TellsOpen c (run b)
      → ToldInParts (run b) (run (front_part q b)) (run (back_part q b))

  -- and at each fall, where the cluster which ends there is told to be open
  abbrev pub PartsAtFall : Type 0
  PartsAtFall =
      (c q : ℕ) (b : Buffer) → IsFall c q b → on (cluster_at b.line q) ≡ true → TellsOpen c (run b)
      → ToldInParts (run b) (run (front_part q b)) (run (back_part q b))

-- some glyph of a line has a cluster from low on, and below c
abbrev pub HasBetween : ℕ → ℕ → List hb_glyph_info_t → Type 0
HasBetween low c line = (k : ℕ) × (k < length line) × (low ≤ cluster_at line k) × (cluster_at line k < c)

-- At each rise to c of a line without positions, the cursor at its front, a run leaves the parts, and tells of them, where
-- it tells that c is open, and leaves some of the budget, and a glyph whose cluster is from low on and below c.
abbrev pub PartsOfText : ℕ → ℕ → (Buffer → Told) → Type 0
PartsOfText low c run =
    (q : ℕ) (b : Buffer) → b.cursor ≡ 0 → b.positions ≡ None → IsRise c q b → TellsOpen c (run b)
    → HasBetween low c (run b).buffer.line → ToldInParts (run b) (run (front_part q b)) (run (back_part q b))
