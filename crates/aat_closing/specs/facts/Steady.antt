-- What a run over a line of text keeps, and leaves of its parts, so that runs can follow one another.
use Rattle.std.specs.Prelude.{◌≡◌, ℕ, ◌≤◌, true, length, None}
use Rattle.aat_buffer.specs.Buffer.{Buffer}
use Rattle.aat_buffer.specs.Clusters.{ClustersMerge, IsRisingLine}
use Rattle.aat_run.specs.Budget.{operations_left}
use Rattle.aat_run.specs.Laws.{HasOrderOf, SameSettings}
use Rattle.aat_cut_kinds.specs.Open.{is_open}
use Rattle.aat_cut_kinds.specs.Parts.{back_part, front_part}
use Rattle.aat_closing.specs.ClosingRuns.{Told}
use Rattle.aat_closing.specs.facts.Limited.{LimitedTold}
use Rattle.aat_closing.specs.ToldParts.{HasBetween, IsRise, TellsOpen, ToldInParts}

-- A run keeps the order of the clusters, the settings, a cursor at the front and that there are no positions; it adds
-- nothing to the budget, takes no glyph away, opens no cluster of a line of text where it tells what is open, leaves the
-- same with other limits, and leaves its parts at an open one.
pub record IsSteady (low c : ℕ) (run : Buffer → Told) : Type 0 where
  pub order : (b : Buffer) → HasOrderOf b (run b).buffer
  pub settings : (b : Buffer) → SameSettings b (run b).buffer
  pub cursor : (b : Buffer) → b.cursor ≡ 0 → (run b).buffer.cursor ≡ 0
  pub positions : (b : Buffer) → b.positions ≡ None → (run b).buffer.positions ≡ None
  pub budget : (b : Buffer) → operations_left (run b).buffer.max_ops ≤ operations_left b.max_ops
  pub longer : (b : Buffer) → length b.line ≤ length (run b).buffer.line
  pub opens :
      (d : ℕ) (b : Buffer) → IsRisingLine b.line → ClustersMerge b.cluster_level → (run b).is_told ≡ true
      → is_open d (run b).buffer.line ≡ true → is_open d b.line ≡ true
  pub limited : LimitedTold run
  pub parts :
      (q : ℕ) (b : Buffer) → IsRise c q b → HasBetween low c (run b).buffer.line → TellsOpen c (run b)
      → ToldInParts (run b) (run (front_part q b)) (run (back_part q b))
