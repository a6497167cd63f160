-- What the run of a subtable that closes what it looks at keeps of a buffer, whatever its table.
use Rattle.std.specs.Prelude.{◌≡◌, ℕ, ◌<◌, ◌≤◌, Bool, true, false}
use Rattle.aat_buffer.specs.Buffer.{Buffer}
use Rattle.aat_buffer.specs.Clusters.{ClustersMerge, IsFallingLine, IsRisingLine}
use Rattle.aat_machine_tables.specs.declared.morx.SubtableKind.{SubtableKind}
use Rattle.aat_run.specs.Budget.{operations_left}
use Rattle.aat_run.specs.Laws.{HasOrderOf, SameSettings}
use Rattle.aat_kinds.specs.Kinds.{Sizes}
use Rattle.aat_cut_kinds.specs.Open.{is_open}
use Rattle.aat_closing.specs.ClosingRuns.{Told, closing_run, may_split}

-- each cluster that is open on the new line was open on the old one
abbrev pub OpensNone : Buffer → Buffer → Type 0
OpensNone old new = (c : ℕ) → is_open c new.line ≡ true → is_open c old.line ≡ true

-- What a run keeps: the order of the clusters, which all stood on the line; the settings; a cursor at the front; and the
-- budget, which it may spend. At a level at which clusters merge it opens none where they rise along the line, and,
-- unless it may split one, none where they fall.
pub record KeepsTold (splits : Bool) (run : Buffer → Told) : Type 0 where
  pub order : (b : Buffer) → HasOrderOf b (run b).buffer
  pub settings : (b : Buffer) → SameSettings b (run b).buffer
  pub cursor : (b : Buffer) → b.cursor ≡ 0 → (run b).buffer.cursor ≡ 0
  pub budget : (b : Buffer) → operations_left (run b).buffer.max_ops ≤ operations_left b.max_ops
  pub rising : (b : Buffer) → IsRisingLine b.line → ClustersMerge b.cluster_level → OpensNone b (run b).buffer
  pub falling :
      splits ≡ false → (b : Buffer) → IsFallingLine b.line → ClustersMerge b.cluster_level → OpensNone b (run b).buffer

-- the run of each kind of subtable keeps them
abbrev pub ClosingRunsKeep : Type 0
ClosingRunsKeep =
    (z : Sizes) (on : ℕ → Bool) (kind : SubtableKind) → 0 < z.slots → KeepsTold (may_split kind) (closing_run z on kind)
