-- What the run of a subtable is given besides the line.
use Rattle.std.specs.Prelude.{◌≡◌, ℕ, Bool, true, IsTrue, length}
use Rattle.aat_run.specs.Ranges.{IsGapless, is_whole_list, switch_for}
use Rattle.aat_kinds.specs.declared.run.SubtableRun.{SubtableRun}

-- whether the subtable is on at a cluster
abbrev pub is_on_in : SubtableRun → ℕ → Bool
is_on_in run = (switch_for run.ranges.now).is_on run.feature_flags

-- the ranges begin at 0, follow without a gap and end at the last cluster, if there are any, and where there is one
-- alone the subtable is on there
pub record HasFitRanges (run : SubtableRun) : Type 0 where
  pub gapless : IsGapless run.ranges.now
  pub whole : IsTrue (is_whole_list run.ranges.now)
  pub on : length run.ranges.now ≡ 1 → is_on_in run 0 ≡ true
