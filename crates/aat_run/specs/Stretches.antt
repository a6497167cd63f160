-- Clusters over which a subtable is on, or off, throughout.
use Rattle.std.specs.Prelude.{◌≡◌, ◌≤◌, ℕ, Bool}
use Rattle.aat_run.specs.declared.ranges.Stretch.{Stretch}

-- a subtable is on at each cluster of a stretch, or off at each, as the stretch says
abbrev pub IsSwitchedAlike : (ℕ → Bool) → Stretch → Type 0
IsSwitchedAlike on s = (x : ℕ) → s.cluster_first ≤ x → x ≤ s.cluster_last → on x ≡ s.is_on
