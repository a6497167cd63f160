use Rattle.std.proofs.Common.{ℕ, ◌-◌, ◌<◌, ◌≤◌}
use Rattle.aat_bytes.specs.Numbers.{be32}
use Rattle.aat_bytes.specs.facts.Bisections.{GoesOn}
use Rattle.aat_read_sfnt.specs.SegmentedCoverage.{end_char, start_char}
use Rattle.aat_read_sfnt.proofs.cmap.segmented_coverage.SegmentedCoverage.group_until.Given as goal

abbrev pub invariant-loop-from : goal.invariant-loop-from
invariant-loop-from l = record {
  goes : (g : ℕ) → l.character ≤ g → g < l.end → GoesOn (start_char l.self) (end_char l.self) (be32 l.self 12) g l.from l.to;
  some : l.character < l.end;
  within : l.to ≤ be32 l.self 12;
}

abbrev pub decreases-loop-from : goal.decreases-loop-from
decreases-loop-from l = l.to - l.from
