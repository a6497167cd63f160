use Rattle.std.proofs.Common.{◌≡◌, ◌++◌, ◌≤◌, [], drop, reverse, slice_range}
use Rattle.aat_characters.specs.Clusters.{continues, merged}
use Rattle.aat_characters.proofs.PartsLemmas.{in_parts}
use Rattle.aat_characters.proofs.clusters.turned_clusters.Given as goal

abbrev pub invariant-loop-i : goal.invariant-loop-i
invariant-loop-i g l = record {
  before : l.start ≤ l.i;
  made : l.out.items ++ in_parts continues (λ p. reverse (merged p)) (slice_range l.characters l.start l.i) (drop l.i l.characters)
      ≡ in_parts continues (λ p. reverse (merged p)) [] l.characters;
}
