use Rattle.std.proofs.Common.{◌≡◌, ℕ, ◌-◌, ◌<◌, ◌≤◌, length, get_or}
use Rattle.aat_face.specs.Lists.{mark_property}
use Rattle.aat_face.proofs.lists.properties_of.Given as goal

abbrev pub invariant-loop-from : goal.invariant-loop-from
invariant-loop-from l = record {
  within : l.from ≤ l.count;
  long : length l.properties.items ≡ l.count;
  written : (k : ℕ) → k < l.from → get_or l.properties.items k 0 ≡ mark_property l.classes k;
}

abbrev pub decreases-loop-from : goal.decreases-loop-from
decreases-loop-from l = l.count - l.from
