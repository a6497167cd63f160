use Rattle.std.proofs.Common.{◌≡◌, ℕ, ◌<◌, length, get_or}
use Rattle.aat_lookup.proofs.each_glyph.pairs_of_each.Given as goal

abbrev pub invariant-loop-place : goal.invariant-loop-place
invariant-loop-place g l = record {
  long : length l.pairs.items ≡ length l.values;
  written : (k : ℕ) → k < l.place → get_or l.pairs.items k (0, 0) ≡ (k, get_or l.values k 0);
}
