use Rattle.std.proofs.Common.{◌≡◌, ℕ, ◌+◌, ◌*◌, ◌<◌, length, get_or}
use Rattle.aat_bytes.specs.Numbers.{be16}
use Rattle.aat_read_lookup.proofs.kept.words_at.Given as goal

abbrev pub invariant-loop-k : goal.invariant-loop-k
invariant-loop-k g l = record {
  long : length l.words.items ≡ l.fn.count;
  each : (k : ℕ) → k < l.k → get_or l.words.items k 0 ≡ be16 l.bytes (2 * k);
}
