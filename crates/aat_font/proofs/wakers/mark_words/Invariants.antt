use Rattle.std.proofs.Common.{◌≡◌, ℕ, ◌<◌, ◌≤◌, length, get_or}
use Rattle.std.specs.Int.{bit_at}
use Rattle.aat_font.proofs.wakers.mark_words.Given as goal

abbrev pub invariant-loop-place : goal.invariant-loop-place
invariant-loop-place l = record {
  long : length l.words ≡ length l.fn.words;
  kept : (i k : ℕ) → bit_at (get_or l.fn.words i 0) k ≤ bit_at (get_or l.words i 0) k;
  set : (i : ℕ) → l.fn.from ≤ i → i < l.place → bit_at (get_or l.words i 0) l.bit ≡ 1;
}
