use Rattle.std.proofs.Common.{◌≡◌, ◌<◌, ◌≤◌, ◌⊎◌, length}
use Rattle.std.proofs.Common.{ℕ}
use Rattle.aat_cut_kinds.proofs.Opening.{Closed}
use Rattle.aat_cut_kinds.proofs.kerning_opens.close_span.Given as goal

abbrev pub invariant-loop-place : goal.invariant-loop-place
invariant-loop-place l = record {
  long : length l.opens ≡ length l.fn.opens;
  below : l.place ≤ l.cursor;
  inside : 0 < l.place → l.place < length l.opens;
  above : (l.least ≤ l.place) ⊎ (l.opens ≡ l.fn.opens);
  closed : (q : ℕ) → Closed l.fn.opens l.opens q l.place l.cursor;
}

abbrev pub decreases-loop-place : goal.decreases-loop-place
decreases-loop-place l = l.place
