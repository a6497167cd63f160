use Rattle.std.proofs.Common.{◌≡◌, ◌-◌, ◌<◌, ◌≤◌, ◌&&◌, ℕ, false, get_or, length, nat_le}
use Rattle.aat_shaped_text.specs.Breaks.{is_unchained}
use Rattle.aat_shaped_text.proofs.Chained.{are_from}
use Rattle.aat_shaped_text.proofs.open_line.close_chained.Given as goal

abbrev pub invariant-loop-behind : goal.invariant-loop-behind
invariant-loop-behind l = record {
  len : length l.places ≡ length l.fn.places;
  below : (i : ℕ) → i ≤ length l.fn.places → are_from l.fn.direction l.fn.positions (length l.fn.places - l.behind) l.behind i ≡ nat_le i l.least;
  done : (i : ℕ) → length l.fn.places - l.behind ≤ i → i < length l.fn.places
      → get_or l.places i false ≡ (get_or l.fn.places i false && is_unchained l.fn.direction l.fn.positions i);
  rest : (i : ℕ) → i < length l.fn.places - l.behind → get_or l.places i false ≡ get_or l.fn.places i false;
}
