use Rattle.std.proofs.Common.{◌≡◌, ◌<◌, ◌≤◌, ◌-◌, ◌&&◌, ℕ, cond, false, get_or, length}
use Rattle.aat_shaped_text.proofs.kerned_subtables.close_places.Given as goal

abbrev pub invariant-loop-i : goal.invariant-loop-i
invariant-loop-i l = record {
  len : length l.opens ≡ length l.fn.opens;
  above : 0 < l.i;
  first : get_or l.opens 0 false ≡ get_or l.fn.opens 0 false;
  done : (q : ℕ) → 0 < q → q < l.i → q < length l.fn.opens → get_or l.opens q false
      ≡ (get_or l.fn.opens q false && get_or l.fn.told (cond l.fn.is_turned (length l.fn.opens - q) q) false);
  rest : (q : ℕ) → l.i ≤ q → get_or l.opens q false ≡ get_or l.fn.opens q false;
}
