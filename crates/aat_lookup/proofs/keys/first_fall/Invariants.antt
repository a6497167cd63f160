use Rattle.std.proofs.Common.{◌≡◌, ◌-◌, drop, get_or}
use Rattle.aat_lookup.specs.Keys.{fall_after, first_fall}
use Rattle.aat_lookup.proofs.keys.first_fall.Given as goal

abbrev pub invariant-loop-i : goal.invariant-loop-i
invariant-loop-i g l =
    let key = g.R.Keyed.key_of in
    (d : g.row.R.Denot)
    → fall_after key l.i (key (get_or l.rows (l.i - 1) d)) (drop l.i l.rows) ≡ first_fall key l.rows
