use Rattle.std.proofs.Common.{◌≡◌, ◌++◌, drop}
use Rattle.aat_records.specs.Decoded.{places_from, places_in}
use Rattle.aat_records.proofs.decoded.places_in.Given as goal

-- the places before this unit, and those of the units that are left, are all
abbrev pub invariant-loop-i : goal.invariant-loop-i
invariant-loop-i l = l.places.items ++ places_from l.i (drop l.i l.units) ≡ places_in l.units
