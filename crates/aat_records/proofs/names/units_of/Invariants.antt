use Rattle.std.proofs.Common.{◌≡◌, ◌*◌, ◌++◌, drop}
use Rattle.aat_records.specs.Names.{units_of}
use Rattle.aat_records.proofs.names.units_of.Given as goal

-- the units before this one, and those of the bytes that are left, are all
abbrev pub invariant-loop-i : goal.invariant-loop-i
invariant-loop-i l = l.units.items ++ units_of (drop (2 * l.i) l.bytes) ≡ units_of l.bytes
