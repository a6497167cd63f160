use Rattle.std.proofs.Common.{◌≡◌, ◌-◌, length, take}
use Rattle.std.specs.Prelude.{reverse, None}
use Rattle.aat_typesetter.proofs.Hanging.{hang_on}
use Rattle.aat_typesetter.proofs.stops.hang_of.Given as goal

abbrev pub invariant-loop-count : goal.invariant-loop-count
invariant-loop-count l =
    hang_on l.space l.hang (reverse (take (length l.text - l.count) l.text)) ≡ hang_on l.space None (reverse l.text)
