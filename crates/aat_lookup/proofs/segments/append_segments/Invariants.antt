use Rattle.std.proofs.Common.{◌≡◌, ◌++◌, take}
use Rattle.std.specs.List.{flat_map}
use Rattle.aat_lookup.specs.Segments.{pairs_of_segment}
use Rattle.aat_lookup.proofs.segments.append_segments.Given as goal

abbrev pub invariant-loop-i : goal.invariant-loop-i
invariant-loop-i g l = l.pairs.items ≡ l.fn.pairs.items ++ flat_map pairs_of_segment (take l.i l.segments)
