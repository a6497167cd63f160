use Rattle.std.proofs.Common.{◌≡◌, drop}
use Rattle.aat_lookup.specs.Segments.{first_segment_fall, segment_fall_from}
use Rattle.aat_lookup.proofs.segments.first_segment_fall.Given as goal

abbrev pub invariant-loop-i : goal.invariant-loop-i
invariant-loop-i l = segment_fall_from l.i l.lowest (drop l.i l.segments) ≡ first_segment_fall l.segments
