use Rattle.std.proofs.Common.{◌-◌}
use Rattle.aat_bytes.specs.facts.Bisections.{GoesOn}
use Rattle.aat_read_sfnt.specs.SegmentMapping.{end_code, lowest_code, segment_count}
use Rattle.aat_read_sfnt.proofs.cmap.segment_mapping.SegmentMapping.segment_of.Given as goal

abbrev pub invariant-loop-from : goal.invariant-loop-from
invariant-loop-from l =
    GoesOn (lowest_code l.self) (end_code l.self) (segment_count l.self) l.character l.from l.to

abbrev pub decreases-loop-from : goal.decreases-loop-from
decreases-loop-from l = l.to - l.from
