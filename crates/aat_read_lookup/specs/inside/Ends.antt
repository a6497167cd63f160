-- The ends of the glyphs of segments.
use Rattle.std.specs.Prelude.{ℕ, ◌==◌, if◌then◌else◌}
use Rattle.aat_read_lookup.specs.Segments.{end_of}
use Rattle.aat_read_lookup.specs.declared.segment.Segment.{Segment}

-- the first of some glyphs and the one behind the last of them, 0 where there are none, with those of a segment behind
-- them
abbrev pub ends_with : ℕ × ℕ → Segment → ℕ × ℕ
ends_with ends segment =
    if segment.count == 0 then ends else (if ends.1 == 0 then segment.first else ends.0, end_of segment)
