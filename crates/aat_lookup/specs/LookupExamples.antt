-- Worked examples of lookups.
use Rattle.std.specs.Prelude.{◌≡◌, ℕ, [], ◌∷◌, Some, None}
use Rattle.aat_lookup.specs.Keys.{first, first_fall}
use Rattle.aat_lookup.specs.Segments.{first_segment_fall, pairs_of_segments}
use Rattle.aat_lookup.specs.declared.segments.LookupSegment.{LookupSegment}

-- of two pairs with one glyph the second is at fault
abbrev pub EqualKeysFall : Type 0
EqualKeysFall = first_fall (first {X = ℕ}) ((5, 1) ∷ (5, 2) ∷ []) ≡ Some 1

-- the segment of two glyphs and a value
abbrev pub segment_of : ℕ → ℕ → ℕ → LookupSegment
segment_of first_glyph last_glyph value =
    record { first_glyph = first_glyph; last_glyph = last_glyph; value = value }

-- a segment lists each of its glyphs, and the next one begins behind it
abbrev pub SegmentsAreListed : Type 0
SegmentsAreListed =
    (pairs_of_segments (segment_of 3 5 7 ∷ segment_of 6 6 8 ∷ []) ≡ (3, 7) ∷ (4, 7) ∷ (5, 7) ∷ (6, 8) ∷ [])
    × (first_segment_fall (segment_of 3 5 7 ∷ segment_of 6 6 8 ∷ []) ≡ None)
    × (first_segment_fall (segment_of 3 5 7 ∷ segment_of 5 6 8 ∷ []) ≡ Some 1)
    × (first_segment_fall (segment_of 3 2 7 ∷ []) ≡ Some 0)
