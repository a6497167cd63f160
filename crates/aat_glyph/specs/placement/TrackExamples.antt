-- Worked examples of tracks. Sizes are in points, as 16.16 fixed numbers of 65536 each.
use Rattle.std.specs.Prelude.{◌≡◌, ◌*◌, ℕ, ℤ, pos, negsuc, List, [], ◌∷◌, Some, None}
use Rattle.aat_glyph.specs.placement.Interpolation.{rounded}
use Rattle.aat_glyph.specs.placement.Tracks.{TrackTable, fault_of, tracking_at}
use Rattle.aat_glyph.specs.declared.placement.error.TrackingError.TheVariants.{ValueCount}

-- the table of the manual's example: tight, normal and loose at 12 and 24 points
abbrev pub manual_table : TrackTable
manual_table = record {
  sizes = pos (12 * 65536) ∷ pos (24 * 65536) ∷ [];
  tracks = record { value = negsuc 65535; name = 256 }
      ∷ record { value = pos 0; name = 258 }
      ∷ record { value = pos 65536; name = 257 }
      ∷ [];
  values = negsuc 14 ∷ negsuc 6 ∷ pos 0 ∷ pos 0 ∷ pos 50 ∷ pos 20 ∷ [];
}

-- one track 0 with these sizes and values
abbrev pub normal_track : List ℤ → List ℤ → TrackTable
normal_track sizes values = record { sizes = sizes; tracks = record { value = pos 0; name = 256 } ∷ []; values = values }

-- a quotient is rounded to the nearest number, and a half up
abbrev pub HalvesGoUp : Type 0
HalvesGoUp =
    (rounded (pos 7) (pos 2) ≡ pos 4)
    × (rounded (negsuc 6) (pos 2) ≡ negsuc 2)
    × (rounded (pos 7) (negsuc 1) ≡ negsuc 2)
    × (rounded (negsuc 6) (negsuc 1) ≡ pos 4)
    × (rounded (pos 10) (pos 3) ≡ pos 3)
    × (rounded (negsuc 9) (pos 3) ≡ negsuc 2)

-- tight text at 12, 18 and 24 points, and at 6 and 36 as at the nearest size; normal text; and a track that is not there
abbrev pub TracksAreInterpolated : Type 0
TracksAreInterpolated =
    (tracking_at manual_table (negsuc 65535) (12 * 65536) ≡ negsuc 14)
    × (tracking_at manual_table (negsuc 65535) (18 * 65536) ≡ negsuc 10)
    × (tracking_at manual_table (negsuc 65535) (24 * 65536) ≡ negsuc 6)
    × (tracking_at manual_table (negsuc 65535) (6 * 65536) ≡ negsuc 14)
    × (tracking_at manual_table (negsuc 65535) (36 * 65536) ≡ negsuc 6)
    × (tracking_at manual_table (pos 65536) (14 * 65536) ≡ pos 45)
    × (tracking_at manual_table (pos 0) (18 * 65536) ≡ pos 0)
    × (tracking_at manual_table (pos 1) (18 * 65536) ≡ pos 0)
    × (tracking_at manual_table (pos 65536) 0 ≡ pos 0)

-- values of the track 0 at 10, 20 and 40
abbrev pub three_sizes : ℕ → ℤ
three_sizes size =
    tracking_at (normal_track (pos 10 ∷ pos 20 ∷ pos 40 ∷ []) (pos 0 ∷ pos 10 ∷ pos 50 ∷ [])) (pos 0) size

-- no size, one size, three sizes, sizes that fall, and sizes that are equal
abbrev pub IntervalsAreFound : Type 0
IntervalsAreFound =
    (tracking_at (normal_track [] []) (pos 0) 65536 ≡ pos 0)
    × (tracking_at (normal_track (pos 5 ∷ []) (pos 9 ∷ [])) (pos 0) 65536 ≡ pos 9)
    × (three_sizes 20 ≡ pos 10)
    × (three_sizes 30 ≡ pos 30)
    × (tracking_at (normal_track (pos 20 ∷ pos 10 ∷ []) (pos 0 ∷ pos 10 ∷ [])) (pos 0) 15 ≡ pos 0)
    × (tracking_at (normal_track (pos 20 ∷ pos 20 ∷ []) (pos 3 ∷ pos 10 ∷ [])) (pos 0) 15 ≡ pos 3)

-- below the first size its value counts, and behind all sizes that of the last one
abbrev pub EndsAreKept : Type 0
EndsAreKept =
    (three_sizes 9 ≡ pos 0)
    × (three_sizes 10 ≡ pos 0)
    × (three_sizes 40 ≡ pos 50)
    × (three_sizes 50 ≡ pos 50)
    × (tracking_at (normal_track (pos 20 ∷ pos 10 ∷ []) (pos 0 ∷ pos 10 ∷ [])) (pos 0) 25 ≡ pos 10)

-- a value for each track and size
abbrev pub ValuesAreCounted : Type 0
ValuesAreCounted =
    (fault_of manual_table ≡ None) × (fault_of (normal_track (pos 10 ∷ []) []) ≡ Some ValueCount)
