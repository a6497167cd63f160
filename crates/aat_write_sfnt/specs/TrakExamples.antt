-- Worked examples of the tracking table as bytes. Apple's TrueType Reference Manual, "The 'trak' table".
use Rattle.std.specs.Prelude.{◌≡◌, ℕ, List, [], ◌∷◌, ◌++◌, pos, negsuc, Some, None, Ok}
use Rattle.aat_glyph.specs.placement.Tracks.{TrackTable}
use Rattle.aat_read_metrics.specs.TrakExamples as reader
use Rattle.aat_write_sfnt.specs.TrakBytes.{first_far, trak_written}

-- two tracks with two sizes, those of the reader's example
abbrev pub example_tracks : TrackTable
example_tracks = record {
  sizes = pos 786432 ∷ pos 1572864 ∷ [];
  tracks = record { value = negsuc 65535; name = 256 } ∷ record { value = pos 0; name = 258 } ∷ [];
  values = negsuc 14 ∷ negsuc 6 ∷ pos 0 ∷ pos 5 ∷ [];
}

-- one track without sizes
abbrev pub plain_track : TrackTable
plain_track = record { sizes = []; tracks = record { value = pos 1; name = 256 } ∷ []; values = [] }

-- the bytes of the plain track at a place, whose sizes and values would stand at a later one
abbrev pub plain_bytes : ℕ → List ℕ
plain_bytes later = 0 ∷ 1 ∷ 0 ∷ 0 ∷ 0 ∷ 0 ∷ 0 ∷ later ∷ 0 ∷ 0 ∷ 0 ∷ 1 ∷ 1 ∷ 0 ∷ 0 ∷ later ∷ []

-- tracks for rows are written as the bytes that the reader's example reads; tracks for both directions, those for
-- columns behind; and tracks for columns alone
abbrev pub TracksAreWritten : Type 0
TracksAreWritten =
    (trak_written (record { rows = Some example_tracks; columns = None })
    ≡ Ok (reader.trak_header ++ reader.two_tracks ++ reader.sizes_and_values))
    × (trak_written (record { rows = Some plain_track; columns = Some plain_track })
    ≡ Ok (0 ∷ 1 ∷ 0 ∷ 0 ∷ 0 ∷ 0 ∷ 0 ∷ 12 ∷ 0 ∷ 28 ∷ 0 ∷ 0 ∷ plain_bytes 28 ++ plain_bytes 44))
    × (trak_written (record { rows = None; columns = Some plain_track })
    ≡ Ok (0 ∷ 1 ∷ 0 ∷ 0 ∷ 0 ∷ 0 ∷ 0 ∷ 0 ∷ 0 ∷ 12 ∷ 0 ∷ 0 ∷ plain_bytes 28))

-- a table without tracks is its header
abbrev pub NoTracksAreWritten : Type 0
NoTracksAreWritten =
    trak_written (record { rows = None; columns = None }) ≡ Ok (0 ∷ 1 ∷ 0 ∷ 0 ∷ 0 ∷ 0 ∷ 0 ∷ 0 ∷ 0 ∷ 0 ∷ 0 ∷ 0 ∷ [])

-- at place 65,519 the values of the plain track stand at 65,535, and one place further they are the first too far
abbrev pub FarTracksAreFound : Type 0
FarTracksAreFound = (first_far 65519 plain_track ≡ None) × (first_far 65520 plain_track ≡ Some 0)
