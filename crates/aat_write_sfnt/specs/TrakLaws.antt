-- A tracking table that is written is read again.
use Rattle.std.specs.Prelude.{◌≡◌, ℕ, ◌<◌, List, All, FitsSigned, Option, Some, None, Ok}
use Rattle.std.specs.Int.{w16, w32}
use Rattle.aat_glyph.specs.placement.Tracks.{TrackTable, TrackingTable, fault_of}
use Rattle.aat_glyph.specs.declared.placement.track_data.Track.{Track}
use Rattle.aat_read_metrics.specs.Trak.{trak_of}
use Rattle.aat_write_sfnt.specs.TrakBytes.{trak_written}

-- a track value has 32 bits, and a name 16
abbrev pub IsTrack : Track → Type 0
IsTrack track = FitsSigned w32 track.value × (track.name < 65536)

-- tracks that can be made: a size has 32 bits, a value 16, and there is a value for each track and size
pub record IsData (t : TrackTable) : Type 0 where
  pub counted : fault_of t ≡ None
  pub sizes : All (FitsSigned w32) t.sizes
  pub tracks : All IsTrack t.tracks
  pub values : All (FitsSigned w16) t.values

-- the same, if there are any
abbrev pub IsPart : Option TrackTable → Type 0
IsPart None = Unit {0}
IsPart (Some t) = IsData t

-- the reader gives the very table that was written
abbrev pub WrittenTracksAreRead : Type 0
WrittenTracksAreRead =
    (t : TrackingTable) (bytes : List ℕ)
    → IsPart t.rows
    → IsPart t.columns
    → trak_written t ≡ Ok bytes
    → trak_of bytes ≡ Ok t
