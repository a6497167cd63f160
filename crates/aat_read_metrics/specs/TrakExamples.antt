-- Worked examples of the tracking table.
use Rattle.std.specs.Prelude.{◌≡◌, ℕ, List, [], ◌∷◌, ◌++◌, pos, negsuc, Some, None, Ok, Err}
use Rattle.aat_bytes.specs.Faults.{fault_at}
use Rattle.aat_bytes.specs.declared.error.FaultKind.TheVariants.{UnknownFormat}
use Rattle.aat_bytes.specs.declared.tags.TheConstants.{TRAK}
use Rattle.aat_read_metrics.specs.Trak.{past, trak_of}

-- the header of a table whose tracks for rows stand at 12
abbrev pub trak_header : List ℕ
trak_header = 0 ∷ 1 ∷ 0 ∷ 0 ∷ 0 ∷ 0 ∷ 0 ∷ 12 ∷ 0 ∷ 0 ∷ 0 ∷ 0 ∷ []

-- a track of the value -1, named 256, and one of 0, named 258, with sizes of 12 and 24 points at 36, and values at 44
-- and 48
abbrev pub two_tracks : List ℕ
two_tracks =
    0 ∷ 2 ∷ 0 ∷ 2 ∷ 0 ∷ 0 ∷ 0 ∷ 36
    ∷ 255 ∷ 255 ∷ 0 ∷ 0 ∷ 1 ∷ 0 ∷ 0 ∷ 44
    ∷ 0 ∷ 0 ∷ 0 ∷ 0 ∷ 1 ∷ 2 ∷ 0 ∷ 48 ∷ []

-- the sizes and values behind
abbrev pub sizes_and_values : List ℕ
sizes_and_values =
    0 ∷ 12 ∷ 0 ∷ 0 ∷ 0 ∷ 24 ∷ 0 ∷ 0 ∷ 255 ∷ 241 ∷ 255 ∷ 249 ∷ 0 ∷ 0 ∷ 0 ∷ 5 ∷ []

-- a table with tracks for rows alone
abbrev pub TablesHaveTracks : Type 0
TablesHaveTracks =
    (trak_of (trak_header ++ two_tracks ++ sizes_and_values)
    ≡ Ok (record {
      rows = Some (record {
        sizes = pos 786432 ∷ pos 1572864 ∷ [];
        tracks = record { value = negsuc 65535; name = 256 } ∷ record { value = pos 0; name = 258 } ∷ [];
        values = negsuc 14 ∷ negsuc 6 ∷ pos 0 ∷ pos 5 ∷ [];
      });
      columns = None;
    }))
    × (trak_of (0 ∷ 1 ∷ 0 ∷ 0 ∷ 0 ∷ 0 ∷ 0 ∷ 0 ∷ 0 ∷ 0 ∷ 0 ∷ 0 ∷ []) ≡ Ok (record { rows = None; columns = None }))

-- each fault, at its place
abbrev pub TrakFaultsHaveTheirPlaces : Type 0
TrakFaultsHaveTheirPlaces =
    (trak_of (0 ∷ 1 ∷ []) ≡ Err (past 0))
    × (trak_of (0 ∷ 2 ∷ 0 ∷ 0 ∷ 0 ∷ 0 ∷ 0 ∷ 0 ∷ 0 ∷ 0 ∷ 0 ∷ 0 ∷ []) ≡ Err (fault_at TRAK UnknownFormat 0))
    × (trak_of (0 ∷ 1 ∷ 0 ∷ 0 ∷ 0 ∷ 1 ∷ 0 ∷ 0 ∷ 0 ∷ 0 ∷ 0 ∷ 0 ∷ []) ≡ Err (fault_at TRAK UnknownFormat 4))
    × (trak_of (trak_header ++ 0 ∷ 1 ∷ []) ≡ Err (past 12))
    × (trak_of (trak_header ++ two_tracks ++ []) ≡ Err (past 36))
    × (trak_of (trak_header ++ 0 ∷ 2 ∷ 0 ∷ 0 ∷ 0 ∷ 0 ∷ 0 ∷ 12 ∷ 0 ∷ 0 ∷ 0 ∷ 0 ∷ 1 ∷ 0 ∷ 0 ∷ 44 ∷ 0 ∷ []) ≡ Err (past 28))
    × (trak_of (trak_header ++ 0 ∷ 1 ∷ 0 ∷ 16 ∷ 0 ∷ 0 ∷ 0 ∷ 0 ∷ 0 ∷ 0 ∷ 0 ∷ 0 ∷ 1 ∷ 0 ∷ 0 ∷ 0 ∷ []) ≡ Err (past 0))
    × (trak_of (trak_header ++ 0 ∷ 1 ∷ 0 ∷ 1 ∷ 0 ∷ 0 ∷ 0 ∷ 0 ∷ 0 ∷ 0 ∷ 0 ∷ 0 ∷ 1 ∷ 0 ∷ 0 ∷ 27 ∷ []) ≡ Err (past 27))
    × (trak_of (trak_header ++ 0 ∷ 2 ∷ 0 ∷ 8 ∷ 0 ∷ 0 ∷ 0 ∷ 0 ∷ 0 ∷ 0 ∷ 0 ∷ 0 ∷ 1 ∷ 0 ∷ 0 ∷ 0 ∷ 0 ∷ 0 ∷ 0 ∷ 0 ∷ 1 ∷ 0 ∷ 0 ∷ 0 ∷ [])
    ≡ Err (past 12))
