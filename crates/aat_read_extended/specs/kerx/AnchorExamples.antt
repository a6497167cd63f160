-- Worked examples of anchor points. Apple's TrueType Reference Manual, "The 'ankr' table".
use Rattle.std.specs.Prelude.{◌≡◌, ℕ, List, [], ◌∷◌, ◌++◌, take, pos, negsuc, Result, Ok, Err}
use Rattle.aat_bytes.specs.Faults.{fault_at}
use Rattle.aat_bytes.specs.declared.error.Fault.{Fault}
use Rattle.aat_bytes.specs.declared.error.FaultKind.TheVariants.{PastEnd, UnknownFormat}
use Rattle.aat_bytes.specs.declared.tags.TheConstants.{ANKR}
use Rattle.aat_kerning_tables.specs.AnchorPoints.{Points}
use Rattle.aat_read_extended.specs.kerx.Anchors.{ankr_of}

-- the header of a version, with the lookup at 12 and the points at a place
abbrev pub example_header : ℕ → ℕ → List ℕ
example_header version points = 0 ∷ version ∷ 0 ∷ 0 ∷ 0 ∷ 0 ∷ 0 ∷ 12 ∷ 0 ∷ 0 ∷ 0 ∷ points ∷ []

-- a lookup of format 8: glyph 3 has the offset 0, and glyph 4 another
abbrev pub example_offsets : ℕ → List ℕ
example_offsets other = 0 ∷ 8 ∷ 0 ∷ 3 ∷ 0 ∷ 2 ∷ 0 ∷ 0 ∷ 0 ∷ other ∷ []

-- two points, and one point
abbrev pub example_points : List ℕ
example_points = 0 ∷ 0 ∷ 0 ∷ 2 ∷ 0 ∷ 1 ∷ 255 ∷ 255 ∷ 0 ∷ 2 ∷ 0 ∷ 7 ∷ 0 ∷ 0 ∷ 0 ∷ 1 ∷ 0 ∷ 5 ∷ 0 ∷ 6 ∷ []

-- what an example says
abbrev pub read_points : List ℕ → Result Points Fault
read_points bytes = ankr_of bytes 10

-- each glyph has its points, also where it shares them
abbrev pub GlyphsHaveTheirPoints : Type 0
GlyphsHaveTheirPoints =
    (read_points (example_header 0 22 ++ example_offsets 12 ++ example_points) ≡ Ok (
    (3, record { x = pos 1; y = negsuc 0 } ∷ record { x = pos 2; y = pos 7 } ∷ [])
    ∷ (4, record { x = pos 5; y = pos 6 } ∷ [])
    ∷ []))
    × (read_points (example_header 0 34 ++ example_offsets 0 ++ example_points) ≡ Ok (
    (3, record { x = pos 5; y = pos 6 } ∷ []) ∷ (4, record { x = pos 5; y = pos 6 } ∷ []) ∷ []))

-- a lookup of format 2 whose only segment has so many glyphs from 0 on, all with the offset 0
abbrev pub example_segment : ℕ → List ℕ
example_segment last = 0 ∷ 2 ∷ 0 ∷ 6 ∷ 0 ∷ 1 ∷ 0 ∷ 0 ∷ 0 ∷ 0 ∷ 0 ∷ 0 ∷ 0 ∷ last ∷ 0 ∷ 0 ∷ 0 ∷ 0 ∷ []

-- what an example of 34 bytes says, in which glyphs from 0 on share an empty list
abbrev pub read_shared : ℕ → Result Points Fault
read_shared last = read_points (example_header 0 30 ++ example_segment last ++ 0 ∷ 0 ∷ 0 ∷ 0 ∷ [])

-- each fault at its place: a header that is cut, another version, a lookup that is not there, points that are not there
-- as a whole, and a number of points that is not there
abbrev pub AnkrFaultsHaveTheirPlaces : Type 0
AnkrFaultsHaveTheirPlaces =
    (read_points (take 11 (example_header 0 22)) ≡ Err (fault_at ANKR PastEnd 0))
    × (read_points (example_header 1 22) ≡ Err (fault_at ANKR UnknownFormat 0))
    × (read_points (example_header 0 22) ≡ Err (fault_at ANKR PastEnd 12))
    × (read_points (example_header 0 22 ++ example_offsets 12 ++ take 19 example_points)
    ≡ Err (fault_at ANKR PastEnd 34))
    × (read_points (example_header 0 22 ++ example_offsets 17 ++ example_points) ≡ Err (fault_at ANKR PastEnd 39))

-- so many glyphs may share points as have room: of 34 bytes, 25 glyphs, and a 26th is the fault
abbrev pub SharedPointsHaveRoom : Type 0
SharedPointsHaveRoom =
    (read_shared 25 ≡ Err (fault_at ANKR PastEnd 30))
    × (read_shared 1 ≡ Ok ((0, []) ∷ (1, []) ∷ []))
