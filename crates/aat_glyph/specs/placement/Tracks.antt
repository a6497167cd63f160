-- Tracks as a total function. Apple's TrueType Reference Manual, "The 'trak' table".
use Rattle.std.specs.Prelude.{ℕ, ℤ, pos, ◌+◌, ◌-◌, ◌*◌, ◌==◌, List, find, length, not, nat_lt, int_lt, slice_index_or, Option, Some, None, if◌then◌else◌}
use Rattle.std.specs.Int.{saturate_to_bits}
use Rattle.std.specs.List.{range_with_len}
use Rattle.std.specs.Option.{option_map_or}
use Rattle.std.specs.Ordering.{int_eq}
use Rattle.aat_glyph.specs.Directions.{is_horizontal}
use Rattle.aat_glyph.specs.declared.glyph.Direction.{Direction}
use Rattle.aat_glyph.specs.placement.Interpolation.{interpolated}
use Rattle.aat_glyph.specs.declared.placement.error.TrackingError.{TrackingError}
use Rattle.aat_glyph.specs.declared.placement.error.TrackingError.TheVariants.{TooManyTracks, TooManySizes, ValueCount}
use Rattle.aat_glyph.specs.declared.placement.track_data.Track.{Track}

-- the tracks of one direction: point sizes, 16.16 fixed, tracks, and track by track a value for each size
pub record TrackTable : Type 0 where
  pub sizes : List ℤ
  pub tracks : List Track
  pub values : List ℤ

-- those for text in rows, and those for text in columns
pub record TrackingTable : Type 0 where
  pub rows : Option TrackTable
  pub columns : Option TrackTable

-- the first reason why this is no table
abbrev pub fault_of : TrackTable → Option TrackingError
fault_of t =
    if nat_lt 65535 (length t.tracks) then Some TooManyTracks else
    (if nat_lt 65535 (length t.sizes) then Some TooManySizes else
    (if length t.values == length t.tracks * length t.sizes then None else Some ValueCount))

-- what is read past the last track
abbrev pub no_track : Track
no_track = record { value = pos 0; name = 0 }

-- the track at a place
abbrev pub track_at : List Track → ℕ → Track
track_at tracks k = slice_index_or tracks k no_track

-- the size at a place
abbrev pub size_at : List ℤ → ℕ → ℤ
size_at sizes s = slice_index_or sizes s (pos 0)

-- the value of the track at place k for the size at place s
abbrev pub value_of : TrackTable → ℕ → ℕ → ℤ
value_of t k s = slice_index_or t.values (k * length t.sizes + s) (pos 0)

-- the place of the first track of a track value
abbrev pub place_of_track : List Track → ℤ → Option ℕ
place_of_track tracks asked = find (λ k. int_eq (track_at tracks k).value asked) (range_with_len 0 (length tracks))

-- the place of the first size that is not below a size
abbrev pub first_from : List ℤ → ℤ → Option ℕ
first_from sizes size = find (λ s. not (int_lt (size_at sizes s) size)) (range_with_len 0 (length sizes))

-- the value of the track at place k at a size, on the line through the values at the size at a place and at the one
-- before it
abbrev pub value_between : TrackTable → ℕ → ℤ → ℕ → ℤ
value_between t k size end =
    interpolated (size_at t.sizes (end - 1)) (size_at t.sizes end) (value_of t k (end - 1)) (value_of t k end) size

-- the same, where the first size that is not below a size is at a place: before the first one its value counts
abbrev pub value_up_to : TrackTable → ℕ → ℤ → ℕ → ℤ
value_up_to t k size end = if end == 0 then value_of t k 0 else value_between t k size end

-- the value of the track at place k at a size: behind all sizes that of the last one counts
abbrev pub value_at_size : TrackTable → ℕ → ℤ → ℤ
value_at_size t k size =
    if length t.sizes == 0 then pos 0
    else option_map_or (value_up_to t k size) (first_from t.sizes size) (value_of t k (length t.sizes - 1))

-- how much wider a text of a point size is set on a track, in units of the font, as far as a signed number of 32 bits
-- holds it: 0 where the size is 0 or there is no such track
abbrev pub tracking_at : TrackTable → ℤ → ℕ → ℤ
tracking_at t asked size =
    if size == 0 then pos 0
    else option_map_or (λ k. saturate_to_bits 31 (value_at_size t k (pos size))) (place_of_track t.tracks asked) (pos 0)

-- the same for a text of a direction
abbrev pub tracking_along : TrackingTable → Direction → ℤ → ℕ → ℤ
tracking_along table d asked size =
    option_map_or (λ t. tracking_at t asked size) (if is_horizontal d then table.rows else table.columns) (pos 0)
