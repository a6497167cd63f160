-- The tracking table as bytes. Apple's TrueType Reference Manual, "The 'trak' table".
use Rattle.std.specs.Prelude.{ℕ, ℤ, ◌+◌, ◌*◌, List, [], ◌∷◌, ◌++◌, length, map, find, Bool, false, ◌||◌, Option, Some, None, Result, Ok, Err, if◌then◌else◌, nat_lt}
use Rattle.std.specs.Int.{cast_unsigned, w16, w32}
use Rattle.std.specs.List.{flat_map, range_with_len}
use Rattle.aat_glyph.specs.placement.Tracks.{TrackTable, TrackingTable, track_at}
use Rattle.aat_glyph.specs.declared.placement.track_data.Track.{Track}
use Rattle.aat_write_machine.specs.Words.{long, word_bytes}
use Rattle.aat_write_sfnt.specs.declared.trak.error.TrakWriteError.{TrakWriteError}
use Rattle.aat_write_sfnt.specs.declared.trak.error.TrakWriteError.TheVariants.{TooMany, RowValues, ColumnsTooFar, ColumnValues}

-- a signed number of 32 bits, in two's complement
abbrev pub fixed_words : ℤ → List ℕ
fixed_words number = long (cast_unsigned w32 number)

-- a signed number of 16 bits
abbrev pub value_word : ℤ → ℕ
value_word value = cast_unsigned w16 value

-- the tracks of a direction stand at a place: a header of 8 bytes, their entries, and then the sizes
abbrev pub place_of_sizes : ℕ → TrackTable → ℕ
place_of_sizes at t = at + 8 + 8 * length t.tracks

-- behind the sizes stand the values of track 0, of track 1 and so on
abbrev pub place_of_values : ℕ → TrackTable → ℕ → ℕ
place_of_values at t k = place_of_sizes at t + 4 * length t.sizes + 2 * (k * length t.sizes)

-- an entry: the track value, its name and the place of its values
abbrev pub entry_words : Track → ℕ → List ℕ
entry_words track place = fixed_words track.value ++ track.name ∷ place ∷ []

-- the entry of the track at place k
abbrev pub entry_of : ℕ → TrackTable → ℕ → List ℕ
entry_of at t k = entry_words (track_at t.tracks k) (place_of_values at t k)

-- the header of the tracks of a direction: their number, that of the sizes, and the place of the sizes
abbrev pub data_header : ℕ → TrackTable → List ℕ
data_header at t = length t.tracks ∷ length t.sizes ∷ long (place_of_sizes at t)

-- the entries of the tracks of a direction
abbrev pub entries : ℕ → TrackTable → List ℕ
entries at t = flat_map (entry_of at t) (range_with_len 0 (length t.tracks))

-- the tracks of a direction: header, entries, sizes and values
abbrev pub data_words : ℕ → TrackTable → List ℕ
data_words at t =
    data_header at t ++ (entries at t ++ (flat_map fixed_words t.sizes ++ map value_word t.values))

-- how many bytes they take, up to where the values of one track more would stand
abbrev pub data_size : TrackTable → ℕ
data_size t = place_of_values 0 t (length t.tracks)

-- the bytes of the tracks of a direction, if there are any
abbrev pub part_bytes : ℕ → Option TrackTable → List ℕ
part_bytes at None = []
part_bytes at (Some t) = word_bytes (data_words at t)

-- how many they are
abbrev pub part_size : Option TrackTable → ℕ
part_size None = 0
part_size (Some t) = data_size t

-- the offset of tracks at a place, 0 where there are none
abbrev pub offset_of : ℕ → Option TrackTable → ℕ
offset_of at None = 0
offset_of at (Some t) = at

-- the tracks for rows stand behind the header of the table
abbrev pub rows_offset : TrackingTable → ℕ
rows_offset t = offset_of 12 t.rows

-- the tracks for columns stand behind those for rows
abbrev pub columns_offset : TrackingTable → ℕ
columns_offset t = offset_of (12 + part_size t.rows) t.columns

-- the header: version 1.0, format 0, the offsets of the tracks for rows and of those for columns, and a word of 0
abbrev pub trak_header : TrackingTable → List ℕ
trak_header t = 1 ∷ 0 ∷ 0 ∷ rows_offset t ∷ columns_offset t ∷ 0 ∷ []

-- the table: header, tracks for rows, and tracks for columns
abbrev pub trak_bytes : TrackingTable → List ℕ
trak_bytes t =
    word_bytes (trak_header t) ++ (part_bytes (rows_offset t) t.rows ++ part_bytes (columns_offset t) t.columns)

-- whether a direction has more tracks or sizes than a number of 16 bits holds
abbrev pub are_too_many : TrackTable → Bool
are_too_many t = nat_lt 65535 (length t.tracks) || nat_lt 65535 (length t.sizes)

-- the same, if there is any
abbrev pub part_too_many : Option TrackTable → Bool
part_too_many None = false
part_too_many (Some t) = are_too_many t

-- the first track whose values stand past the places that a number of 16 bits has
abbrev pub first_far : ℕ → TrackTable → Option ℕ
first_far at t = find (λ k. nat_lt 65535 (place_of_values at t k)) (range_with_len 0 (length t.tracks))

-- the same, if there are any tracks
abbrev pub part_far : ℕ → Option TrackTable → Option ℕ
part_far at None = None
part_far at (Some t) = first_far at t

-- the bytes of a table whose rows are written, or why its columns are not
abbrev pub columns_written : TrackingTable → Result (List ℕ) TrakWriteError
columns_written t =
    if nat_lt 65535 (columns_offset t) then Err ColumnsTooFar else
    elim (part_far (columns_offset t) t.columns) [ None ↦ Ok (trak_bytes t) | Some k ↦ Err (ColumnValues k) ]

-- the bytes of a table, or why it is not written
abbrev pub trak_written : TrackingTable → Result (List ℕ) TrakWriteError
trak_written t =
    if part_too_many t.rows || part_too_many t.columns then Err TooMany else
    elim (part_far (rows_offset t) t.rows) [ None ↦ columns_written t | Some k ↦ Err (RowValues k) ]
