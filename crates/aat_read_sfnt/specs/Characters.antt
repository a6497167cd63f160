-- The character map. Apple's TrueType Reference Manual, "The 'cmap' table".
use Rattle.std.specs.Prelude.{ℕ, ◌+◌, ◌*◌, List, [], ◌∷◌, length, Option, Some, None, Result, Ok, Err, if◌then◌else◌, nat_lt, ◌==◌, find, is_ok, is_some}
use Rattle.std.specs.List.{range_with_len}
use Rattle.std.specs.Option.{option_or}
use Rattle.aat_bytes.specs.Faults.{after, fault_at}
use Rattle.aat_bytes.specs.Numbers.{be16, be32, slice_from}
use Rattle.aat_bytes.specs.declared.error.Fault.{Fault}
use Rattle.aat_bytes.specs.declared.error.FaultKind.TheVariants.{PastEnd, UnknownFormat, Missing}
use Rattle.aat_bytes.specs.declared.tags.TheConstants.{CMAP}
use Rattle.aat_read_sfnt.specs.CharacterSets.{glyph_in_set, set_of}
use Rattle.aat_read_sfnt.specs.SegmentMapping.{segment_glyph, segments_at}
use Rattle.aat_read_sfnt.specs.SegmentedCoverage.{group_glyph, groups_at}
use Rattle.aat_read_sfnt.specs.ShortTables.{byte_encoding_at, byte_glyph, trimmed_glyph, trimmed_table_at}
use Rattle.aat_read_sfnt.specs.declared.cmap.CharacterMap.{CharacterMap}
use Rattle.aat_read_sfnt.specs.declared.cmap.Cmap.{Cmap}
use Rattle.aat_read_sfnt.specs.declared.cmap.Cmap.TheVariants.{ByteEncoding, SegmentMapping, TrimmedTable, SegmentedCoverage}

-- a record has 8 bytes: platform and encoding, which are read as one number, and the offset of the subtable
abbrev pub record_place : ℕ → ℕ
record_place i = 4 + 8 * i

-- platforms and encodings in the order in which HarfBuzz takes them: 3 with 0, symbols; 3 with 10, 0 with 6 and 4,
-- which have all characters; 3 with 1, 0 with 3, 2, 1 and 0; and 1 with 0, of the Macintosh
abbrev pub encodings : List ℕ
encodings = 0x30000 ∷ 0x3000A ∷ 6 ∷ 4 ∷ 0x30001 ∷ 3 ∷ 2 ∷ 1 ∷ 0 ∷ 0x10000 ∷ []

-- the first record of a platform and encoding, in the order of the file
unfoldable pub record_with : List ℕ → ℕ → Option ℕ
record_with bytes encoding = find (λ i. be32 bytes (record_place i) == encoding) (range_with_len 0 (be16 bytes 2))

-- the first of some encodings that has a record
unfoldable pub first_encoding : List ℕ → List ℕ → Option ℕ
first_encoding bytes among = find (λ encoding. is_some (record_with bytes encoding)) among

-- what comes of a subtable
abbrev pub as_map : (List ℕ → Cmap) → Result (List ℕ) Fault → Result Cmap Fault
as_map form subtable = after subtable (λ bytes. Ok (form bytes))

-- the subtable at the start of bytes, which stand at a place of the table, by its format. HarfBuzz reads others too, or
-- takes them to have no glyphs; here they are a fault
unfoldable pub subtable_at : List ℕ → ℕ → Result Cmap Fault
subtable_at bytes place =
    if nat_lt (length bytes) 2 then Err (fault_at CMAP PastEnd place) else
    if be16 bytes 0 == 0 then as_map ByteEncoding (byte_encoding_at bytes place) else
    if be16 bytes 0 == 4 then as_map SegmentMapping (segments_at bytes place) else
    if be16 bytes 0 == 6 then as_map TrimmedTable (trimmed_table_at bytes place) else
    if be16 bytes 0 == 12 then as_map SegmentedCoverage (groups_at bytes place) else
    Err (fault_at CMAP UnknownFormat place)

-- the subtable of a record, if there is one
unfoldable pub subtable_of : List ℕ → Option ℕ → Result Cmap Fault
subtable_of bytes None = Err (fault_at CMAP Missing 4)
subtable_of bytes (Some i) = elim (slice_from bytes (be32 bytes (record_place i + 4))) [
  | None ↦ Err (fault_at CMAP PastEnd (be32 bytes (record_place i + 4)))
  | Some subtable ↦ subtable_at subtable (be32 bytes (record_place i + 4))
]

-- the subtable of a platform and encoding
abbrev pub subtable_with : List ℕ → ℕ → Result Cmap Fault
subtable_with bytes encoding = subtable_of bytes (record_with bytes encoding)

-- the first of some encodings whose subtable has no fault
unfoldable pub sound_encoding : List ℕ → List ℕ → Option ℕ
sound_encoding bytes among = find (λ encoding. is_ok (subtable_with bytes encoding)) among

-- the encoding that is taken: the first without a fault, as HarfBuzz 6.0.0 does, where 12.3.2 drops the table; and
-- where each has one the first that has a record, whose fault is that of the table
abbrev pub best_encoding : List ℕ → Option ℕ
best_encoding bytes = option_or (sound_encoding bytes encodings) (first_encoding bytes encodings)

-- the map of an encoding, if there is one
abbrev pub map_of : List ℕ → Option ℕ → Result CharacterMap Fault
map_of bytes None = Err (fault_at CMAP Missing 4)
map_of bytes (Some encoding) =
    after (subtable_with bytes encoding)
    (λ subtable. Ok (record { subtable = subtable; character_set = set_of encoding }))

-- the map of a table: a header of 4 bytes, of version 0, and all its records
unfoldable pub cmap_of : List ℕ → Result CharacterMap Fault
cmap_of bytes =
    if nat_lt (length bytes) 4 then Err (fault_at CMAP PastEnd 0) else
    if be16 bytes 0 == 0 then
    (if nat_lt (length bytes) (4 + 8 * be16 bytes 2) then Err (fault_at CMAP PastEnd 4) else
    map_of bytes (best_encoding bytes))
    else Err (fault_at CMAP UnknownFormat 0)

-- the glyph that a subtable gives a number, if that is not 0
abbrev pub glyph_of : Cmap → ℕ → Option ℕ
glyph_of (ByteEncoding bytes) character = byte_glyph bytes character
glyph_of (SegmentMapping bytes) character = segment_glyph bytes character
glyph_of (TrimmedTable bytes) character = trimmed_glyph bytes character
glyph_of (SegmentedCoverage bytes) character = group_glyph bytes character

-- the glyph of a character
abbrev pub mapped_glyph : CharacterMap → ℕ → Option ℕ
mapped_glyph map character = glyph_in_set map.character_set (glyph_of map.subtable) character
