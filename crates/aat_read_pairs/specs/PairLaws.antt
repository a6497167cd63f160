-- What pairs that are read say, in the words of their bytes.
use Rattle.std.specs.Prelude.{◌≡◌, ℕ, ℤ, pos, ◌+◌, ◌*◌, ◌-◌, ◌<◌, ◌≤◌, List, length, if◌then◌else◌, nat_le, nat_lt, ◌==◌, ◌&&◌, option_map, Ok, None}
use Rattle.aat_bytes.specs.Numbers.{be16, be32, signed16}
use Rattle.aat_kerning_tables.specs.Classes.{ClassValues, kerning_by_classes}
use Rattle.aat_lookup.specs.Keys.{first_fall}
use Rattle.aat_kerning_tables.specs.Pairs.{kerning_of, key_of_pair, pair_key}
use Rattle.aat_bytes.specs.Bisection.{row_found}
use Rattle.aat_read_pairs.specs.KernClasses.{kern_classes_at}
use Rattle.aat_read_pairs.specs.KerningValues.{no_tuples}
use Rattle.aat_read_pairs.specs.ListedPairs.{found_pairs, kern_pairs_at, kerx_pairs_at, key_at, pair_at, pairs_at}
use Rattle.aat_read_pairs.specs.declared.values.Tuples.{Tuples}

-- pairs that are read rise strictly
abbrev pub PairsRise : Type 0
PairsRise =
    (bytes : List ℕ) (place : ℕ) (pairs : List (ℕ × ℕ × ℤ))
    → kern_pairs_at bytes place ≡ Ok pairs → first_fall key_of_pair pairs ≡ None

-- those of `kerx` too
abbrev pub ExtendedPairsRise : Type 0
ExtendedPairsRise =
    (bytes : List ℕ) (start tuple_count : ℕ) (pairs : List (ℕ × ℕ × ℤ))
    → kerx_pairs_at bytes start tuple_count ≡ Ok pairs → first_fall key_of_pair pairs ≡ None

-- the value of two glyphs by pairs that are read is that of the row, of all their rows, that a bisection finds for them
abbrev pub PairsAreThoseFound : Type 0
PairsAreThoseFound =
    (bytes : List ℕ) (place left right : ℕ) (pairs : List (ℕ × ℕ × ℤ))
    → kern_pairs_at bytes place ≡ Ok pairs
    → kerning_of pairs left right
    ≡ option_map (λ i. (pair_at bytes no_tuples (place + 8) i).2)
    (row_found (key_at bytes (place + 8)) (be16 bytes place) (pair_key left right))

-- that by pairs of `kerx` too
abbrev pub ExtendedPairsAreThoseFound : Type 0
ExtendedPairsAreThoseFound =
    (bytes : List ℕ) (start tuple_count left right : ℕ) (pairs : List (ℕ × ℕ × ℤ))
    → kerx_pairs_at bytes start tuple_count ≡ Ok pairs
    → kerning_of pairs left right
    ≡ option_map (λ i. (pair_at bytes (record { place = start; count = tuple_count }) (start + 28) i).2)
    (row_found (key_at bytes (start + 28)) (be32 bytes (start + 12)) (pair_key left right))

-- pairs whose rows rise strictly are all of their rows
abbrev pub RisingPairsAreAll : Type 0
RisingPairsAreAll =
    (bytes : List ℕ) (tuples : Tuples) (place count : ℕ)
    → first_fall key_of_pair (pairs_at bytes tuples place count) ≡ None
    → found_pairs bytes tuples place count ≡ pairs_at bytes tuples place count

-- the offset that a class table of `kern` at a place has for a glyph, and 0 where it has none
abbrev pub offset_in : List ℕ → ℕ → ℕ → ℕ
offset_in bytes place glyph =
    if nat_le (be16 bytes place) glyph && nat_lt glyph (be16 bytes place + be16 bytes (place + 2)) then
    be16 bytes (place + 4 + 2 * (glyph - be16 bytes place)) else 0

-- the value of a left and a right offset stands as far from the start of the subtable as their sum says: it is 0 where
-- there is no left offset, and past the end
abbrev pub value_of_offsets : List ℕ → ℕ → ℕ → ℕ → ℤ
value_of_offsets bytes start left right =
    if left == 0 then pos 0 else
    if nat_lt (length bytes) (start + left + right + 2) then pos 0 else signed16 (be16 bytes (start + left + right))

-- the value of two glyphs by a subtable of format 2 of `kern` that is read is that of their offsets
abbrev pub OffsetsAreAddedUp : Type 0
OffsetsAreAddedUp =
    (bytes : List ℕ) (start place left right : ℕ) (pairs : ClassValues)
    → left < 65536 → right < 65536 → kern_classes_at bytes start place ≡ Ok pairs
    → kerning_by_classes pairs left right
    ≡ value_of_offsets bytes start
    (offset_in bytes (start + be16 bytes (place + 2)) left) (offset_in bytes (start + be16 bytes (place + 4)) right)

-- pairs that are read have 6 bytes each
abbrev pub PairsAreBounded : Type 0
PairsAreBounded =
    (bytes : List ℕ) (place : ℕ) (pairs : List (ℕ × ℕ × ℤ))
    → kern_pairs_at bytes place ≡ Ok pairs → 6 * length pairs ≤ length bytes - place

-- those of `kerx` too
abbrev pub ExtendedPairsAreBounded : Type 0
ExtendedPairsAreBounded =
    (bytes : List ℕ) (start tuple_count : ℕ) (pairs : List (ℕ × ℕ × ℤ))
    → kerx_pairs_at bytes start tuple_count ≡ Ok pairs → 6 * length pairs ≤ length bytes - start

-- a subtable of format 2 of `kern` that is read has a value for each byte from its start on at most
abbrev pub ClassValuesAreBounded : Type 0
ClassValuesAreBounded =
    (bytes : List ℕ) (start place : ℕ) (pairs : ClassValues)
    → kern_classes_at bytes start place ≡ Ok pairs → length pairs.values ≤ length bytes - start
