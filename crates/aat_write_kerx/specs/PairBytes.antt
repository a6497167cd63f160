-- Listed pairs and pairs by classes as bytes, behind the header of a subtable. Apple's TrueType Reference Manual, "The
-- 'kerx' table", formats 0, 2 and 6.
use Rattle.std.specs.Prelude.{ℕ, ℤ, ◌+◌, ◌*◌, ◌/◌, List, [], ◌∷◌, ◌++◌, length, map, min, Option, Some, None, Result, Ok, Err, if◌then◌else◌, nat_lt, position, ◌==◌}
use Rattle.std.specs.List.{flat_map}
use Rattle.aat_kerning_tables.specs.Classes.{ClassValues}
use Rattle.aat_lookup.specs.Keys.{first_fall}
use Rattle.aat_kerning_tables.specs.Pairs.{key_of_pair}
use Rattle.aat_write_machine.specs.Lookups.{lookup_written}
use Rattle.aat_write_machine.specs.Words.{long_bytes, word_bytes}
use Rattle.aat_write_machine.specs.WriteErrors.{unless_refused}
use Rattle.aat_write_kerx.specs.AnkrBytes.{unsigned16}
use Rattle.aat_write_kerx.specs.KerxWriteErrors.{after_written, of_pairs}
use Rattle.aat_write_kerx.specs.declared.subtable_error.SubtableWriteError.{SubtableWriteError}
use Rattle.aat_write_kerx.specs.declared.subtable_error.SubtableWriteError.TheVariants.{NoColumns, TooFar}

-- a pair: a left glyph, a right glyph and their value
abbrev pub kerning_words : ℕ × ℕ × ℤ → List ℕ
kerning_words pair = pair.0 ∷ pair.1 ∷ unsigned16 pair.2 ∷ []

-- format 0: the number of pairs, three numbers for a search, and the pairs
abbrev pub pairs_bytes : List (ℕ × ℕ × ℤ) → List ℕ
pairs_bytes pairs = long_bytes (length pairs ∷ 0 ∷ 0 ∷ 0 ∷ []) ++ word_bytes (flat_map kerning_words pairs)

-- its bytes, or why it is not written
abbrev pub pairs_written : List (ℕ × ℕ × ℤ) → Result (List ℕ) SubtableWriteError
pairs_written pairs =
    of_pairs (unless_refused (first_fall key_of_pair pairs) (nat_lt 268435455 (length pairs)) (pairs_bytes pairs))

-- values of 16 bits
abbrev pub value_bytes : List ℤ → List ℕ
value_bytes values = word_bytes (map unsigned16 values)

-- a glyph with the offset of the row of its class, which counts values
abbrev pub with_offset : ℕ → ℕ × ℕ → ℕ × ℕ
with_offset width pair = (pair.0, pair.1 * width)

-- the place of the first class whose row has no offset of 16 bits
abbrev pub first_far : ℕ → List (ℕ × ℕ) → Option ℕ
first_far width pairs = position (λ pair. nat_lt 65535 (pair.1 * width)) pairs

-- the bytes of classes as offsets of rows of so many values, given the first that is too far
abbrev pub unless_far : ℕ → List (ℕ × ℕ) → Option ℕ → Result (List ℕ) SubtableWriteError
unless_far width pairs (Some place) = Err (TooFar place)
unless_far width pairs None = of_pairs (lookup_written (map (with_offset width) pairs))

-- the bytes of the classes of left glyphs, or why they are not written
abbrev pub left_written : ClassValues → Result (List ℕ) SubtableWriteError
left_written t =
    if t.right_count == 0 then Err NoColumns else unless_far t.right_count t.left (first_far t.right_count t.left)

-- where the lookups and the values start, from where the first lookup does
abbrev pub part_offsets : ℕ → List ℕ → List ℕ → List ℕ
part_offsets start left right = start ∷ (start + length left) ∷ (start + length left + length right) ∷ []

-- the header of format 2: the bytes of a row, and the offsets, which count the header of the subtable
abbrev pub classes_header : List ℕ → List ℕ → ClassValues → List ℕ
classes_header left right t = long_bytes (2 * t.right_count ∷ part_offsets 28 left right)

-- the number of rows, as far as 16 bits can say
abbrev pub row_count : ClassValues → ℕ
row_count t = min (length t.values / t.right_count) 65535

-- the header of format 6: flags of 0, the numbers of rows and columns, the offsets, and no tuples
abbrev pub arrays_header : List ℕ → List ℕ → ClassValues → List ℕ
arrays_header left right t =
    long_bytes (0 ∷ []) ++ (word_bytes (row_count t ∷ t.right_count ∷ []) ++ (long_bytes (part_offsets 36 left right)
    ++ long_bytes (0 ∷ [])))

-- a header, the lookups of left and right glyphs, and the values
abbrev pub grid_bytes : List ℕ → List ℕ → List ℕ → List ℤ → List ℕ
grid_bytes header left right values = header ++ (left ++ (right ++ value_bytes values))

-- the bytes of pairs by classes with such a header, or why they are not written
abbrev pub grid_written :
    (List ℕ → List ℕ → ClassValues → List ℕ) → ClassValues → Result (List ℕ) SubtableWriteError
grid_written header t =
    after_written (left_written t) (λ left.
    after_written (of_pairs (lookup_written t.right)) (λ right.
    Ok (grid_bytes (header left right t) left right t.values)))

-- format 2, or why it is not written
abbrev pub classes_written : ClassValues → Result (List ℕ) SubtableWriteError
classes_written t = grid_written classes_header t

-- format 6, or why it is not written
abbrev pub arrays_written : ClassValues → Result (List ℕ) SubtableWriteError
arrays_written t = grid_written arrays_header t
