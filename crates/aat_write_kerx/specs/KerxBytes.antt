-- The extended kerning table as bytes. Apple's TrueType Reference Manual, "The 'kerx' table".
use Rattle.std.specs.Prelude.{ℕ, ◌+◌, ◌^◌, List, [], ◌∷◌, ◌++◌, length, sum_by, Bool, not, Result, Ok, Err, if◌then◌else◌, nat_le, ◌==◌}
use Rattle.std.specs.List.{flat_map}
use Rattle.aat_kerning_tables.specs.declared.kerx.KerxFormat.{KerxFormat}
use Rattle.aat_kerning_tables.specs.declared.kerx.KerxFormat.TheVariants.{Format0, Format1, Format2, Format2Classes, Format4, Format6, Format6Classes}
use Rattle.aat_kerning_tables.specs.declared.kerx.KerxSubtable.{KerxSubtable}
use Rattle.aat_write_machine.specs.Words.{long_bytes, word_bytes}
use Rattle.aat_write_kerx.specs.KerxWriteErrors.{after_written, of_subtable}
use Rattle.aat_write_kerx.specs.MachineBytes.{anchor_written, stack_written}
use Rattle.aat_write_kerx.specs.PairBytes.{arrays_written, classes_written, pairs_written}
use Rattle.aat_write_kerx.specs.declared.kerx_error.KerxWriteError.{KerxWriteError}
use Rattle.aat_write_kerx.specs.declared.kerx_error.KerxWriteError.TheVariants.{TooLong}
use Rattle.aat_write_kerx.specs.declared.subtable_error.SubtableWriteError.{SubtableWriteError}
use Rattle.aat_write_kerx.specs.declared.subtable_error.SubtableWriteError.TheVariants.{Listed, HasTuples, Variable}

-- the numbers of the formats
abbrev pub format_number : KerxFormat → ℕ
format_number (Format0 pairs) = 0
format_number (Format1 t) = 1
format_number (Format2 pairs) = 2
format_number (Format2Classes t) = 2
format_number (Format4 t) = 4
format_number (Format6 pairs) = 6
format_number (Format6Classes t) = 6

-- what has single values, so that there are no tuples
abbrev pub without_tuples : ℕ → Result (List ℕ) SubtableWriteError → Result (List ℕ) SubtableWriteError
without_tuples tuple_count written = if tuple_count == 0 then written else Err HasTuples

-- the bytes of a format behind the header of a subtable with tuples of so many values, or why it is not written
abbrev pub format_written : ℕ → KerxFormat → Result (List ℕ) SubtableWriteError
format_written tuple_count (Format0 pairs) = without_tuples tuple_count (pairs_written pairs)
format_written tuple_count (Format1 t) = stack_written t
format_written tuple_count (Format2 pairs) = Err Listed
format_written tuple_count (Format2Classes t) = without_tuples tuple_count (classes_written t)
format_written tuple_count (Format4 t) = anchor_written t
format_written tuple_count (Format6 pairs) = Err Listed
format_written tuple_count (Format6Classes t) = without_tuples tuple_count (arrays_written t)

-- a number where something holds
abbrev pub flag : ℕ → Bool → ℕ
flag number holds = if holds then number else 0

-- the coverage: vertical, across the line, and from the last glyph to the first, and the format in the lowest byte
abbrev pub coverage_number : KerxSubtable → ℕ
coverage_number s =
    flag 0x80000000 (not s.horizontal) + flag 0x40000000 s.has_cross_stream + flag 0x10000000 s.is_last_to_first
    + format_number s.format

-- a subtable to be written: its coverage, how many values stand together, and the bytes behind its header
pub record SubtableContent : Type 0 where
  pub coverage : ℕ
  pub tuple_count : ℕ
  pub body : List ℕ

-- the length of a subtable, which counts its header
abbrev pub subtable_size : SubtableContent → ℕ
subtable_size s = 12 + length s.body

-- a subtable: its length, coverage and tuple count, and its body
abbrev pub subtable_bytes : SubtableContent → List ℕ
subtable_bytes s = long_bytes (subtable_size s ∷ s.coverage ∷ s.tuple_count ∷ []) ++ s.body

-- a subtable with the bytes of its format, or why it is not written: one of variations is not
abbrev pub subtable_content : KerxSubtable → Result SubtableContent SubtableWriteError
subtable_content s =
    if s.variable then Err Variable else
    after_written (format_written s.tuple_count s.format) (λ body. Ok (record {
      coverage = coverage_number s;
      tuple_count = s.tuple_count;
      body = body;
    }))

-- subtables with the bytes of their formats, the first one of a number, or the first error with the number of its
-- subtable
abbrev pub contents_from : ℕ → List KerxSubtable → Result (List SubtableContent) KerxWriteError
contents_from number [] = Ok []
contents_from number (s ∷ subtables) =
    after_written (of_subtable number (subtable_content s)) (λ content.
    after_written (contents_from (number + 1) subtables) (λ contents. Ok (content ∷ contents)))

-- the length of a table
abbrev pub table_size : List SubtableContent → ℕ
table_size subtables = 8 + sum_by subtable_size subtables

-- a table: version 2, a word of 0, the number of subtables, and the subtables
abbrev pub table_bytes : List SubtableContent → List ℕ
table_bytes subtables =
    word_bytes (2 ∷ 0 ∷ []) ++ (long_bytes (length subtables ∷ []) ++ flat_map subtable_bytes subtables)

-- the bytes of subtables, if they have fewer than 2 ^ 32
abbrev pub table_written : List SubtableContent → Result (List ℕ) KerxWriteError
table_written subtables = if nat_le (2 ^ 32) (table_size subtables) then Err TooLong else Ok (table_bytes subtables)

-- the bytes of a table, or why it is not written
abbrev pub kerx_written : List KerxSubtable → Result (List ℕ) KerxWriteError
kerx_written subtables = after_written (contents_from 0 subtables) table_written
