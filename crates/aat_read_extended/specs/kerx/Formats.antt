-- What a subtable of the extended kerning table does, by its format. Apple's TrueType Reference Manual, "The 'kerx'
-- table", subtable formats.
use Rattle.std.specs.Prelude.{ℕ, ◌+◌, ◌%◌, List, length, Bool, Some, None, Result, Ok, Err, if◌then◌else◌, nat_lt, nat_le, ◌==◌, ◌&&◌}
use Rattle.aat_bytes.specs.Faults.{after, fault_at}
use Rattle.aat_bytes.specs.Numbers.{be32}
use Rattle.aat_bytes.specs.declared.error.Fault.{Fault}
use Rattle.aat_bytes.specs.declared.error.FaultKind.TheVariants.{PastEnd, UnknownFormat}
use Rattle.aat_bytes.specs.declared.tags.TheConstants.{KERX}
use Rattle.aat_kerning_tables.specs.declared.kerx.KerxFormat.{KerxFormat}
use Rattle.aat_kerning_tables.specs.declared.kerx.KerxFormat.TheVariants.{Format0, Format1, Format2Classes, Format4, Format6Classes}
use Rattle.aat_read_pairs.specs.KerxClasses.{kerx_arrays_at, kerx_classes_at}
use Rattle.aat_read_pairs.specs.ListedPairs.{kerx_pairs_at}
use Rattle.aat_read_pairs.specs.LongArrays.{kerx_long_arrays_at, wide_value_at}
use Rattle.aat_read_extended.specs.kerx.Machines.{action_type, anchor_tables_at, stack_tables_at}
use Rattle.aat_read_extended.specs.declared.kerx.formats.FormatRead.{FormatRead}
use Rattle.aat_read_extended.specs.declared.kerx.formats.FormatRead.TheVariants.{Kerns, LeftOut}

-- what comes of the tables of a format
abbrev pub as_format : {X : Type 0} → (X → KerxFormat) → Result X Fault → Result FormatRead Fault
as_format format tables = after tables (λ x. Ok (Kerns (format x)))

-- what is left out, for what stands at a place
abbrev pub left_out_at : ℕ → Result FormatRead Fault
left_out_at place = Ok (LeftOut (fault_at KERX UnknownFormat place))

-- format 4 behind the header of a subtable. By control points or coordinates it is left out
unfoldable pub anchor_format_at : List ℕ → ℕ → ℕ → Result FormatRead Fault
anchor_format_at bytes place glyph_count =
    if nat_lt (length bytes) (place + 20) then Err (fault_at KERX PastEnd place) else
    if action_type bytes place == 1 then as_format Format4 (anchor_tables_at bytes place glyph_count) else
    left_out_at (place + 16)

-- whether the lowest of the flags of a subtable of format 6 is set, so that its values and lookups have 32 bits
abbrev pub is_long : List ℕ → ℕ → Bool
is_long bytes place = nat_le (place + 16) (length bytes) && (be32 bytes (place + 12) % 2 == 1)

-- format 6 with values of 32 bits. For the first value that 16 bits do not have it is left out
unfoldable pub long_format_at : List ℕ → ℕ → ℕ → ℕ → Result FormatRead Fault
long_format_at bytes place glyph_count tuple_count = elim (wide_value_at bytes place tuple_count) [
  | None ↦ as_format Format6Classes (kerx_long_arrays_at bytes place glyph_count tuple_count)
  | Some at ↦ left_out_at at
]

-- format 6
unfoldable pub arrays_format_at : List ℕ → ℕ → ℕ → ℕ → Result FormatRead Fault
arrays_format_at bytes place glyph_count tuple_count =
    if is_long bytes place then long_format_at bytes place glyph_count tuple_count else
    as_format Format6Classes (kerx_arrays_at bytes place glyph_count tuple_count)

-- the subtable of a format that starts at a place, for a font of so many glyphs, with tuples of so many values. One of
-- another format is left out. Its header has 12 bytes, with the coverage at 4
unfoldable pub format_at : List ℕ → ℕ → ℕ → ℕ → ℕ → Result FormatRead Fault
format_at bytes place format glyph_count tuple_count =
    if format == 0 then as_format Format0 (kerx_pairs_at bytes place tuple_count) else
    if format == 1 then as_format Format1 (stack_tables_at bytes (place + 12) glyph_count) else
    if format == 2 then as_format Format2Classes (kerx_classes_at bytes place glyph_count tuple_count) else
    if format == 4 then anchor_format_at bytes (place + 12) glyph_count else
    if format == 6 then arrays_format_at bytes place glyph_count tuple_count else
    left_out_at (place + 4)
