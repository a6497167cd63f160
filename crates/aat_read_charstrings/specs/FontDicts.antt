-- Where the charstrings of a font and their subroutines stand. Adobe Technical Note 5176, "The Compact Font Format
-- Specification", "Top DICT Data", "Private DICT Data" and "FDSelect".
use Rattle.std.specs.Prelude.{ℕ, ℤ, pos, ◌+◌, ◌*◌, ◌==◌, List, length, slice_index, find, Option, Some, None, Result, Ok, Err, if◌then◌else◌, nat_lt, nat_le, int_lt, unsigned_abs}
use Rattle.std.specs.List.{range_with_len}
use Rattle.aat_bytes.specs.Faults.{after}
use Rattle.aat_bytes.specs.Numbers.{be16}
use Rattle.aat_bytes.specs.declared.error.Fault.{Fault}
use Rattle.aat_bytes.specs.declared.error.FaultKind.TheVariants.{UnknownFormat, Missing}
use Rattle.aat_read_charstrings.specs.Dicts.{entry_of}
use Rattle.aat_read_charstrings.specs.Indexes.{fault_of, index_at, object_at, past}
use Rattle.aat_read_charstrings.specs.declared.dict.Operands.{Operands}
use Rattle.aat_read_charstrings.specs.declared.font_dict.TheConstants.{PRIVATE, SUBRS, FD_ARRAY, FD_SELECT}
use Rattle.aat_read_charstrings.specs.declared.index.Index.{Index}
use Rattle.aat_read_charstrings.specs.declared.index.Span.{Span}

-- the place of an operand. The fault of one below 0 is that of its DICT
abbrev pub place_of : Span → ℤ → Result ℕ Fault
place_of dict operand = if int_lt operand (pos 0) then Err (past dict.start) else Ok (unsigned_abs operand)

-- what stands at the place of an operand of a key, if the DICT has the key
abbrev pub of_entry : {X : Type 0} → List ℕ → Span → ℕ → Result X Fault → (Operands → Result X Fault) → Result X Fault
of_entry bytes dict key missing there =
    after (entry_of bytes dict key) (λ entry. elim entry [ Some operands ↦ there operands | None ↦ missing ])

-- the INDEX whose place is the operand of a key
abbrev pub index_of_entry : List ℕ → Span → ℕ → Result Index Fault
index_of_entry bytes dict key =
    of_entry bytes dict key (Err (fault_of Missing dict.start)) (λ operands.
    after (place_of dict operands.last) (index_at bytes))

-- the range of a glyph among ranges of glyphs: the first behind whose end the glyph does not lie. Each begins with its
-- first glyph, which ends the one before, and a last glyph stands behind them
abbrev pub range_number : List ℕ → ℕ → ℕ → ℕ → Option ℕ
range_number bytes place count glyph =
    find (λ range. nat_lt glyph (be16 bytes (place + 6 + 3 * range))) (range_with_len 0 count)

-- the number of the Font DICT of a glyph: in format 0 the byte of the glyph, in format 3 that of its range
abbrev pub font_number : List ℕ → ℕ → ℕ → Result ℕ Fault
font_number bytes place glyph =
    if nat_le (place + 3) (length bytes) then
    (if slice_index bytes place == 0 then
    (if nat_le (place + 1 + (glyph + 1)) (length bytes)
    then Ok (slice_index bytes (place + 1 + glyph))
    else Err (past (place + 1))) else
    if slice_index bytes place == 3 then
    (if nat_le (place + 3 + (3 * be16 bytes (place + 1) + 2)) (length bytes) then
    (elim (range_number bytes place (be16 bytes (place + 1)) glyph) [
      | Some range ↦ Ok (slice_index bytes (place + 5 + 3 * range))
      | None ↦ Err (fault_of Missing place)
    ]) else Err (past (place + 3)))
    else Err (fault_of UnknownFormat place))
    else Err (past place)

-- the Font DICT of a glyph: that of the top where there is but one
abbrev pub font_dict : List ℕ → Span → ℕ → Result Span Fault
font_dict bytes top glyph =
    of_entry bytes top FD_SELECT (Ok top) (λ operands.
    after (index_of_entry bytes top FD_ARRAY) (λ fonts.
    after (place_of top operands.last) (λ place.
    after (font_number bytes place glyph) (object_at bytes fonts))))

-- the bytes of a size at a place
abbrev pub span_at : List ℕ → ℕ → ℕ → Result (Option Span) Fault
span_at bytes size start =
    if nat_le (start + size) (length bytes)
    then Ok (Some (record { start = start; end = start + size }))
    else Err (past start)

-- the Private DICT of a Font DICT, if it has one
abbrev pub private_span : List ℕ → Span → Result (Option Span) Fault
private_span bytes dict =
    of_entry bytes dict PRIVATE (Ok None) (λ operands.
    after (place_of dict operands.before) (λ size.
    after (place_of dict operands.last) (span_at bytes size)))

-- the INDEX without objects
abbrev pub no_objects : Index → Index
no_objects beside = record { offsets = beside.offsets; count = 0; size = 0 }

-- the local subroutines of a Private DICT, from whose start their place counts
abbrev pub subroutines_of : List ℕ → Index → Span → Result Index Fault
subroutines_of bytes globals private =
    of_entry bytes private SUBRS (Ok (no_objects globals)) (λ operands.
    after (place_of private operands.last) (λ place. index_at bytes (private.start + place)))

-- the local subroutines of a glyph
abbrev pub local_subroutines : List ℕ → Index → Span → ℕ → Result Index Fault
local_subroutines bytes globals top glyph =
    after (font_dict bytes top glyph) (λ dict.
    after (private_span bytes dict) (λ private. elim private [
      | Some span ↦ subroutines_of bytes globals span
      | None ↦ Ok (no_objects globals)
    ]))
