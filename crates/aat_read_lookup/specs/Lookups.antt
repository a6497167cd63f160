-- What the bytes of a lookup say. Apple's TrueType Reference Manual, "Font Tables", section on lookup tables.
use Rattle.std.specs.Prelude.{◌≡◌, ℕ, List, Option, None, Result, Ok, Err, IsOk}
use Rattle.std.specs.List.{flat_map}
use Rattle.aat_bytes.specs.Faults.{after}
use Rattle.aat_bytes.specs.declared.error.Fault.{Fault}
use Rattle.aat_bytes.specs.declared.error.ReadError.{ReadError}
use Rattle.aat_bytes.specs.declared.error.ReadError.TheVariants as errors
use Rattle.aat_bytes.specs.declared.tag.Tag.{Tag}
use Rattle.aat_read_lookup.specs.Layouts.{layout_at, segments_of}
use Rattle.aat_read_lookup.specs.Segments.{segment_pairs, value_in_segments}
use Rattle.aat_read_lookup.specs.declared.layout.Layout.{Layout}
use Rattle.aat_read_lookup.specs.declared.segment.ValueKind.TheVariants.{Word}

-- the pairs of a layout, in the order of the file
abbrev pub pairs_of : List ℕ → Layout → List (ℕ × ℕ)
pairs_of bytes layout = flat_map (segment_pairs bytes) (segments_of bytes layout)

-- the pairs of the lookup at a place of a table, for a font of so many glyphs, or its first fault
abbrev pub lookup_at : Tag → List ℕ → ℕ → ℕ → Result (List (ℕ × ℕ)) Fault
lookup_at table bytes place glyph_count =
    after (layout_at table bytes place glyph_count Word) (λ layout. Ok (pairs_of bytes layout))

-- the value of a glyph in a lookup at a place: that of the segment that has the glyph
abbrev pub value_of_glyph : Tag → List ℕ → ℕ → ℕ → ℕ → Option ℕ
value_of_glyph table bytes place glyph_count glyph = elim (layout_at table bytes place glyph_count Word) [
  | Err fault ↦ None
  | Ok layout ↦ value_in_segments bytes (segments_of bytes layout) glyph
]

-- why bytes make no table: their first fault, and want of memory only where they have none
abbrev pub Refuses : {X : Type 0} → Result X Fault → ReadError → Type 0
Refuses read (errors.Fault fault) = read ≡ Err fault
Refuses read errors.OutOfMemory = IsOk read

-- a call that takes memory gives what the bytes say
abbrev pub Gives : {X : Type 0} → Result X ReadError → Result X Fault → Type 0
Gives (Ok x) read = read ≡ Ok x
Gives (Err e) read = Refuses read e
