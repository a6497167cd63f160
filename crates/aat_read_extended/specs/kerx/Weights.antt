-- What an extended kerning table weighs that is read: the bytes of memory that it takes.
use Rattle.std.specs.Prelude.{ℕ, ◌+◌, ◌*◌, ◌/◌, List, length, if◌then◌else◌, Ok, Err}
use Rattle.aat_bytes.specs.Numbers.{be32}
use Rattle.aat_bytes.specs.declared.tags.TheConstants.{KERX}
use Rattle.aat_kerning_tables.specs.Classes.{ClassValues}
use Rattle.aat_kerning_tables.specs.KerningTables.{KerxAnchorTables, KerxStackTables}
use Rattle.aat_kerning_tables.specs.declared.kerx.KerxFormat.{KerxFormat}
use Rattle.aat_kerning_tables.specs.declared.kerx.KerxFormat.TheVariants.{Format0, Format1, Format2, Format2Classes, Format4, Format6, Format6Classes}
use Rattle.aat_read_lookup.specs.LongSizes.{long_size_at}
use Rattle.aat_read_lookup.specs.Sizes.{lookup_size_at}
use Rattle.aat_read_machine.specs.InTurn.{weight_in_turn}
use Rattle.aat_read_machine.specs.Kinds.{list_place}
use Rattle.aat_read_machine.specs.Weights.{machine_weight}
use Rattle.aat_read_pairs.specs.Weights.{pairs_weight}
use Rattle.aat_read_pairs.specs.declared.weights.TheConstants.{LEFT_OUT_SIZE}
use Rattle.aat_read_extended.specs.kerx.Formats.{is_long}
use Rattle.aat_read_extended.specs.kerx.KerxSubtables.{KerxStart, subtable_at, used_bytes}
use Rattle.aat_read_extended.specs.kerx.KerxTables.{first_subtable}
use Rattle.aat_read_extended.specs.declared.kerx.subtables.SubtableRead.{SubtableRead}
use Rattle.aat_read_extended.specs.declared.kerx.subtables.SubtableRead.TheVariants.{Kerns, LeftOut}
use Rattle.aat_read_extended.specs.declared.kerx.weights.TheConstants.{KERX_RULE_SIZE, KERX_SUBTABLE_SIZE}

-- the values of the lookup at a place, as pairs or segments, with the cells beside them: none where it has a fault
abbrev pub lookup_weight : List ℕ → ℕ → ℕ → ℕ
lookup_weight bytes place glyph_count = elim (lookup_size_at KERX bytes place glyph_count) [
  | Ok size ↦ size
  | Err fault ↦ 0
]

-- the classes of the state table at a place
abbrev pub classes_weight : List ℕ → ℕ → ℕ → ℕ
classes_weight bytes place glyph_count = lookup_weight bytes (list_place bytes place 4) glyph_count

-- a machine of format 1 at a place, its values of two bytes, and its classes
abbrev pub stack_weight : List ℕ → ℕ → ℕ → KerxStackTables → ℕ
stack_weight bytes place glyph_count t =
    machine_weight KERX_RULE_SIZE t.state_table + 2 * length t.values + classes_weight bytes place glyph_count

-- a machine of format 4 at a place, its pairs of four bytes, and its classes
abbrev pub anchor_weight : List ℕ → ℕ → ℕ → KerxAnchorTables → ℕ
anchor_weight bytes place glyph_count t =
    machine_weight KERX_RULE_SIZE t.state_table + 4 * length t.anchor_points + classes_weight bytes place glyph_count

-- pairs by classes: the lookups of left and of right glyphs at two places, values of two bytes, and a byte for each left
-- class that they reach
abbrev pub class_pairs_weight : List ℕ → ℕ → ℕ → ℕ → ClassValues → ℕ
class_pairs_weight bytes left right glyph_count pairs =
    lookup_weight bytes left glyph_count + lookup_weight bytes right glyph_count + 2 * length pairs.values
    + (length pairs.values / pairs.right_count + 1)

-- the rows of the lookup with values of 32 bits at a place, where rows have so many values: none where it has a fault
abbrev pub long_weight : List ℕ → ℕ → ℕ → ℕ → ℕ
long_weight bytes place glyph_count width = elim (long_size_at KERX bytes place glyph_count width) [
  | Ok size ↦ size
  | Err fault ↦ 0
]

-- pairs by classes whose lookups have values of 32 bits
abbrev pub long_pairs_weight : List ℕ → ℕ → ℕ → ℕ → ClassValues → ℕ
long_pairs_weight bytes left right glyph_count pairs =
    long_weight bytes left glyph_count pairs.right_count + long_weight bytes right glyph_count 1
    + 2 * length pairs.values + (length pairs.values / pairs.right_count + 1)

-- what a subtable does that starts at a place, by its format
abbrev pub format_weight : List ℕ → ℕ → ℕ → KerxFormat → ℕ
format_weight bytes place glyph_count (Format0 pairs) = pairs_weight pairs
format_weight bytes place glyph_count (Format1 t) = stack_weight bytes (place + 12) glyph_count t
format_weight bytes place glyph_count (Format2 pairs) = pairs_weight pairs
format_weight bytes place glyph_count (Format2Classes pairs) =
    class_pairs_weight bytes (place + be32 bytes (place + 16)) (place + be32 bytes (place + 20)) glyph_count pairs
format_weight bytes place glyph_count (Format4 t) = anchor_weight bytes (place + 12) glyph_count t
format_weight bytes place glyph_count (Format6 pairs) = pairs_weight pairs
format_weight bytes place glyph_count (Format6Classes pairs) =
    let left = place + be32 bytes (place + 20) in
    let right = place + be32 bytes (place + 24) in
    if is_long bytes place then long_pairs_weight bytes left right glyph_count pairs else
    class_pairs_weight bytes left right glyph_count pairs

-- a subtable that starts there, of so many, and behind which the next one starts
abbrev pub subtable_weight : List ℕ → ℕ → ℕ → KerxStart → SubtableRead → KerxStart → ℕ
subtable_weight bytes glyph_count count start (Kerns subtable) next =
    KERX_SUBTABLE_SIZE
    + format_weight (used_bytes bytes count start.number next.place) start.place glyph_count subtable.format
subtable_weight bytes glyph_count count start (LeftOut subtable) next = LEFT_OUT_SIZE

-- all subtables of a table
abbrev pub kerx_weight : List ℕ → ℕ → ℕ
kerx_weight bytes glyph_count =
    let count = be32 bytes 4 in
    weight_in_turn (subtable_at bytes glyph_count count) (subtable_weight bytes glyph_count count) count first_subtable
