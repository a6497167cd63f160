-- What subtables that are read weigh: the bytes of memory that their machines, lists, classes and lookups take.
use Rattle.std.specs.Prelude.{ℕ, ◌+◌, ◌*◌, List, length, Some, None, Ok, Err, sum_by}
use Rattle.std.specs.List.{range_with_len}
use Rattle.aat_bytes.specs.Numbers.{u32_at}
use Rattle.aat_bytes.specs.declared.tags.TheConstants.{MORX}
use Rattle.aat_machine_tables.specs.Subtables.{ContextualTables, InsertionTables, LigatureTables}
use Rattle.aat_machine_tables.specs.Table.{TableValue}
use Rattle.aat_machine_tables.specs.declared.morx.SubtableKind.{SubtableKind}
use Rattle.aat_machine_tables.specs.declared.morx.SubtableKind.TheVariants.{Rearrangement, Contextual, Ligature, NonContextual, Insertion}
use Rattle.aat_read_lookup.specs.Sizes.{lookup_size_at}
use Rattle.aat_read_machine.specs.Kinds.{list_place}
use Rattle.aat_read_machine.specs.declared.weights.TheConstants.{CONTEXTUAL_RULE_SIZE, INSERTION_RULE_SIZE, LIGATURE_RULE_SIZE, LOOKUP_SIZE, PLAIN_RULE_SIZE}

-- a machine whose rules take so many bytes each, with a cell for each rule. One that keeps its rows takes less: two
-- bytes for each rule, and its entries, of which it has no more than rules
abbrev pub machine_weight : {E : Type 0} → ℕ → TableValue E → ℕ
machine_weight size machine = size * length machine.rules

-- a machine, and lookups
abbrev pub contextual_weight : ContextualTables → ℕ
contextual_weight t = machine_weight CONTEXTUAL_RULE_SIZE t.state + LOOKUP_SIZE * length t.lookups

-- a machine, actions of four bytes, components of two and ligatures of two
abbrev pub ligature_weight : LigatureTables → ℕ
ligature_weight t =
    machine_weight LIGATURE_RULE_SIZE t.state + 4 * length t.actions + 2 * length t.components + 2 * length t.ligatures

-- a machine, and glyphs of two bytes
abbrev pub insertion_weight : InsertionTables → ℕ
insertion_weight t = machine_weight INSERTION_RULE_SIZE t.state + 2 * length t.glyphs

-- the values of the lookup at a place, as pairs or segments, with the cells beside them: none where it has a fault
abbrev pub values_weight : List ℕ → ℕ → ℕ → ℕ
values_weight bytes place glyph_count = elim (lookup_size_at MORX bytes place glyph_count) [
  | Ok size ↦ size
  | Err fault ↦ 0
]

-- the classes of the state table at a place
abbrev pub classes_weight : List ℕ → ℕ → ℕ → ℕ
classes_weight bytes place glyph_count = values_weight bytes (list_place bytes place 4) glyph_count

-- the values of the lookup of an index of a list
abbrev pub listed_weight : List ℕ → ℕ → ℕ → ℕ → ℕ
listed_weight bytes list glyph_count i = elim (u32_at bytes (list + 4 * i)) [
  | None ↦ 0
  | Some offset ↦ values_weight bytes (list + offset) glyph_count
]

-- the values of so many lookups of a list
abbrev pub all_listed_weight : List ℕ → ℕ → ℕ → ℕ → ℕ
all_listed_weight bytes list glyph_count count =
    sum_by (listed_weight bytes list glyph_count) (range_with_len 0 count)

-- what a subtable does whose bytes go on at a place, by its kind
abbrev pub kind_weight : List ℕ → ℕ → ℕ → SubtableKind → ℕ
kind_weight bytes place glyph_count (Rearrangement machine) =
    machine_weight PLAIN_RULE_SIZE machine + classes_weight bytes place glyph_count
kind_weight bytes place glyph_count (Contextual tables) =
    contextual_weight tables + classes_weight bytes place glyph_count
    + all_listed_weight bytes (list_place bytes place 16) glyph_count (length tables.lookups)
kind_weight bytes place glyph_count (Ligature tables) =
    ligature_weight tables + classes_weight bytes place glyph_count
kind_weight bytes place glyph_count (NonContextual lookup) = values_weight bytes place glyph_count
kind_weight bytes place glyph_count (Insertion tables) =
    insertion_weight tables + classes_weight bytes place glyph_count
