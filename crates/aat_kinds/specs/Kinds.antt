-- The run of a subtable, by its kind, and on the line in the opposite order. Apple's TrueType Reference Manual, "The
-- 'morx' table", chains and the coverage of subtables.
use Rattle.std.specs.Prelude.{ℕ, not, Bool, true, false, List, length, Option, if◌then◌else◌, ◌||◌}
use Rattle.aat_buffer.specs.Buffer.{Buffer, with_line, reversed}
use Rattle.aat_glyph.specs.declared.glyph.Direction.{Direction}
use Rattle.aat_machine_tables.specs.Coverage.{is_backwards, is_logical, is_vertical_coverage, is_all_directions}
use Rattle.aat_machine_tables.specs.Table.{TableValue}
use Rattle.aat_machine_tables.specs.declared.morx.Coverage.{Coverage}
use Rattle.aat_font.specs.Face.{glyph_classes_of}
use Rattle.aat_font.specs.declared.face.hb_font_t.{hb_font_t}
use Rattle.aat_lookup.specs.declared.glyph_id.GlyphId.{GlyphId}
use Rattle.aat_machine_tables.specs.declared.state_table.GenericStateEntry.{GenericStateEntry}
use Rattle.aat_machine_tables.specs.declared.entries.ContextualEntryData.{ContextualEntryData}
use Rattle.aat_machine_tables.specs.declared.entries.InsertionEntryData.{InsertionEntryData}
use Rattle.aat_glyph.specs.Directions.{is_backward, is_vertical}
use Rattle.aat_lookup.specs.Truth.{is_alike}
use Rattle.aat_run.specs.Driven.{machine_run}
use Rattle.aat_run.specs.Outcome.{Outcome}
use Rattle.aat_kinds.specs.Values.{noncontextual}
use Rattle.aat_machine_tables.specs.declared.morx.SubtableKind.{SubtableKind}
use Rattle.aat_machine_tables.specs.declared.morx.SubtableKind.TheVariants.{Rearrangement, Contextual, Ligature, NonContextual, Insertion}
use Rattle.aat_kinds.specs.Rearrangement as rearrangement
use Rattle.aat_kinds.specs.Contextual as contextual
use Rattle.aat_kinds.specs.Ligature as ligature
use Rattle.aat_kinds.specs.Insertion as insertion

-- a rearrangement subtable, whose spans have at most so many glyphs
unfoldable pub rearrangement_run : ℕ → (ℕ → Bool) → TableValue (GenericStateEntry (Unit {0})) → Buffer → Outcome
rearrangement_run bound on table b = machine_run on table (rearrangement.context bound) b

-- a contextual subtable, with the glyph classes of the font where it has them
unfoldable pub contextual_run :
    (ℕ → Bool) → Option (List (ℕ × ℕ)) → TableValue (GenericStateEntry ContextualEntryData) → List (List (ℕ × ℕ))
    → Buffer → Outcome
contextual_run on classes table lookups b = machine_run on table (contextual.context classes lookups) b

-- a ligature subtable, with so many slots
unfoldable pub ligature_run :
    ℕ → (ℕ → Bool) → TableValue (GenericStateEntry ℕ) → List ℕ → List ℕ → List GlyphId → Buffer → Outcome
ligature_run size on table actions components ligatures b =
    machine_run on table (ligature.context actions components ligatures size) b

-- an insertion subtable
unfoldable pub insertion_run :
    (ℕ → Bool) → TableValue (GenericStateEntry InsertionEntryData) → List GlyphId → Buffer → Outcome
insertion_run on table glyphs b = machine_run on table (insertion.context glyphs) b

-- a noncontextual subtable takes as many turns as there are glyphs
unfoldable pub noncontextual_run : (ℕ → Bool) → Option (List (ℕ × ℕ)) → List (ℕ × ℕ) → Buffer → Outcome
noncontextual_run on classes lookup b =
    record { buffer = with_line b (noncontextual on classes lookup b.line); turns = length b.line }

-- Whether a subtable runs on the line in the opposite order. The line stands as the text is read. A subtable in logical
-- order says by itself whether it takes the glyphs backwards. Any other is meant for the order in which the glyphs are
-- drawn, which of a text that runs backward is the opposite one: so its line is turned round where the text runs
-- backward and the subtable does not, or the other way about.
abbrev pub is_reversed : Coverage → Direction → Bool
is_reversed coverage direction =
    if is_logical coverage then is_backwards coverage
    else not (is_alike (is_backwards coverage) (is_backward direction))

-- a run on the line in the opposite order, which is then turned back
abbrev pub reversed_run : (Buffer → Outcome) → Buffer → Outcome
reversed_run run b = let o = run (reversed b) in record { buffer = reversed o.buffer; turns = o.turns }

-- a run in the order of a coverage
abbrev pub ordered_run : Coverage → (Buffer → Outcome) → Buffer → Outcome
ordered_run coverage run b = if is_reversed coverage b.direction then reversed_run run b else run b

-- the longest span of a rearrangement, the slots of a ligature machine, and the glyph classes of the font
pub record Sizes : Type 0 where
  pub bound : ℕ
  pub slots : ℕ
  pub classes : Option (List (ℕ × ℕ))

-- what a run in a font is given: so many slots, spans of at most so many glyphs, and the font's classes
abbrev pub sizes_of : ℕ → ℕ → hb_font_t → Sizes
sizes_of slots bound face = record { bound = bound; slots = slots; classes = glyph_classes_of face }

-- the same with 64 slots, and spans of at most 64 glyphs
abbrev pub sizes_for : hb_font_t → Sizes
sizes_for face = sizes_of 64 64 face

-- the run of a subtable by its kind, where `on` tells at which clusters it is on
abbrev pub kind_run : Sizes → (ℕ → Bool) → SubtableKind → Buffer → Outcome
kind_run z on (Rearrangement table) b = rearrangement_run z.bound on table b
kind_run z on (Contextual s) b = contextual_run on z.classes s.state s.lookups b
kind_run z on (Ligature s) b = ligature_run z.slots on s.state s.actions s.components s.ligatures b
kind_run z on (NonContextual lookup) b = noncontextual_run on z.classes lookup b
kind_run z on (Insertion s) b = insertion_run on s.state s.glyphs b

-- a subtable is one of insertion, the only kind that changes the number of glyphs
abbrev pub is_insertion : SubtableKind → Bool
is_insertion (Rearrangement table) = false
is_insertion (Contextual s) = false
is_insertion (Ligature s) = false
is_insertion (NonContextual lookup) = false
is_insertion (Insertion s) = true

-- a subtable is for text of this direction
abbrev pub is_for : Direction → Coverage → Bool
is_for direction coverage =
    is_all_directions coverage || is_alike (is_vertical_coverage coverage) (is_vertical direction)
