-- Glyphs over which a subtable does nothing while its machine is in state 0. Apple's TrueType Reference Manual, "The
-- 'morx' table", and "Font Tables", section on state tables.
use Rattle.std.specs.Prelude.{ℕ, Bool, false, Option, None, Some, ◌==◌, ◌&&◌, not, is_none, bit_and}
use Rattle.std.specs.Option.{unwrap_or}
use Rattle.aat_machine_tables.specs.Entries.{has_flag, goes_on, is_present}
use Rattle.aat_lookup.specs.Keys.{value_in}
use Rattle.aat_machine_tables.specs.Table.{TableValue, class_of, entry_of}
use Rattle.aat_machine_tables.specs.declared.entries.ContextualEntryData.{ContextualEntryData}
use Rattle.aat_machine_tables.specs.declared.entries.InsertionEntryData.{InsertionEntryData}
use Rattle.aat_machine_tables.specs.declared.morx.SubtableKind.{SubtableKind}
use Rattle.aat_machine_tables.specs.declared.morx.SubtableKind.TheVariants.{Rearrangement, Contextual, Ligature, NonContextual, Insertion}
use Rattle.aat_machine_tables.specs.declared.state_table.GenericStateEntry.{GenericStateEntry}

-- an entry of rearrangement that never acts: it has no verb, and sets neither end of the span
abbrev pub rearrangement_rests : GenericStateEntry (Unit {0}) → Bool
rearrangement_rests e = not (has_flag e 0x8000) && (not (has_flag e 0x2000) && (bit_and e.flags 0x000F == 0))

-- a contextual entry that never acts: it names no lookup, and sets no mark
abbrev pub contextual_rests : GenericStateEntry ContextualEntryData → Bool
contextual_rests e =
    not (has_flag e 0x8000) && (not (is_present e.extra.mark_index) && not (is_present e.extra.current_index))

-- an entry of ligatures that never acts: it holds no component, and takes none in
abbrev pub ligature_rests : GenericStateEntry ℕ → Bool
ligature_rests e = not (has_flag e 0x8000) && not (has_flag e 0x2000)

-- an entry of insertion that never acts: it names no glyphs, and sets no mark
abbrev pub insertion_rests : GenericStateEntry InsertionEntryData → Bool
insertion_rests e =
    not (has_flag e 0x8000)
    && (not (is_present e.extra.current_insert_index) && not (is_present e.extra.marked_insert_index))

-- what holds of an entry that is there
abbrev pub has_entry : {E : Type 0} → (E → Bool) → Option E → Bool
has_entry test None = false
has_entry test (Some e) = test e

-- an entry that leads over the glyph to state 0, and never acts
abbrev pub passes : {T : Type 0} → (GenericStateEntry T → Bool) → GenericStateEntry T → Bool
passes rests e = (e.new_state == 0) && (goes_on e && rests e)

module _ {T : Type 0} (rests : GenericStateEntry T → Bool) (table : TableValue (GenericStateEntry T)) where
  -- state 0 has such an entry for a class
  abbrev pub is_idle_class : ℕ → Bool
  is_idle_class class = has_entry (passes rests) (entry_of table 0 class)

  -- state 0 has an entry for the end of the text, which never acts
  abbrev pub is_idle_at_end : Bool
  is_idle_at_end = has_entry rests (entry_of table 0 0)

  -- in state 0 the machine passes a glyph, and at the end it does nothing
  abbrev pub is_idle_glyph : ℕ → Bool
  is_idle_glyph g = is_idle_at_end && is_idle_class (unwrap_or (class_of table g) 1)

-- a subtable does nothing over a glyph: its machine passes it in state 0, or its lookup has no value for it
unfoldable pub is_idle : SubtableKind → ℕ → Bool
is_idle (Rearrangement table) g = is_idle_glyph rearrangement_rests table g
is_idle (Contextual s) g = is_idle_glyph contextual_rests s.state g
is_idle (Ligature s) g = is_idle_glyph ligature_rests s.state g
is_idle (NonContextual lookup) g = is_none (value_in lookup g)
is_idle (Insertion s) g = is_idle_glyph insertion_rests s.state g
