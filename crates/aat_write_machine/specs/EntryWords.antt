-- Entries of state tables as numbers of 16 bits. Apple's TrueType Reference Manual, "Font Tables", section on state
-- tables.
use Rattle.std.specs.Prelude.{ℕ, List, [], ◌∷◌}
use Rattle.aat_machine_tables.specs.Table.{Rule}
use Rattle.aat_machine_tables.specs.declared.entries.ContextualEntryData.{ContextualEntryData}
use Rattle.aat_machine_tables.specs.declared.entries.InsertionEntryData.{InsertionEntryData}
use Rattle.aat_machine_tables.specs.declared.state_table.GenericStateEntry.{GenericStateEntry}

-- an entry: the state that follows, flags, and what the kind of machine adds
abbrev pub rule_words : {T : Type 0} → (T → List ℕ) → Rule (GenericStateEntry T) → List ℕ
rule_words words_of r = r.2.new_state ∷ r.2.flags ∷ words_of r.2.extra

-- rearrangement adds nothing
abbrev pub no_words : Unit {0} → List ℕ
no_words _ = []

-- ligature substitution adds the place of the first action
abbrev pub one_word : ℕ → List ℕ
one_word number = number ∷ []

-- contextual glyph substitution adds the lookup for the marked glyph, then that for the current one
abbrev pub contextual_words : ContextualEntryData → List ℕ
contextual_words extra = extra.mark_index ∷ extra.current_index ∷ []

-- glyph insertion adds the glyphs for the cursor, then those for the mark
abbrev pub insertion_words : InsertionEntryData → List ℕ
insertion_words extra = extra.current_insert_index ∷ extra.marked_insert_index ∷ []
