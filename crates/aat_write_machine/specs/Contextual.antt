-- Contextual glyph substitution as bytes. Apple's TrueType Reference Manual, "The 'morx' table".
use Rattle.std.specs.Prelude.{ℕ, ◌+◌, ◌*◌, List, [], ◌∷◌, ◌++◌, length, map, max, Bool, Result, Ok, Err, if◌then◌else◌, nat_lt, ◌==◌}
use Rattle.std.specs.List.{flat_map, fold}
use Rattle.std.specs.declared.vec.Vec.{Vec}
use Rattle.aat_machine_tables.specs.Subtables.{ContextualTables}
use Rattle.aat_machine_tables.specs.Table.{Rule}
use Rattle.aat_machine_tables.specs.declared.entries.ContextualEntryData.{ContextualEntryData}
use Rattle.aat_machine_tables.specs.declared.state_table.GenericStateEntry.{GenericStateEntry}
use Rattle.aat_read_machine.specs.Lookups.{lookups_to}
use Rattle.aat_write_machine.specs.Lookups.{lookup_written}
use Rattle.aat_write_machine.specs.EntryWords.{contextual_words}
use Rattle.aat_write_machine.specs.Kinds.{machine_end}
use Rattle.aat_write_machine.specs.Words.{long_bytes}
use Rattle.aat_write_machine.specs.Machines.{class_table_written, machine_bytes}
use Rattle.aat_write_machine.specs.MorxWriteErrors.{after_written, of_lookup}
use Rattle.aat_write_machine.specs.declared.error.MorxWriteError.{MorxWriteError}
use Rattle.aat_write_machine.specs.declared.error.MorxWriteError.TheVariants.{LookupCount, TooManyLookups, TooLong}

-- how many lookups there are at least by an entry, which has an index for the marked glyph and one for the current
-- glyph
abbrev pub lookups_named : Rule (GenericStateEntry ContextualEntryData) → ℕ
lookups_named r = max (lookups_to r.2.extra.mark_index) (lookups_to r.2.extra.current_index)

-- how many lookups the entries of rules ask for. The number is not stored: the reader takes the least one that all
-- entries fit
abbrev pub lookups_asked : List (Rule (GenericStateEntry ContextualEntryData)) → ℕ
lookups_asked rules = fold (λ most r. max most (lookups_named r)) 0 rules

-- the bytes of each lookup, or the first error
abbrev pub lookups_written : List (List (ℕ × ℕ)) → Result (List (List ℕ)) MorxWriteError
lookups_written [] = Ok []
lookups_written (pairs ∷ lookups) =
    after_written (of_lookup (lookup_written pairs)) (λ table.
    after_written (lookups_written lookups) (λ tables. Ok (table ∷ tables)))

-- where each of some tables starts that stand one behind the other
abbrev pub starts_from : ℕ → List (List ℕ) → List ℕ
starts_from at [] = []
starts_from at (table ∷ tables) = at ∷ starts_from (at + length table) tables

-- the bytes of some tables, one behind the other
abbrev pub joined : List (List ℕ) → List ℕ
joined tables = flat_map (λ table. table) tables

-- the bytes of lists of bytes
abbrev pub byte_lists : {Z : Type 0} → List (Vec ℕ Z) → List (List ℕ)
byte_lists tables = map (λ table. table.items) tables

-- whether some tables have more bytes than their offsets have room for
abbrev pub are_too_long : List (List ℕ) → Bool
are_too_long tables = nat_lt 268435455 (length (joined tables))

-- the list of lookups: their offsets of four bytes from its own start, and the lookups
abbrev pub substitution_bytes : List (List ℕ) → List ℕ
substitution_bytes tables = long_bytes (starts_from (4 * length tables) tables) ++ joined tables

-- the machine, with the offset of the list of lookups, and the list
abbrev pub contextual_bytes : List ℕ → List (List ℕ) → ContextualTables → List ℕ
contextual_bytes classes tables t =
    let offset = machine_end 1 4 classes (length t.state.rules) in
    machine_bytes contextual_words (offset ∷ []) t.state.class_count classes t.state.rules
    ++ substitution_bytes tables

-- the bytes of the lookups, if the entries ask for all of them, and no more than two for each, or why they are not
-- written. So the bytes have room for the lookups, as the reader asks
abbrev pub substitutions_written : ContextualTables → Result (List (List ℕ)) MorxWriteError
substitutions_written t =
    let asked = lookups_asked t.state.rules in
    if asked == length t.lookups then
    (if nat_lt (2 * length t.state.rules) (length t.lookups) then Err TooManyLookups else
    after_written (lookups_written t.lookups) (λ tables.
    if are_too_long tables then Err TooLong else Ok tables))
    else Err (LookupCount asked)

-- the bytes of a contextual subtable, or why it is not written
abbrev pub contextual_written : ContextualTables → Result (List ℕ) MorxWriteError
contextual_written t =
    after_written (class_table_written t.state) (λ classes.
    after_written (substitutions_written t) (λ tables. Ok (contextual_bytes classes tables t)))
