-- What a subtable does, by its kind. Apple's TrueType Reference Manual, "The 'morx' table".
use Rattle.std.specs.Prelude.{ℕ, List, [], Result, Ok, if◌then◌else◌, ◌==◌}
use Rattle.aat_bytes.specs.Faults.{after}
use Rattle.aat_bytes.specs.declared.error.Fault.{Fault}
use Rattle.aat_bytes.specs.declared.tags.TheConstants.{MORX}
use Rattle.aat_machine_tables.specs.declared.morx.SubtableKind.{SubtableKind}
use Rattle.aat_machine_tables.specs.declared.morx.SubtableKind.TheVariants.{Rearrangement, Contextual, Ligature, NonContextual, Insertion}
use Rattle.aat_read_lookup.specs.Lookups.{lookup_at}
use Rattle.aat_read_machine.specs.Contextual.{contextual_tables_at}
use Rattle.aat_read_machine.specs.Kinds.{insertion_tables_at, ligature_at}
use Rattle.aat_read_machine.specs.Machine.{machine_at}

-- what comes of the tables of a kind
abbrev pub as_kind : {X : Type 0} → (X → SubtableKind) → Result X Fault → Result SubtableKind Fault
as_kind kind tables = after tables (λ x. Ok (kind x))

-- the subtable of a kind behind its header at a place. One of another kind does nothing: it has no values
unfoldable pub subtable_kind_at : List ℕ → ℕ → ℕ → ℕ → Result SubtableKind Fault
subtable_kind_at bytes place kind glyph_count =
    if kind == 0 then as_kind Rearrangement (machine_at 0 (λ _ _. tt) MORX bytes place glyph_count) else
    if kind == 1 then as_kind Contextual (contextual_tables_at bytes place glyph_count) else
    if kind == 2 then as_kind Ligature (ligature_at bytes place glyph_count) else
    if kind == 4 then as_kind NonContextual (lookup_at MORX bytes place glyph_count) else
    if kind == 5 then as_kind Insertion (insertion_tables_at bytes place glyph_count) else
    Ok (NonContextual [])
