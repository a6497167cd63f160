-- What a subtable does is read again.
use Rattle.std.proofs.Common.{◌≡◌, ℕ, List, [], ◌++◌, length, All, Result, Ok, refl, ap, arith}
use Rattle.aat_bytes.specs.declared.error.Fault.{Fault}
use Rattle.aat_bytes.specs.declared.tags.TheConstants.{MORX}
use Rattle.aat_machine_tables.specs.Subtables.{ContextualTables, InsertionTables, LigatureTables}
use Rattle.aat_machine_tables.specs.Table.{TableValue}
use Rattle.aat_machine_tables.specs.declared.morx.SubtableKind.TheVariants.{Rearrangement, Contextual, Ligature, NonContextual, Insertion}
use Rattle.aat_machine_tables.specs.declared.state_table.GenericStateEntry.{GenericStateEntry}
use Rattle.aat_read_lookup.specs.Lookups.{lookup_at}
use Rattle.aat_read_machine.specs.Contextual.{contextual_tables_at}
use Rattle.aat_read_machine.specs.Kinds.{insertion_tables_at, ligature_at}
use Rattle.aat_read_machine.specs.Machine.{machine_at}
use Rattle.aat_read_machine.specs.SubtableKinds.{as_kind, subtable_kind_at}
use Rattle.aat_write_machine.specs.LookupLaws.{WrittenLookupsAreRead}
use Rattle.aat_write_machine.specs.Lookups.{lookup_written}
use Rattle.aat_write_machine.specs.EntryWords.{no_words}
use Rattle.aat_write_machine.specs.KindLaws.{InsertionsAreRead, LigaturesAreRead}
use Rattle.aat_write_machine.specs.MachineLaws.{IsLong, MachinesAreRead}
use Rattle.aat_write_machine.specs.SubtableKindLaws.{ContextualsAreRead, SubtableKindsAreRead}
use Rattle.aat_write_machine.proofs.ClassTables.{of_lookup_is}

no_longs : All IsLong []
no_longs k d below = absurd (omega arith)

module _ (bytes : List ℕ) (place glyph_count : ℕ) where
  rearrangement_of : (t : TableValue (GenericStateEntry (Unit {0}))) → machine_at 0 (λ _ _. tt) MORX bytes place glyph_count ≡ Ok t
      → subtable_kind_at bytes place 0 glyph_count ≡ Ok (Rearrangement t)
  unfolding subtable_kind_at
  rearrangement_of t is = ap (λ (r : Result (TableValue (GenericStateEntry (Unit {0}))) Fault). as_kind Rearrangement r) is

  contextual_of : (t : ContextualTables) → contextual_tables_at bytes place glyph_count ≡ Ok t
      → subtable_kind_at bytes place 1 glyph_count ≡ Ok (Contextual t)
  unfolding subtable_kind_at
  contextual_of t is = ap (λ (r : Result ContextualTables Fault). as_kind Contextual r) is

  ligature_of : (t : LigatureTables) → ligature_at bytes place glyph_count ≡ Ok t
      → subtable_kind_at bytes place 2 glyph_count ≡ Ok (Ligature t)
  unfolding subtable_kind_at
  ligature_of t is = ap (λ (r : Result LigatureTables Fault). as_kind Ligature r) is

  noncontextual_of : (pairs : List (ℕ × ℕ)) → lookup_at MORX bytes place glyph_count ≡ Ok pairs
      → subtable_kind_at bytes place 4 glyph_count ≡ Ok (NonContextual pairs)
  unfolding subtable_kind_at
  noncontextual_of pairs is = ap (λ (r : Result (List (ℕ × ℕ)) Fault). as_kind NonContextual r) is

  insertion_of : (t : InsertionTables) → insertion_tables_at bytes place glyph_count ≡ Ok t
      → subtable_kind_at bytes place 5 glyph_count ≡ Ok (Insertion t)
  unfolding subtable_kind_at
  insertion_of t is = ap (λ (r : Result InsertionTables Fault). as_kind Insertion r) is

pub subtable_kinds_are_read :
    WrittenLookupsAreRead → MachinesAreRead 0 (λ _ _. tt) no_words → ContextualsAreRead → LigaturesAreRead → InsertionsAreRead → SubtableKindsAreRead
subtable_kinds_are_read lookups machines contextuals ligatures insertions (Rearrangement t) bytes before behind glyph_count small is = (
  Rearrangement t,
  rearrangement_of (before ++ (bytes ++ behind)) (length before) glyph_count t
      (machines MORX [] t bytes before behind glyph_count small no_longs (omega arith) is),
  refl,
)
subtable_kinds_are_read lookups machines contextuals ligatures insertions (Contextual t) bytes before behind glyph_count small is = (
  Contextual t,
  contextual_of (before ++ (bytes ++ behind)) (length before) glyph_count t
      (contextuals t bytes before behind glyph_count small is),
  refl,
)
subtable_kinds_are_read lookups machines contextuals ligatures insertions (Ligature t) bytes before behind glyph_count small is =
    let read = ligatures t bytes before behind glyph_count small is in
    (Ligature read.0, ligature_of (before ++ (bytes ++ behind)) (length before) glyph_count read.0 read.1, (read.0, refl, read.2))
subtable_kinds_are_read lookups machines contextuals ligatures insertions (NonContextual pairs) bytes before behind glyph_count small is = (
  NonContextual pairs,
  noncontextual_of (before ++ (bytes ++ behind)) (length before) glyph_count pairs
      (lookups MORX pairs bytes before behind glyph_count small (of_lookup_is (lookup_written pairs) bytes is)),
  refl,
)
subtable_kinds_are_read lookups machines contextuals ligatures insertions (Insertion t) bytes before behind glyph_count small is =
    let read = insertions t bytes before behind glyph_count small is in
    (Insertion read.0, insertion_of (before ++ (bytes ++ behind)) (length before) glyph_count read.0 read.1, (read.0, refl, read.2))
