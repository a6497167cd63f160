-- What is written behind the class table of a machine.
use Rattle.std.proofs.Common.{◌≡◌, ℕ, List, [], ◌++◌, length, Bool, false, Result, Ok, Err, sym, ap, ◌∙◌, append_assoc, if◌then◌else◌}
use Rattle.std.specs.List.{flat_map, range_with_len}
use Rattle.aat_machine_tables.specs.Subtables.{InsertionTables, LigatureTables}
use Rattle.aat_machine_tables.specs.Table.{Rule, TableValue}
use Rattle.aat_machine_tables.specs.declared.state_table.GenericStateEntry.{GenericStateEntry}
use Rattle.aat_write_machine.specs.EntryWords.{rule_words}
use Rattle.aat_write_machine.specs.Words.{long_bytes, word_bytes}
use Rattle.aat_write_machine.specs.Kinds.{has_long_list, insertion_bytes, insertion_written, is_too_long, ligature_bytes, ligature_written}
use Rattle.aat_write_machine.specs.Machines.{class_table_written, header_longs, machine_bytes, machine_written}
use Rattle.aat_write_machine.specs.MorxWriteErrors.{RefusesWithin, after_written}
use Rattle.aat_write_machine.specs.declared.error.MorxWriteError.{MorxWriteError}
use Rattle.aat_write_machine.specs.declared.error.MorxWriteError.TheVariants.{TooLong}
use Rattle.aat_write_machine.proofs.Refused.{refused_behind}

-- a class table that is refused refuses the machine
pub machine_is_refused :
    {T : Type 0} (words_of : T → List ℕ) (further : List ℕ) (t : TableValue (GenericStateEntry T)) (e : MorxWriteError)
    → RefusesWithin (class_table_written t) e → RefusesWithin (machine_written words_of further t) e
machine_is_refused words_of further t e is =
    refused_behind (class_table_written t) (λ classes. Ok (machine_bytes words_of further t.class_count classes t.rules)) e is

-- the bytes of a machine are those by its class table and its rules
pub machine_is_written :
    {T : Type 0} (words_of : T → List ℕ) (further : List ℕ) (t : TableValue (GenericStateEntry T))
    (count : ℕ) (table classes : List ℕ) (held rules : List (Rule (GenericStateEntry T))) (out : List ℕ)
    → class_table_written t ≡ Ok table → classes ≡ table → held ≡ t.rules → rules ≡ held → count ≡ t.class_count
    → out ≡ machine_bytes words_of further count classes rules → machine_written words_of further t ≡ Ok out
machine_is_written {T = T} words_of further t count table classes held rules out written same_table are_held same counted made =
    ap (λ (r : Result (List ℕ) MorxWriteError). after_written r (λ cs. Ok (machine_bytes words_of further t.class_count cs t.rules))) written
    ∙ ap (λ (cs : List ℕ). Ok (machine_bytes words_of further t.class_count cs t.rules)) (sym same_table)
    ∙ ap (λ (rs : List (Rule (GenericStateEntry T))). Ok (machine_bytes words_of further t.class_count classes rs)) (sym (same ∙ are_held))
    ∙ ap (λ n. Ok (machine_bytes words_of further n classes rules)) (sym counted)
    ∙ ap Ok (sym made)

-- the parts of a machine that are appended one behind the other are its bytes
pub parts_are_appended :
    {T : Type 0} (words_of : T → List ℕ) (further : List ℕ) (count : ℕ) (classes : List ℕ) (rules : List (Rule (GenericStateEntry T)))
    (none headed classed rowed all : List ℕ)
    → none ≡ [] → headed ≡ none ++ long_bytes (header_longs further count classes (length rules)) → classed ≡ headed ++ classes
    → rowed ≡ classed ++ word_bytes (range_with_len 0 (length rules)) → all ≡ rowed ++ word_bytes (flat_map (rule_words words_of) rules)
    → all ≡ machine_bytes words_of further count classes rules
parts_are_appended words_of further count classes rules none headed classed rowed all is_none is_headed is_classed is_rowed is_all =
    let header = long_bytes (header_longs further count classes (length rules)) in
    let rows = word_bytes (range_with_len 0 (length rules)) in
    let entries = word_bytes (flat_map (rule_words words_of) rules) in
    is_all
    ∙ ap (λ (bs : List ℕ). bs ++ entries) (is_rowed
    ∙ ap (λ (bs : List ℕ). bs ++ rows) (is_classed
    ∙ ap (λ (bs : List ℕ). bs ++ classes) (is_headed ∙ ap (λ (bs : List ℕ). bs ++ header) is_none)))
    ∙ append_assoc (header ++ classes) rows entries
    ∙ append_assoc header classes (rows ++ entries)

-- a class table that is refused refuses a subtable of insertion
pub insertion_is_refused :
    (t : InsertionTables) (e : MorxWriteError) → RefusesWithin (class_table_written t.state) e → RefusesWithin (insertion_written t) e
insertion_is_refused t e is =
    refused_behind (class_table_written t.state) (λ classes. if is_too_long t.glyphs then Err TooLong else Ok (insertion_bytes classes t)) e is

-- one of ligatures too
pub ligature_is_refused :
    (t : LigatureTables) (e : MorxWriteError) → RefusesWithin (class_table_written t.state) e → RefusesWithin (ligature_written t) e
ligature_is_refused t e is =
    refused_behind (class_table_written t.state) (λ classes. if has_long_list t then Err TooLong else Ok (ligature_bytes classes t)) e is

-- the bytes of a subtable of ligatures are those by its class table
pub ligature_is_written :
    (t : LigatureTables) (table classes out : List ℕ)
    → class_table_written t.state ≡ Ok table → classes ≡ table → has_long_list t ≡ false
    → out ≡ ligature_bytes classes t → ligature_written t ≡ Ok out
ligature_is_written t table classes out written same fits made =
    ap (λ (r : Result (List ℕ) MorxWriteError). after_written r (λ cs. if has_long_list t then Err TooLong else Ok (ligature_bytes cs t))) written
    ∙ ap (λ (long : Bool). if long then Err TooLong else Ok (ligature_bytes table t)) fits
    ∙ ap (λ (cs : List ℕ). Ok (ligature_bytes cs t)) (sym same)
    ∙ ap Ok (sym made)
