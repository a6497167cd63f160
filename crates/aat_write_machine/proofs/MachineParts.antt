-- The further offsets of a state table that is written, and what stands behind it.
use Rattle.std.proofs.Common.{◌≡◌, ℕ, suc, ◌+◌, ◌*◌, ◌<◌, ◌≤◌, List, ◌++◌, length, get_or, Result, Ok, All, refl, sym, ap, ◌∙◌, append_assoc, arith}
use Rattle.std.specs.List.{flat_map, range_with_len}
use Rattle.std.proofs.Math.Nat.{mul-le-mul_right}
use Rattle.std.proofs.lemmas.List.{length-append}
use Rattle.std.proofs.lemmas.List.FromFn.{length-range_with_len}
use Rattle.aat_bytes.specs.Numbers.{be32}
use Rattle.aat_bytes.specs.declared.tags.TheConstants.{MORX}
use Rattle.aat_machine_tables.specs.Table.{TableValue}
use Rattle.aat_machine_tables.specs.declared.state_table.GenericStateEntry.{GenericStateEntry}
use Rattle.aat_write_machine.specs.Words.{long_bytes, word_bytes}
use Rattle.aat_write_machine.specs.EntryLaws.{HasSize, ReadsAgain}
use Rattle.aat_write_machine.specs.EntryWords.{rule_words}
use Rattle.aat_write_machine.specs.Kinds.{machine_end}
use Rattle.aat_read_machine.specs.Machine.{machine_at}
use Rattle.aat_write_machine.specs.MachineLaws.{IsLong, IsMachine, MachinesAreRead}
use Rattle.aat_write_machine.specs.Machines.{class_table_written, header_longs, machine_bytes, machine_written}
use Rattle.aat_write_machine.specs.MorxWriteErrors.{after_written}
use Rattle.aat_write_machine.specs.declared.error.MorxWriteError.{MorxWriteError}
use Rattle.aat_write_machine.proofs.ClassTables.{HasLength, class_table_is, lookup_has_length}
use Rattle.aat_write_machine.proofs.EntryPlaces.{length_entries}
use Rattle.aat_write_machine.proofs.MachineAgain.{header_are_longs}
use Rattle.aat_write_machine.specs.facts.LongPlaces.{length_longs, long_at}
use Rattle.aat_write_machine.specs.facts.WordPlaces.{length_words}
use Rattle.aat_write_machine.proofs.RowFacts.{AreRows, are_rows}

module _ {T : Type 0} (size : ℕ) (extra_at : List ℕ → ℕ → T) (words_of : T → List ℕ)
    (has_size : HasSize size words_of) (reads_again : ReadsAgain extra_at words_of)
    (further classes : List ℕ) (t : TableValue (GenericStateEntry T))
    (small : IsMachine words_of t) (written : class_table_written t ≡ Ok classes) where
  abbrev cells : ℕ
  cells = length t.rules

  abbrev pub machine : List ℕ
  machine = machine_bytes words_of further t.class_count classes t.rules

  pub lookup : HasLength t.classes classes
  lookup = lookup_has_length t.classes classes (class_table_is t classes written).1

  pub rows : AreRows t.class_count t.rules
  rows = are_rows t.class_count t.rules (class_table_is t classes written).0

  -- the machine is written with these offsets
  pub is_written : machine_written words_of further t ≡ Ok machine
  is_written = ap (λ (r : Result (List ℕ) MorxWriteError). after_written r (λ c. Ok (machine_bytes words_of further t.class_count c t.rules))) written

  -- it ends where the offsets behind it count from
  pub length_machine : length machine ≡ machine_end (length further) size classes cells
  length_machine =
      let header = long_bytes (header_longs further t.class_count classes cells) in
      let indexes = word_bytes (range_with_len 0 cells) in
      let entries = word_bytes (flat_map (rule_words words_of) t.rules) in
      let header_long : length header ≡ 16 + 4 * length further = length_longs (header_longs further t.class_count classes cells) ∙ omega arith in
      let indexes_long : length indexes ≡ 2 * cells = length_words (range_with_len 0 cells) ∙ ap (λ n. 2 * n) (length-range_with_len 0 cells) in
      omega (
        arith,
        length-append header (classes ++ (indexes ++ entries)),
        length-append classes (indexes ++ entries),
        length-append indexes entries,
        header_long,
        indexes_long,
        length_entries size extra_at words_of has_size reads_again t.rules,
      )

  -- its further offsets stand behind its header
  pub further_at :
      (before after : List ℕ) (i place : ℕ) → All IsLong further → length further < 4 → i < length further
      → length before + (16 + 4 * i) ≡ place
      → be32 (before ++ (machine ++ after)) place ≡ get_or further i 0
  further_at before after i place longs few below at =
      let header = long_bytes (header_longs further t.class_count classes cells) in
      let behind = classes ++ (word_bytes (range_with_len 0 cells) ++ word_bytes (flat_map (rule_words words_of) t.rules)) in
      ap (λ xs. be32 (before ++ xs) place) (append_assoc header behind after)
      ∙ long_at (header_longs further t.class_count classes cells) before (behind ++ after) place (4 + i) (omega arith)
      (header_are_longs further classes t.class_count cells (omega (arith, small.0)) longs few (omega (arith, lookup.few, lookup.long)) rows.few) (omega arith)
      ∙ fifth i
    where
      fifth : (i : ℕ) → get_or (header_longs further t.class_count classes cells) (4 + i) 0 ≡ get_or further i 0
      fifth i = let place : 4 + i ≡ suc (suc (suc (suc i))) = omega arith in ap (λ k. get_or (header_longs further t.class_count classes cells) k 0) place

-- a machine with further offsets that stands in a table: what stands behind it, and what the reader finds
pub record HasMachine {T : Type 0} (size : ℕ) (extra_at : List ℕ → ℕ → T) (further : List ℕ) (end : ℕ)
    (t : TableValue (GenericStateEntry T)) (behind whole : List ℕ) (place glyph_count : ℕ) : Type 0 where
  pub front : List ℕ
  pub split : whole ≡ front ++ behind
  pub front_long : length front ≡ place + end
  pub long : length whole ≡ place + end + length behind
  pub offset : (i : ℕ) → i < length further → be32 whole (place + (16 + 4 * i)) ≡ get_or further i 0
  pub read : machine_at size extra_at MORX whole place glyph_count ≡ Ok t

pub has_machine :
    {T : Type 0} (size : ℕ) (extra_at : List ℕ → ℕ → T) (words_of : T → List ℕ)
    (has_size : HasSize size words_of) (reads_again : ReadsAgain extra_at words_of)
    → MachinesAreRead size extra_at words_of
    → (further classes : List ℕ) (t : TableValue (GenericStateEntry T)) (before lists after : List ℕ) (glyph_count : ℕ)
    → IsMachine words_of t → class_table_written t ≡ Ok classes → All IsLong further → length further < 4
    → HasMachine size extra_at further (machine_end (length further) size classes (length t.rules)) t (lists ++ after)
    (before ++ ((machine_bytes words_of further t.class_count classes t.rules ++ lists) ++ after)) (length before) glyph_count
has_machine size extra_at words_of has_size reads_again law further classes t before lists after glyph_count small table longs few =
    let machine : List ℕ = machine_bytes words_of further t.class_count classes t.rules in
    let at_list : before ++ ((machine ++ lists) ++ after) ≡ before ++ (machine ++ (lists ++ after)) =
    ap (λ xs. before ++ xs) (append_assoc machine lists after) in
    let long = length_machine size extra_at words_of has_size reads_again further classes t small table in
    record {
      front = before ++ machine;
      split = at_list ∙ sym (append_assoc before machine (lists ++ after));
      front_long = length-append before machine ∙ ap (λ n. length before + n) long;
      long =
          ap length at_list
          ∙ omega (arith, length-append before (machine ++ (lists ++ after)), length-append machine (lists ++ after), long);
      offset = λ i below.
          ap (λ xs. be32 xs (length before + (16 + 4 * i))) at_list
          ∙ further_at size extra_at words_of has_size reads_again further classes t small table before (lists ++ after) i (length before + (16 + 4 * i)) longs few below refl;
      read =
          ap (λ xs. machine_at size extra_at MORX xs (length before) glyph_count) at_list
          ∙ law MORX further t machine before (lists ++ after) glyph_count small longs few
          (is_written size extra_at words_of has_size reads_again further classes t small table);
    }

-- the end of a machine that is written has 21 bits
pub end_is_near :
    {T : Type 0} (further size : ℕ) (classes : List ℕ) (t : TableValue (GenericStateEntry T))
    → class_table_written t ≡ Ok classes → further < 4 → size < 5 → machine_end further size classes (length t.rules) < 2097152
end_is_near further size classes t table few small =
    let has = lookup_has_length t.classes classes (class_table_is t classes table).1 in
    let in_rows = are_rows t.class_count t.rules (class_table_is t classes table).0 in
    let wide : (4 + size) * length t.rules ≤ 8 * length t.rules = mul-le-mul_right (length t.rules) narrow in
    omega (arith, has.few, has.long, in_rows.few, wide)
  where
    narrow : 4 + size ≤ 8
    narrow = omega arith
