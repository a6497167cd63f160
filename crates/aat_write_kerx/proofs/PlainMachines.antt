-- A machine whose entries have numbers is refused as the machine is, and has its bytes.
use Rattle.std.proofs.Common.{◌≡◌, ℕ, zero, suc, ◌+◌, ◌-◌, ◌*◌, ◌/◌, ◌%◌, ◌≤◌, List, [], ◌∷◌, ◌++◌, length, map, take, drop, max, Bool, not, ◌||◌, cond, Option, Some, None, position, Result, Ok, Err, refl, sym, ap, ◌∙◌, arith}
use Rattle.std.specs.Prelude.{find, nat_le, nat_lt, option_map, ◌==◌}
use Rattle.std.specs.List.{flat_map, position_or_len, range_with_len}
use Rattle.std.specs.Option.{option_or}
use Rattle.std.proofs.lemmas.List.{drop_at, length-append, length-map}
use Rattle.std.proofs.lemmas.List.FromFn.{length-range_with_len}
use Rattle.aat_bytes.specs.Numbers.{be16}
use Rattle.aat_machine_tables.specs.Table.{Rule, rule_key}
use Rattle.aat_machine_tables.specs.declared.entries.EntryData.{EntryData}
use Rattle.aat_machine_tables.specs.declared.state_table.GenericStateEntry.{GenericStateEntry}
use Rattle.aat_write_machine.specs.Lookups.{lookup_written}
use Rattle.aat_write_machine.specs.Words.{long_bytes, word_bytes}
use Rattle.aat_write_machine.specs.facts.LongPlaces.{length_longs}
use Rattle.aat_write_machine.specs.facts.WordPlaces.{length_words}
use Rattle.aat_write_machine.specs.EntryWords.{one_word, rule_words}
use Rattle.aat_write_machine.specs.Kinds.{machine_end}
use Rattle.aat_write_machine.specs.MachineRefusals.{cell_key, highest_from, highest_named, is_cut, misplaced_from, no_row, not_named, out_of_place, rules_refusal}
use Rattle.aat_write_machine.specs.Machines as plain
use Rattle.aat_write_machine.specs.Machines.{class_table_written, header_longs}
use Rattle.aat_write_machine.specs.MorxWriteErrors as machines
use Rattle.aat_write_machine.specs.declared.error.MorxWriteError.{MorxWriteError}
use Rattle.aat_write_machine.specs.declared.error.MorxWriteError.TheVariants.{FewClasses, TooManyRules, OutOfPlace, NoRow, NotNamed, NotRising, TooManyPairs, LookupCount, TooManyLookups, TooLong, OutOfMemory}
use Rattle.aat_write_machine.specs.facts.Entries as facts
use Rattle.aat_write_machine.proofs.ClassTables.{is_made, lookup_has_length}
use Rattle.aat_write_machine.proofs.EntryPlaces.{length_entries}
use Rattle.aat_write_machine.proofs.RowFacts.{are_rows}
use Rattle.aat_write_kerx.specs.KerxWriteErrors.{RefusesWithin, after_written, error_of_machine, of_machine}
use Rattle.aat_write_kerx.specs.MachineBytes.{KerxMachine, action_words, machine_written, table_written, unless_far, with_offset}
use Rattle.aat_write_kerx.specs.declared.subtable_error.SubtableWriteError.{SubtableWriteError}
use Rattle.aat_write_kerx.specs.inside.Plain.{IsPlain, numbered, numbered_rule, with_number}

abbrev KerxRule : Type 0
KerxRule = Rule (GenericStateEntry EntryData)

found_same : {X : Type 0} (p q : X → Bool) (xs : List X) → ((x : X) → p x ≡ q x) → find p xs ≡ find q xs
found_same p q [] same = refl
found_same p q (x ∷ xs) same =
    ap (λ (b : Bool). cond b (Some x) (find p xs)) (same x) ∙ ap (λ (o : Option _). cond (q x) (Some x) o) (found_same p q xs same)

place_same : {X Y : Type 0} (p : Y → Bool) (f : X → Y) (xs : List X) → position_or_len p (map f xs) ≡ position_or_len (λ x. p (f x)) xs
place_same p f [] = refl
place_same p f (x ∷ xs) = ap (λ n. cond (not (p (f x))) (1 + n) 0) (place_same p f xs)

module _ (counts_bytes : Bool) where
  abbrev f : KerxRule → Rule (GenericStateEntry ℕ)
  f = numbered_rule counts_bytes

  misplaced_same : (w cell : ℕ) (rules : List KerxRule) → misplaced_from w cell (map f rules) ≡ misplaced_from w cell rules
  misplaced_same w cell [] = refl
  misplaced_same w cell (rule ∷ rules) =
      ap (λ (o : Option ℕ). cond (rule_key rule == cell_key w cell) o (Some cell)) (misplaced_same w (cell + 1) rules)

  highest_same : (n most : ℕ) (rules : List KerxRule) → highest_from most (take n (map f rules)) ≡ highest_from most (take n rules)
  highest_same zero most rules = refl
  highest_same (suc n) most [] = refl
  highest_same (suc n) most (rule ∷ rules) = highest_same n (max most rule.2.new_state) rules

  module _ (w : ℕ) (rules : List KerxRule) where
    abbrev count : ℕ
    count = length rules

    same_count : length (map f rules) ≡ count
    same_count = length-map rules f

    out_same : out_of_place w (map f rules) ≡ out_of_place w rules
    out_same =
        ap (λ (o : Option ℕ). option_or o (cond (is_cut w (map f rules)) (Some (length (map f rules))) None)) (misplaced_same w 0 rules)
        ∙ ap (λ n. option_or (misplaced_from w 0 rules) (cond ((n == 0) || nat_lt 0 (n % w)) (Some n) None)) same_count

    row_same : no_row w (map f rules) ≡ no_row w rules
    row_same =
        ap (λ n. position (λ (r : Rule (GenericStateEntry ℕ)). nat_le (n / w) r.2.new_state) (map f rules)) same_count
        ∙ ap (λ n. cond (nat_lt n (length (map f rules))) (Some n) None) (place_same (λ (r : Rule (GenericStateEntry ℕ)). nat_le (count / w) r.2.new_state) f rules)
        ∙ ap (λ n. cond (nat_lt (position_or_len (λ (r : KerxRule). nat_le (count / w) r.2.new_state) rules) n)
        (Some (position_or_len (λ (r : KerxRule). nat_le (count / w) r.2.new_state) rules)) None) same_count

    named_same : not_named w (map f rules) ≡ not_named w rules
    named_same =
        ap (λ n. find (λ state. nat_lt (highest_named w (map f rules) state) state) (range_with_len 1 (n / w - 1))) same_count
        ∙ found_same (λ state. nat_lt (highest_named w (map f rules) state) state) (λ state. nat_lt (highest_named w rules state) state)
        (range_with_len 1 (count / w - 1)) (λ state. ap (λ h. nat_lt h state) (highest_same (state * w) 0 rules))

    refusal_same : rules_refusal w (map f rules) ≡ rules_refusal w rules
    refusal_same =
        let whole : ℕ → Option ℕ → Option ℕ → Option ℕ → Option MorxWriteError = λ n out row named.
        cond (nat_lt w 4) (Some FewClasses) (cond (nat_lt 65536 n) (Some TooManyRules)
        (option_or (option_map OutOfPlace out) (option_or (option_map NoRow row) (option_map NotNamed named)))) in
        ap (λ n. whole n (out_of_place w (map f rules)) (no_row w (map f rules)) (not_named w (map f rules))) same_count
        ∙ ap (λ o. whole count o (no_row w (map f rules)) (not_named w (map f rules))) out_same
        ∙ ap (λ o. whole count (out_of_place w rules) o (not_named w (map f rules))) row_same
        ∙ ap (λ o. whole count (out_of_place w rules) (no_row w rules) o) named_same

  pub table_same : (t : KerxMachine) → class_table_written (numbered counts_bytes t) ≡ class_table_written t
  table_same t =
      ap (λ (o : Option MorxWriteError). machines.unless_refused o (machines.of_lookup (lookup_written t.classes))) (refusal_same t.class_count t.rules)

  refused_table :
      (r : Result (List ℕ) MorxWriteError) (made : List ℕ → List ℕ) (e : MorxWriteError)
      → machines.after_written r (λ classes. Ok (made classes)) ≡ Err e → r ≡ Err e
  refused_table (Ok classes) made e is = absurd (let wrong : ⊥ = cc in wrong)
  refused_table (Err e') made e is = cc

  module _ (t : KerxMachine) where
    by_error :
        (e : MorxWriteError) → plain.machine_written one_word [] (numbered counts_bytes t) ≡ Err e
        → of_machine (class_table_written t) ≡ Err (error_of_machine e)
    by_error e is =
        let table : class_table_written (numbered counts_bytes t) ≡ Err e =
        refused_table (class_table_written (numbered counts_bytes t))
        (λ classes. plain.machine_bytes one_word [] t.class_count classes (map f t.rules)) e is in
        ap (λ (r : Result (List ℕ) MorxWriteError). of_machine r) (sym (table_same t) ∙ table)

    -- what refuses the one refuses the other
    pub machine_refused :
        (e : MorxWriteError) → machines.RefusesWithin (plain.machine_written one_word [] (numbered counts_bytes t)) e
        → RefusesWithin (of_machine (class_table_written t)) (error_of_machine e)
    machine_refused FewClasses is = by_error FewClasses is
    machine_refused TooManyRules is = by_error TooManyRules is
    machine_refused (OutOfPlace place) is = by_error (OutOfPlace place) is
    machine_refused (NoRow place) is = by_error (NoRow place) is
    machine_refused (NotNamed state) is = by_error (NotNamed state) is
    machine_refused (NotRising place) is = by_error (NotRising place) is
    machine_refused TooManyPairs is = by_error TooManyPairs is
    machine_refused (LookupCount n) is = by_error (LookupCount n) is
    machine_refused TooManyLookups is = by_error TooManyLookups is
    machine_refused TooLong is = by_error TooLong is
    machine_refused OutOfMemory is = tt

  same_entries : (rules : List KerxRule) → flat_map (rule_words one_word) (map f rules) ≡ flat_map (rule_words (action_words counts_bytes)) rules
  same_entries [] = refl
  same_entries (rule ∷ rules) = ap (λ ws. rule_words (action_words counts_bytes) rule ++ ws) (same_entries rules)

  -- the parts of a machine without further offsets, and the machine with one
  pub record HasPlain (t : KerxMachine) (bytes : List ℕ) : Type 0 where
    pub classes : List ℕ
    pub table : class_table_written t ≡ Ok classes
    pub few : length t.rules ≤ 65536
    pub short : length classes ≤ 262152
    pub long : length bytes ≡ 16 + length classes + 8 * length t.rules
    pub behind :
        drop 16 bytes
        ≡ classes ++ (word_bytes (range_with_len 0 (length t.rules)) ++ word_bytes (flat_map (rule_words (action_words counts_bytes)) t.rules))

  pub has_plain : (t : KerxMachine) (bytes : List ℕ) → IsPlain counts_bytes t bytes → HasPlain t bytes
  has_plain t bytes is =
      let rules : List (Rule (GenericStateEntry ℕ)) = map f t.rules in
      let n : ℕ = length t.rules in
      let same : length rules ≡ n = length-map t.rules f in
      let made = is_made one_word [] (numbered counts_bytes t) bytes is.1 in
      let classes : List ℕ = made.classes in
      let has = lookup_has_length t.classes classes made.lookup in
      let rows = are_rows t.class_count rules made.refusal in
      let header : List ℕ = long_bytes (header_longs [] t.class_count classes (length rules)) in
      let indexes : List ℕ = word_bytes (range_with_len 0 (length rules)) in
      let entries : List ℕ = word_bytes (flat_map (rule_words one_word) rules) in
      let body : List ℕ = classes ++ (indexes ++ entries) in
      let whole : header ++ body ≡ bytes = made.made in
      let header_long : length header ≡ 16 = length_longs (header_longs [] t.class_count classes (length rules)) in
      let indexes_long : length indexes ≡ 2 * length rules =
      length_words (range_with_len 0 (length rules)) ∙ ap (λ k. 2 * k) (length-range_with_len 0 (length rules)) in
      let entries_long : length entries ≡ (4 + 2) * length rules =
      length_entries 2 be16 one_word facts.number_has_size facts.number_reads_again rules in
      let refusal : rules_refusal t.class_count t.rules ≡ None = sym (refusal_same t.class_count t.rules) ∙ made.refusal in
      record {
        classes = classes;
        table =
            ap (λ (o : Option MorxWriteError). machines.unless_refused o (machines.of_lookup (lookup_written t.classes))) refusal
            ∙ ap (λ (r : Result (List ℕ) _). machines.of_lookup r) made.lookup;
        few = omega (arith, rows.few, same);
        short = omega (arith, has.few, has.long);
        long =
            ap length (sym whole)
            ∙ length-append header body
            ∙ omega (arith, length-append classes (indexes ++ entries), length-append indexes entries, header_long, indexes_long, entries_long, same);
        behind =
            ap (drop 16) (sym whole)
            ∙ drop_at header body 16 header_long
            ∙ ap (λ k. classes ++ (word_bytes (range_with_len 0 k) ++ entries)) same
            ∙ ap (λ ws. classes ++ (word_bytes (range_with_len 0 n) ++ word_bytes ws)) (same_entries t.rules);
      }

  -- the machine is written as its numbers say
  pub written_by :
      (t : KerxMachine) (bytes : List ℕ) (flags a b e : ℕ) → IsPlain counts_bytes t bytes
      → a + 8 * length t.rules ≡ length bytes + 4 → b + 6 * length t.rules ≡ length bytes + 4 → e ≡ flags + (length bytes + 4)
      → machine_written counts_bytes flags t ≡ Ok (long_bytes (t.class_count ∷ 20 ∷ a ∷ b ∷ e ∷ []) ++ drop 16 bytes)
  written_by t bytes flags a b e is states entries offset =
      let has = has_plain t bytes is in
      let n : ℕ = length t.rules in
      let classes : List ℕ = has.classes in
      let end : ℕ = machine_end 1 2 classes n in
      let a_is : 16 + 4 * 1 + length classes ≡ a = omega (arith, has.long, states) in
      let b_is : 16 + 4 * 1 + length classes + 2 * n ≡ b = omega (arith, has.long, entries) in
      let e_is : flags + end ≡ e = omega (arith, has.long, offset) in
      let body : List ℕ =
      classes ++ (word_bytes (range_with_len 0 n) ++ word_bytes (flat_map (rule_words (action_words counts_bytes)) t.rules)) in
      let table : table_written counts_bytes t ≡ Ok classes =
      ap (unless_far t) is.0 ∙ ap (λ (r : Result (List ℕ) MorxWriteError). of_machine r) has.table in
      ap (λ (r : Result (List ℕ) SubtableWriteError). after_written r (λ cs. Ok (with_offset counts_bytes flags t cs))) table
      ∙ ap (λ k. Ok (long_bytes (t.class_count ∷ 20 ∷ k ∷ (16 + 4 * 1 + length classes + 2 * n) ∷ (flags + end) ∷ []) ++ body)) a_is
      ∙ ap (λ k. Ok (long_bytes (t.class_count ∷ 20 ∷ a ∷ k ∷ (flags + end) ∷ []) ++ body)) b_is
      ∙ ap (λ k. Ok (long_bytes (t.class_count ∷ 20 ∷ a ∷ b ∷ k ∷ []) ++ body)) e_is
      ∙ ap (λ (ys : List ℕ). Ok (long_bytes (t.class_count ∷ 20 ∷ a ∷ b ∷ e ∷ []) ++ ys)) (sym has.behind)

  pub numbered_written :
      (t : KerxMachine) (bytes : List ℕ) (flags count cells : ℕ) (plain out : List ℕ)
      → IsPlain counts_bytes t bytes
      → count ≡ t.class_count
      → cells ≡ length t.rules
      → plain ≡ bytes
      → out ≡ with_number count cells flags plain
      → machine_written counts_bytes flags t ≡ Ok out
  numbered_written t bytes flags count cells plain out is count_is cells_is plain_is made =
      let has = has_plain t bytes is in
      let n : ℕ = length t.rules in
      let end : ℕ = length bytes + 4 in
      let same : out ≡ with_number t.class_count n flags bytes =
      made
      ∙ ap (λ k. with_number k cells flags plain) count_is
      ∙ ap (λ k. with_number t.class_count k flags plain) cells_is
      ∙ ap (with_number t.class_count n flags) plain_is in
      written_by t bytes flags (end - 8 * n) (end - 6 * n) (flags + end) is (omega (arith, has.long)) (omega (arith, has.long)) refl
      ∙ ap (λ (ys : List ℕ). Ok ys) (sym same)
