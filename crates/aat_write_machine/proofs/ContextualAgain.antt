-- A contextual subtable that is written is read again.
use Rattle.std.proofs.Common.{◌≡◌, ℕ, zero, suc, ◌+◌, ◌-◌, ◌*◌, ◌<◌, ◌≤◌, max, List, [], ◌∷◌, ◌++◌, length, get_or, map, take, drop, Bool, true, false, cond, Option, Some, None, Result, Ok, Err, All, refl, sym, ap, ◌∙◌, subst, append_assoc, zero-add, arith}
use Rattle.std.specs.Prelude.{nat_lt, sum_by}
use Rattle.std.specs.List.{fold, range_with_len}
use Rattle.std.proofs.lemmas.Bool.{le-leb, le-ltb}
use Rattle.std.proofs.lemmas.List.{get_or-take, length-append, length-drop, length-map, length-take-le}
use Rattle.std.proofs.lemmas.List.FromFn.{length-range_with_len}
use Rattle.aat_bytes.specs.Faults.{after, fault_at}
use Rattle.aat_bytes.specs.Numbers.{be16, be32, inside, u16_at, u32_at}
use Rattle.aat_bytes.specs.declared.error.Fault.{Fault}
use Rattle.aat_bytes.specs.facts.Ranges.{none_found}
use Rattle.aat_bytes.specs.declared.error.FaultKind.TheVariants.{PastEnd, ShortLength}
use Rattle.aat_bytes.specs.declared.tag.Tag.{Tag}
use Rattle.aat_bytes.specs.declared.tags.TheConstants.{MORX}
use Rattle.aat_machine_tables.specs.Subtables.{ContextualTables}
use Rattle.aat_machine_tables.specs.Table.{Rule, TableValue, table_value}
use Rattle.aat_machine_tables.specs.declared.entries.ContextualEntryData.{ContextualEntryData}
use Rattle.aat_machine_tables.specs.declared.state_table.GenericStateEntry.{GenericStateEntry}
use Rattle.aat_read_lookup.specs.Lookups.{lookup_at}
use Rattle.aat_read_machine.specs.Contextual.{contextual_tables, contextual_tables_at, listed_lookup, lookups_at, lookups_within}
use Rattle.aat_read_machine.specs.Entries.{contextual_at}
use Rattle.aat_read_machine.specs.Kinds.{list_place}
use Rattle.aat_read_machine.specs.Lookups as reader
use Rattle.aat_read_machine.specs.Lookups.{lookup_count, lookups_to}
use Rattle.aat_read_machine.specs.Machine.{machine_at, with_classes}
use Rattle.aat_read_machine.specs.Room.{lookup_cost, lookup_past_room, lookup_size, lookups_cost, number_at, room_left}
use Rattle.aat_read_machine.specs.StateArray.{StateArray, cells_of, class_place, entry_place, header_at, rule_of, rules_of, state_array_at}
use Rattle.aat_write_machine.specs.LookupLaws.{WrittenLookupsAreRead}
use Rattle.aat_write_machine.specs.Lookups.{lookup_words, lookup_written}
use Rattle.aat_write_machine.specs.Words.{long_bytes, word_bytes}
use Rattle.aat_write_machine.specs.Contextual.{contextual_bytes, joined, lookups_asked, lookups_named, starts_from, substitution_bytes, substitutions_written}
use Rattle.aat_write_machine.specs.EntryWords.{contextual_words}
use Rattle.aat_write_machine.specs.Kinds.{machine_end}
use Rattle.aat_write_machine.specs.MachineLaws.{IsLong, MachinesAreRead}
use Rattle.aat_write_machine.specs.Machines.{class_table_written}
use Rattle.aat_write_machine.specs.MorxWriteErrors.{after_written}
use Rattle.aat_write_machine.specs.SubtableKindLaws.{ArePairs, ContextualsAreRead, IsContextual}
use Rattle.aat_write_machine.specs.declared.error.MorxWriteError.{MorxWriteError}
use Rattle.aat_write_machine.specs.facts.Entries as facts
use Rattle.aat_write_machine.proofs.ClassTables.{class_table_is, lookup_has_length, lookup_made}
use Rattle.aat_write_machine.proofs.MachineAgain.{one_more_long}
use Rattle.aat_write_machine.proofs.MachineParts.{HasMachine, end_is_near, has_machine}
use Rattle.aat_write_machine.specs.facts.LongPlaces.{length_longs, long_at}
use Rattle.aat_write_machine.proofs.Places.{word_alone}
use Rattle.aat_write_machine.proofs.RowFacts.{are_rows}
use Rattle.aat_write_machine.proofs.TablePlaces.{AreSubstitutions, AreTables, are_substitutions, cost_is, each_is, first_le, length_starts, start_is, starts_are_longs, table_between, written_parts}

-- what comes after a result comes of what the result has
parts_of : {X Y : Type 0} (r : Result X Fault) (next : X → Result Y Fault) (y : Y) → after r next ≡ Ok y → (x : X) × (r ≡ Ok x) × (next x ≡ Ok y)
parts_of (Ok x) next y is = (x, refl, is)
parts_of (Err fault) next y is = cc

ok_is : {X : Type 0} (x y : X) → ◌≡◌ {A = Result X Fault} (Ok x) (Ok y) → x ≡ y
ok_is x y is = cc

passed_by : {X : Type 0} (b : Bool) (fault : Fault) (r : Result X Fault) (x : X) → cond b (Err fault) r ≡ Ok x → r ≡ Ok x
passed_by true fault r x is = cc
passed_by false fault r x is = is

-- the bytes of a state table that is there
array_bytes : (table : Tag) (place size : ℕ) (bytes : List ℕ) (m : StateArray) → header_at table place size bytes ≡ Ok m → m.bytes ≡ bytes
unfolding header_at
array_bytes table place size bytes m is =
    let made : StateArray = record {
      table = table;
      place = place;
      bytes = bytes;
      class_count = be32 bytes 0;
      classes = be32 bytes 4;
      states = be32 bytes 8;
      entries = be32 bytes 12;
      entry_size = 4 + size;
    } in
    let many = passed_by (nat_lt (be32 bytes 0) 4) (fault_at table ShortLength place) (cond (nat_lt 65535 (be32 bytes 0)) (Err (fault_at table PastEnd place)) (Ok made)) m is in
    let one = passed_by (nat_lt 65535 (be32 bytes 0)) (fault_at table PastEnd place) (Ok made) m many in
    sym (ap (λ (a : StateArray). a.bytes) (ok_is made m one))

array_rest : (table : Tag) (bytes : List ℕ) (place size : ℕ) (m : StateArray) → state_array_at table bytes place size ≡ Ok m → m.bytes ≡ drop place bytes
unfolding state_array_at
array_rest table bytes place size m is =
    array_bytes table place size (drop place bytes) m
    (passed_by (nat_lt (length bytes) (place + 16)) (fault_at table PastEnd place) (header_at table place size (drop place bytes)) m is)

-- the lookups that the entries of a state table name are those that its rules name
named_is : (m : StateArray) (cell : ℕ) → reader.lookups_named m cell ≡ lookups_named (rule_of contextual_at m cell)
named_is m cell =
    let place : entry_place m cell + 6 ≡ entry_place m cell + 4 + 2 = omega arith in
    ap (λ k. max (lookups_to (be16 m.bytes (entry_place m cell + 4))) (lookups_to (be16 m.bytes k))) place

asked_from :
    (m : StateArray) (most a n : ℕ)
    → fold (λ most cell. max most (reader.lookups_named m cell)) most (range_with_len a n)
    ≡ fold (λ most r. max most (lookups_named r)) most (map (rule_of contextual_at m) (range_with_len a n))
asked_from m most a zero = refl
asked_from m most a (suc n) =
    ap (λ k. fold (λ most cell. max most (reader.lookups_named m cell)) (max most k) (range_with_len (a + 1) n)) (named_is m a)
    ∙ asked_from m (max most (lookups_named (rule_of contextual_at m a))) (a + 1) n

-- the parts of a machine that is read
record IsArray (bytes : List ℕ) (place glyph_count : ℕ) (t : TableValue (GenericStateEntry ContextualEntryData)) : Type 0 where
  pub array : StateArray
  pub cells : ℕ
  pub there : state_array_at MORX bytes place 4 ≡ Ok array
  pub whole : cells_of array ≡ Ok cells
  pub classes : with_classes contextual_at array cells (lookup_at MORX bytes (class_place array) glyph_count) ≡ Ok t
  pub rest : length array.bytes ≡ length bytes - place
  pub count : cells ≡ length t.rules
  pub asked : lookup_count array cells ≡ lookups_asked t.rules

joined_rules :
    (m : StateArray) (cells : ℕ) (r : Result (List (ℕ × ℕ)) Fault) (t : TableValue (GenericStateEntry ContextualEntryData))
    → with_classes contextual_at m cells r ≡ Ok t → rules_of contextual_at m cells ≡ t.rules
unfolding with_classes
joined_rules m cells (Ok pairs) t is =
    ap (λ (v : TableValue (GenericStateEntry ContextualEntryData)). v.rules) (ok_is (table_value m.class_count pairs (rules_of contextual_at m cells)) t is)
joined_rules m cells (Err fault) t is = absurd (let wrong : ⊥ = cc in wrong)

cells_by :
    (m : StateArray) (cells : ℕ) (rules : List (Rule (GenericStateEntry ContextualEntryData)))
    → rules_of contextual_at m cells ≡ rules → cells ≡ length rules
cells_by m cells rules is =
    sym (length-range_with_len 0 cells)
    ∙ sym (length-map (range_with_len 0 cells) (rule_of contextual_at m))
    ∙ ap (λ (rs : List (Rule (GenericStateEntry ContextualEntryData))). length rs) is

is_array :
    (bytes : List ℕ) (place glyph_count : ℕ) (t : TableValue (GenericStateEntry ContextualEntryData))
    → machine_at 4 contextual_at MORX bytes place glyph_count ≡ Ok t → IsArray bytes place glyph_count t
unfolding machine_at
is_array bytes place glyph_count t is =
    let classes_of : StateArray → ℕ → Result (TableValue (GenericStateEntry ContextualEntryData)) Fault =
    λ m cells. with_classes contextual_at m cells (lookup_at MORX bytes (class_place m) glyph_count) in
    let first = parts_of (state_array_at MORX bytes place 4) (λ m. after (cells_of m) (classes_of m)) t is in
    let second = parts_of (cells_of first.0) (classes_of first.0) t first.2 in
    let rules = joined_rules first.0 second.0 (lookup_at MORX bytes (class_place first.0) glyph_count) t second.2 in
    record {
      array = first.0;
      cells = second.0;
      there = first.1;
      whole = second.1;
      classes = second.2;
      rest = ap length (array_rest MORX bytes place 4 first.0 first.1) ∙ length-drop place bytes;
      count = cells_by first.0 second.0 t.rules rules;
      asked = asked_from first.0 0 0 second.0 ∙ ap lookups_asked rules;
    }

-- a number that stands inside
number_inside : (bytes : List ℕ) (place n : ℕ) → place + 2 ≤ length bytes → be16 bytes place ≡ n → number_at bytes place ≡ n
unfolding u16_at
number_inside bytes place n within is = rw (le-leb (place + 2) (length bytes) within) is

long_inside : (bytes : List ℕ) (place n : ℕ) → place + 4 ≤ length bytes → be32 bytes place ≡ n → u32_at bytes place ≡ Some n
unfolding u32_at
long_inside bytes place n within is = rw (le-leb (place + 4) (length bytes) within) (ap Some is)

size_by : (bytes : List ℕ) (place glyph_count count : ℕ) → number_at bytes place ≡ 6 → number_at bytes (place + 4) ≡ count → lookup_size bytes place glyph_count ≡ 12 + 4 * count
unfolding lookup_size
size_by bytes place glyph_count count format is = rw (format, is) refl

cost_by : (bytes : List ℕ) (list glyph_count i offset size : ℕ) → u32_at bytes (list + 4 * i) ≡ Some offset → lookup_size bytes (list + offset) glyph_count ≡ size → lookup_cost bytes list glyph_count i ≡ 8 + size
unfolding lookup_cost
cost_by bytes list glyph_count i offset size at is = rw (at, lookup_cost) (ap (λ n. 8 + n) is)

pub listed_by :
    (bytes : List ℕ) (list glyph_count i offset : ℕ) (pairs : List (ℕ × ℕ))
    → list + 4 * i + 4 ≤ length bytes → be32 bytes (list + 4 * i) ≡ offset
    → lookup_at MORX bytes (list + offset) glyph_count ≡ Ok pairs
    → listed_lookup bytes list glyph_count i ≡ Ok pairs
unfolding listed_lookup
listed_by bytes list glyph_count i offset pairs within at is =
    rw (le-ltb (length bytes) (list + 4 * i + 4) within) (rw at is)

-- a front, tables before one, the table, tables behind it, and the rest
regrouped : (f j t d a : List ℕ) → f ++ ((j ++ (t ++ d)) ++ a) ≡ (f ++ j) ++ (t ++ (d ++ a))
regrouped f j t d a =
    ap (λ xs. f ++ xs) (append_assoc j (t ++ d) a)
    ∙ ap (λ xs. f ++ (j ++ xs)) (append_assoc t d a)
    ∙ sym (append_assoc f j (t ++ (d ++ a)))

module _ (law : WrittenLookupsAreRead) (lookups : List (List (ℕ × ℕ))) (tables : List (List ℕ)) (are : AreTables lookups tables)
    (pairs_small : All ArePairs lookups) (short : length (joined tables) ≤ 268435455) (few : length lookups ≤ 131072)
    (front rest : List ℕ) (list glyph_count : ℕ) (front_long : length front ≡ list) where
  abbrev n : ℕ
  n = length tables

  abbrev starts : List ℕ
  starts = starts_from (4 * n) tables

  abbrev pub whole : List ℕ
  whole = front ++ (substitution_bytes tables ++ rest)

  abbrev head : List ℕ
  head = front ++ long_bytes starts

  at_starts : whole ≡ front ++ (long_bytes starts ++ (joined tables ++ rest))
  at_starts = ap (λ xs. front ++ xs) (append_assoc (long_bytes starts) (joined tables) rest)

  at_tables : whole ≡ head ++ (joined tables ++ rest)
  at_tables = at_starts ∙ sym (append_assoc front (long_bytes starts) (joined tables ++ rest))

  head_long : length head ≡ list + 4 * n
  head_long = omega (arith, length-append front (long_bytes starts), length_longs starts, length_starts (4 * n) tables, front_long)

  whole_long : length whole ≡ list + 4 * n + length (joined tables) + length rest
  whole_long = ap length at_tables ∙ omega (arith, length-append head (joined tables ++ rest), length-append (joined tables) rest, head_long)

  abbrev offset : ℕ → ℕ
  offset i = 4 * n + length (joined (take i tables))

  offset_at : (i : ℕ) → i < n → be32 whole (list + 4 * i) ≡ offset i
  offset_at i below =
      ap (λ xs. be32 xs (list + 4 * i)) at_starts
      ∙ long_at starts front (joined tables ++ rest) (list + 4 * i) i (omega (arith, length_starts (4 * n) tables))
      (starts_are_longs (4 * n) tables (omega (arith, short, few, are.count))) (omega (arith, front_long))
      ∙ start_is (4 * n) tables i below

  abbrev front_of : ℕ → List ℕ
  front_of i = head ++ joined (take i tables)

  abbrev rest_of : ℕ → List ℕ
  rest_of i = joined (drop (suc i) tables) ++ rest

  front_of_long : (i : ℕ) → length (front_of i) ≡ list + offset i
  front_of_long i = omega (arith, length-append head (joined (take i tables)), head_long)

  at_table : (i : ℕ) → i < n → whole ≡ front_of i ++ (get_or tables i [] ++ rest_of i)
  at_table i below =
      at_tables
      ∙ ap (λ xs. head ++ (xs ++ rest)) (table_between tables i below)
      ∙ regrouped head (joined (take i tables)) (get_or tables i []) (joined (drop (suc i) tables)) rest

  table_read : (i : ℕ) → i < n → lookup_at MORX whole (list + offset i) glyph_count ≡ Ok (get_or lookups i [])
  table_read i below =
      ap (λ xs. lookup_at MORX xs (list + offset i) glyph_count) (at_table i below)
      ∙ ap (λ p. lookup_at MORX (front_of i ++ (get_or tables i [] ++ rest_of i)) p glyph_count) (sym (front_of_long i))
      ∙ law MORX (get_or lookups i []) (get_or tables i []) (front_of i) (rest_of i) glyph_count
      (pairs_small i [] (omega (arith, are.count))) (are.each i (omega (arith, are.count)))

  size_is : (i : ℕ) → i < n → lookup_size whole (list + offset i) glyph_count ≡ length (get_or tables i [])
  size_is i below =
      let pairs : List (ℕ × ℕ) = get_or lookups i [] in
      let written : lookup_written pairs ≡ Ok (get_or tables i []) = are.each i (omega (arith, are.count)) in
      let has = lookup_has_length pairs (get_or tables i []) written in
      let place : ℕ = list + offset i in
      let split : whole ≡ front_of i ++ (word_bytes (lookup_words pairs) ++ rest_of i) =
      at_table i below ∙ ap (λ xs. front_of i ++ (xs ++ rest_of i)) (sym (lookup_made pairs (get_or tables i []) written)) in
      let long : length whole ≡ place + length (get_or tables i []) + length (rest_of i) =
      ap length (at_table i below) ∙ omega (arith, length-append (front_of i) (get_or tables i [] ++ rest_of i), length-append (get_or tables i []) (rest_of i), front_of_long i) in
      let format : be16 whole place ≡ 6 =
      ap (λ xs. be16 xs place) split ∙ word_alone (lookup_words pairs) (front_of i) (rest_of i) place 0 (omega arith) (omega arith) (omega (arith, front_of_long i)) in
      let count : be16 whole (place + 4) ≡ length pairs + 1 =
      ap (λ xs. be16 xs (place + 4)) split ∙ word_alone (lookup_words pairs) (front_of i) (rest_of i) (place + 4) 2 (omega arith) (omega (arith, has.few)) (omega (arith, front_of_long i)) in
      size_by whole place glyph_count (length pairs + 1)
      (number_inside whole place 6 (omega (arith, long, has.long)) format)
      (number_inside whole (place + 4) (length pairs + 1) (omega (arith, long, has.long)) count)
      ∙ omega (arith, has.long)

  cost_of : (i : ℕ) → i < n → lookup_cost whole list glyph_count i ≡ 8 + length (get_or tables i [])
  cost_of i below =
      cost_by whole list glyph_count i (offset i) (length (get_or tables i []))
      (long_inside whole (list + 4 * i) (offset i) (omega (arith, whole_long)) (offset_at i below)) (size_is i below)

  costs_are : (k : ℕ) → k ≤ n → lookups_cost whole list glyph_count k ≡ 8 * k + length (joined (take k tables))
  costs_are k le =
      let long : length (take k tables) ≡ k = length-take-le k tables le in
      let sum = cost_is (lookup_cost whole list glyph_count) (take k tables) 0 (λ j below.
      let here : j < k = omega (arith, long) in
      let same : get_or (take k tables) j [] ≡ get_or tables j [] = get_or-take k tables j [] here in
      ap (lookup_cost whole list glyph_count) (zero-add j) ∙ cost_of j (omega arith) ∙ ap (λ xs. 8 + length xs) (sym same)) in
      subst (λ (m : ℕ). sum_by (lookup_cost whole list glyph_count) (range_with_len 0 m) ≡ 8 * m + length (joined (take k tables))) long sum

  none_past_room : (room : ℕ) → 8 * n + length (joined tables) ≤ room → lookup_past_room whole list glyph_count room (length lookups) ≡ None
  none_past_room room enough =
      none_found (λ i. nat_lt room (lookups_cost whole list glyph_count (i + 1))) 0 (length lookups) (λ i from below.
      le-ltb room (lookups_cost whole list glyph_count (i + 1))
      (omega (arith, costs_are (i + 1) (omega (arith, below, are.count)), first_le tables (i + 1), enough, below, are.count)))

  all_read : lookups_at whole list glyph_count (length lookups) ≡ Ok lookups
  all_read =
      each_is (listed_lookup whole list glyph_count) lookups [] 0 (λ k below.
      let here : k < n = omega (arith, below, are.count) in
      ap (listed_lookup whole list glyph_count) (zero-add k)
      ∙ listed_by whole list glyph_count k (offset k) (get_or lookups k []) (omega (arith, whole_long, here)) (offset_at k here) (table_read k here))

  pub lookups_are_read : (room : ℕ) → 8 * n + length (joined tables) ≤ room → lookups_within whole list glyph_count room (length lookups) ≡ Ok lookups
  unfolding lookups_within
  lookups_are_read room enough =
      ap (λ (o : Option ℕ). elim o [ None ↦ lookups_at whole list glyph_count (length lookups) | Some i ↦ Err (fault_at MORX PastEnd (list + 4 * i)) ])
      (none_past_room room enough)
      ∙ all_read

no_longs : All IsLong []
no_longs k d below = absurd (omega arith)

-- what comes of the machine and of its lookups
contextual_by :
    (bytes : List ℕ) (list glyph_count : ℕ) (m : StateArray) (cells : ℕ) (t : ContextualTables)
    → with_classes contextual_at m cells (lookup_at MORX bytes (class_place m) glyph_count) ≡ Ok t.state
    → lookups_within bytes list glyph_count (room_left m cells) (lookup_count m cells) ≡ Ok t.lookups
    → contextual_tables bytes list glyph_count m cells ≡ Ok t
unfolding contextual_tables
contextual_by bytes list glyph_count m cells t state lookups =
    ap (λ (r : Result (TableValue (GenericStateEntry ContextualEntryData)) Fault). after r (λ s.
    after (lookups_within bytes list glyph_count (room_left m cells) (lookup_count m cells)) (λ ls. Ok (record { state = s; lookups = ls })))) state
    ∙ ap (λ (r : Result (List (List (ℕ × ℕ))) Fault). after r (λ ls. Ok (record { state = t.state; lookups = ls }))) lookups

tables_by :
    (bytes : List ℕ) (place glyph_count : ℕ) (m : StateArray) (cells : ℕ) (t : ContextualTables)
    → place + 20 ≤ length bytes → state_array_at MORX bytes place 4 ≡ Ok m → cells_of m ≡ Ok cells
    → contextual_tables bytes (list_place bytes place 16) glyph_count m cells ≡ Ok t
    → contextual_tables_at bytes place glyph_count ≡ Ok t
unfolding contextual_tables_at
tables_by bytes place glyph_count m cells t inside array whole tables =
    rw (le-ltb (length bytes) (place + 20) inside)
    (ap (λ (r : Result StateArray Fault). after r (λ a. after (cells_of a) (λ c. contextual_tables bytes (list_place bytes place 16) glyph_count a c))) array
    ∙ ap (λ (r : Result ℕ Fault). after r (λ c. contextual_tables bytes (list_place bytes place 16) glyph_count m c)) whole
    ∙ tables)

-- lookups that are read of bytes in parts are read of the whole
within_by :
    (bytes parts : List ℕ) (found place glyph_count room count asked n : ℕ) (lookups : List (List (ℕ × ℕ)))
    → bytes ≡ parts → found ≡ place → count ≡ asked → asked ≡ n
    → lookups_within parts place glyph_count room n ≡ Ok lookups
    → lookups_within bytes found glyph_count room count ≡ Ok lookups
within_by bytes parts found place glyph_count room count asked n lookups split at as_asked same read =
    ap (λ xs. lookups_within xs found glyph_count room count) split
    ∙ ap (λ p. lookups_within parts p glyph_count room count) at
    ∙ ap (lookups_within parts place glyph_count room) (as_asked ∙ same)
    ∙ read

contextual_read :
    WrittenLookupsAreRead → MachinesAreRead 4 contextual_at contextual_words
    → (t : ContextualTables) (before behind : List ℕ) (glyph_count : ℕ) → IsContextual t → (classes : List ℕ) (tables : List (List ℕ))
    → class_table_written t.state ≡ Ok classes → AreSubstitutions t tables
    → contextual_tables_at (before ++ (contextual_bytes classes tables t ++ behind)) (length before) glyph_count ≡ Ok t
contextual_read law machines t before behind glyph_count small classes tables table subs =
    let cells : ℕ = length t.state.rules in
    let end : ℕ = machine_end 1 4 classes cells in
    let place : ℕ = length before in
    let bytes : List ℕ = before ++ (contextual_bytes classes tables t ++ behind) in
    let near : end < 2097152 = end_is_near 1 4 classes t.state table (omega arith) (omega arith) in
    let longs : All IsLong (end ∷ []) = one_more_long end [] (omega (arith, near)) no_longs in
    let has : HasMachine 4 contextual_at (end ∷ []) end t.state (substitution_bytes tables ++ behind) bytes place glyph_count =
    has_machine 4 contextual_at contextual_words facts.contextual_has_size facts.contextual_reads_again machines (end ∷ []) classes t.state before
    (substitution_bytes tables) behind glyph_count small.0 table longs (omega arith) in
    let array = is_array bytes place glyph_count t.state has.read in
    let m : StateArray = array.array in
    let at : list_place bytes place 16 ≡ place + end = ap (λ n. place + n) (has.offset 0 (omega arith)) in
    let few_rules : cells ≤ 65536 = (are_rows t.state.class_count t.state.rules (class_table_is t.state classes table).0).few in
    let few : length t.lookups ≤ 131072 = omega (arith, subs.few, few_rules) in
    let list_long : length (substitution_bytes tables) ≡ 4 * length tables + length (joined tables) =
    substitution_long tables in
    let long : length (substitution_bytes tables ++ behind) ≡ length (substitution_bytes tables) + length behind = length-append (substitution_bytes tables) behind in
    let enough : 8 * length tables + length (joined tables) ≤ room_left m array.cells =
    omega (arith, array.rest, has.long, long, list_long, array.count, subs.few, subs.tables_are.count) in
    let read : lookups_within (has.front ++ (substitution_bytes tables ++ behind)) (place + end) glyph_count (room_left m array.cells) (length t.lookups) ≡ Ok t.lookups =
    lookups_are_read law t.lookups tables subs.tables_are small.1 subs.short few has.front behind (place + end) glyph_count has.front_long (room_left m array.cells) enough in
    let within : lookups_within bytes (list_place bytes place 16) glyph_count (room_left m array.cells) (lookup_count m array.cells) ≡ Ok t.lookups =
    within_by bytes (has.front ++ (substitution_bytes tables ++ behind)) (list_place bytes place 16) (place + end) glyph_count (room_left m array.cells)
    (lookup_count m array.cells) (lookups_asked t.state.rules) (length t.lookups) t.lookups has.split at array.asked subs.asked read in
    tables_by bytes place glyph_count m array.cells t (omega (arith, has.long)) array.there array.whole
    (contextual_by bytes (list_place bytes place 16) glyph_count m array.cells t array.classes within)
  where
    substitution_long : (tables : List (List ℕ)) → length (substitution_bytes tables) ≡ 4 * length tables + length (joined tables)
    substitution_long tables =
        length-append (long_bytes (starts_from (4 * length tables) tables)) (joined tables)
        ∙ omega (arith, length_longs (starts_from (4 * length tables) tables), length_starts (4 * length tables) tables)

pub contextuals_are_read : WrittenLookupsAreRead → MachinesAreRead 4 contextual_at contextual_words → ContextualsAreRead
contextuals_are_read law machines t bytes before behind glyph_count small is =
    let first = written_parts (class_table_written t.state) (λ classes. after_written (substitutions_written t) (λ tables. Ok (contextual_bytes classes tables t))) bytes is in
    let second = written_parts (substitutions_written t) (λ tables. Ok (contextual_bytes first.0 tables t)) bytes first.2 in
    let same : contextual_bytes first.0 second.0 t ≡ bytes = bytes_are (contextual_bytes first.0 second.0 t) bytes second.2 in
    subst (λ (b : List ℕ). contextual_tables_at (before ++ (b ++ behind)) (length before) glyph_count ≡ Ok t) same
    (contextual_read law machines t before behind glyph_count small first.0 second.0 first.1 (are_substitutions t second.0 second.1))
  where
    bytes_are : (x y : List ℕ) → ◌≡◌ {A = Result (List ℕ) MorxWriteError} (Ok x) (Ok y) → x ≡ y
    bytes_are x y is = cc
