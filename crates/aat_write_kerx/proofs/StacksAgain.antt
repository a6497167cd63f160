-- The machines of the extended kerning table that are written are read again.
use Rattle.std.proofs.Common.{◌≡◌, ◌≢◌, ℕ, ℤ, zero, suc, ◌+◌, ◌-◌, ◌*◌, ◌/◌, ◌<◌, ◌≤◌, List, [], ◌∷◌, ◌++◌, length, get_or, map, Bool, true, false, not, cond, Option, Some, None, position, Result, Ok, Err, All, refl, sym, ap, ◌∙◌, subst, append_assoc, arith}
use Rattle.std.specs.Prelude.{◌==◌}
use Rattle.std.specs.List.{flat_map, range_with_len}
use Rattle.std.proofs.lemmas.Bool.{le-ltb}
use Rattle.std.proofs.lemmas.Bool.Decides.{nat_tests}
use Rattle.std.proofs.lemmas.List.{append-nil, length-append}
use Rattle.aat_bytes.specs.Faults.{after}
use Rattle.aat_bytes.specs.Numbers.{be16, be32}
use Rattle.aat_bytes.specs.declared.error.Fault.{Fault}
use Rattle.aat_bytes.specs.declared.tags.TheConstants.{KERX}
use Rattle.aat_kerning_tables.specs.KerningTables.{KerxAnchorTables, KerxStackTables}
use Rattle.aat_machine_tables.specs.Table.{Rule}
use Rattle.aat_machine_tables.specs.declared.entries.EntryData.{EntryData}
use Rattle.aat_machine_tables.specs.declared.state_table.GenericStateEntry.{GenericStateEntry}
use Rattle.aat_read_machine.specs.Entries.{action_at, stack_action_at, value_index}
use Rattle.aat_read_machine.specs.Kinds.{list_place}
use Rattle.aat_read_machine.specs.Machine.{machine_at}
use Rattle.aat_read_extended.specs.kerx.Formats.{anchor_format_at, as_format}
use Rattle.aat_read_extended.specs.kerx.Machines.{action_type, pairs_place, point_pairs_from, stack_tables_at, values_from}
use Rattle.aat_kerning_tables.specs.declared.kerx.KerxFormat.TheVariants.{Format4}
use Rattle.aat_write_machine.specs.LookupLaws.{IsPair, WrittenLookupsAreRead}
use Rattle.aat_write_machine.specs.Lookups.{pair_words}
use Rattle.aat_write_machine.specs.Words.{word_bytes}
use Rattle.aat_write_machine.specs.facts.WordPlaces.{AreWords}
use Rattle.aat_write_machine.specs.EntryLaws.{HasSize, ReadsAgain}
use Rattle.aat_write_machine.specs.EntryWords.{rule_words}
use Rattle.aat_write_machine.specs.Kinds.{machine_end}
use Rattle.aat_write_machine.specs.MachineLaws.{IsLong, IsMachine, IsWord}
use Rattle.aat_write_machine.specs.Machines.{class_table_written}
use Rattle.aat_write_machine.specs.declared.error.MorxWriteError.{MorxWriteError}
use Rattle.aat_write_machine.proofs.MachineAgain.{machines_are_read}
use Rattle.aat_write_machine.proofs.MachineParts.{end_is_near, further_at, is_written, length_machine}
use Rattle.aat_write_kerx.specs.AnkrLaws.{IsSigned}
use Rattle.aat_write_kerx.specs.KerxLaws.{IsKerxMachine}
use Rattle.aat_write_kerx.specs.KerxWriteErrors.{after_written, of_machine}
use Rattle.aat_write_kerx.specs.MachineBytes.{KerxMachine, action_number, action_words, anchor_written, is_far, machine_written, stack_written, unless_far, with_offset}
use Rattle.aat_write_kerx.specs.PairBytes.{value_bytes}
use Rattle.aat_write_kerx.specs.declared.subtable_error.SubtableWriteError.{SubtableWriteError}
use Rattle.aat_write_kerx.proofs.ClassesAgain.{values_again}
use Rattle.aat_write_kerx.proofs.ListAgain.{length_bytes, list_again}
use Rattle.aat_write_kerx.proofs.NoneFar.{action_is_near}

-- an entry that counts bytes, or places
abbrev action_read : Bool → List ℕ → ℕ → EntryData
action_read counts_bytes bytes place = cond counts_bytes (stack_action_at bytes place) (action_at bytes place)

abbrev index_read : Bool → ℕ → ℕ
index_read counts_bytes number = cond counts_bytes (value_index number) number

index_again : (counts_bytes : Bool) (index : ℕ) → index_read counts_bytes (action_number counts_bytes index) ≡ index
index_again false index = refl
index_again true index = by_test (index == 65535) refl
  where
    by_test : (b : Bool) → (index == 65535) ≡ b → value_index (action_number true index) ≡ index
    by_test true is =
        let same : index ≡ 65535 = grind (arith, nat_tests) in
        subst (λ (n : ℕ). value_index (action_number true n) ≡ n) (sym same) refl
    by_test false is =
        let doubled : action_number true index ≡ 2 * index = ap (λ b. cond (not b) (2 * index) index) is in
        let odd : (2 * index == 65535) ≡ false = let apart : 2 * index ≢ 65535 = omega arith in grind (arith, nat_tests) in
        let half : 2 * index / 2 ≡ index = omega arith in
        ap value_index doubled ∙ ap (λ b. cond b 65535 (2 * index / 2)) odd ∙ half

module _ (counts_bytes : Bool) where
  abbrev words : EntryData → List ℕ
  words = action_words counts_bytes

  has_size : HasSize 2 words
  has_size x = refl

  abbrev extra_at : List ℕ → ℕ → EntryData
  extra_at bytes place = record { action_index = index_read counts_bytes (be16 bytes place) }

  reads_again : ReadsAgain extra_at words
  reads_again bytes place x each =
      let same : place ≡ place + 2 * 0 = omega arith in
      let of_number : ℕ → EntryData = λ n. record { action_index = index_read counts_bytes n } in
      let of_index : ℕ → EntryData = λ n. record { action_index = n } in
      ap of_number (ap (be16 bytes) same ∙ each 0 (omega arith)) ∙ ap of_index (index_again counts_bytes x.action_index)

  -- the numbers of a machine whose actions are near have 16 bits
  machine_is_small : (t : KerxMachine) → IsKerxMachine t → position (is_far counts_bytes) t.rules ≡ None → IsMachine words t
  machine_is_small t small none = (
    small.0,
    small.1,
    λ k d below.
        let rule = small.2 k d below in
        (rule.0, words_small (get_or t.rules k d) rule.1 (action_is_near counts_bytes t.rules k d none below)),
  )
    where
      words_small :
          (r : Rule (GenericStateEntry EntryData)) → All IsWord (rule_words (action_words false) r)
          → action_number counts_bytes r.2.extra.action_index ≤ 65535 → All IsWord (rule_words words r)
      words_small r all near zero d below = all 0 d (omega arith)
      words_small r all near (suc zero) d below = all 1 d (omega arith)
      words_small r all near (suc (suc zero)) d below = omega (arith, near)
      words_small r all near (suc (suc (suc k))) d below = absurd (omega arith)

  -- a machine behind a front, with what follows
  pub record IsRead (flags : ℕ) (t : KerxMachine) (machine later bytes : List ℕ) (place glyph_count : ℕ) : Type 0 where
    pub end : ℕ
    pub near : end < 2097152
    pub long : length bytes ≡ place + end + length later
    pub least : 20 ≤ end
    pub further : be32 bytes (place + 16) ≡ flags + end
    pub read : machine_at 2 extra_at KERX bytes place glyph_count ≡ Ok t
    pub front : List ℕ
    pub split : bytes ≡ front ++ later
    pub front_long : length front ≡ place + end

  module _ (law : WrittenLookupsAreRead) (flags : ℕ) (t : KerxMachine) (small : IsMachine words t) (few : flags < 2147483648)
      (classes : List ℕ) (table : class_table_written t ≡ Ok classes) (before later : List ℕ) (glyph_count : ℕ) where
    abbrev end_of : ℕ
    end_of = machine_end 1 2 classes (length t.rules)

    abbrev further : List ℕ
    further = (flags + end_of) ∷ []

    abbrev machine_of : List ℕ
    machine_of = with_offset counts_bytes flags t classes

    pub is_read : IsRead flags t machine_of later (before ++ (machine_of ++ later)) (length before) glyph_count
    is_read =
        let near : end_of < 2097152 = end_is_near 1 2 classes t table (omega arith) (omega arith) in
        let longs : All IsLong further = one_long (flags + end_of) (omega (arith, few, near)) in
        let machine_long : length machine_of ≡ end_of = length_machine 2 extra_at words has_size reads_again further classes t small table in
        record {
          end = end_of;
          near = near;
          long = omega (arith, length-append before (machine_of ++ later), length-append machine_of later, machine_long);
          least = omega arith;
          further =
              further_at 2 extra_at words has_size reads_again further classes t small table before later 0 (length before + 16) longs (omega arith) (omega arith) (omega arith);
          read =
              machines_are_read 2 extra_at words has_size reads_again law KERX further t machine_of before later glyph_count small longs (omega arith)
              (is_written 2 extra_at words has_size reads_again further classes t small table);
          front = before ++ machine_of;
          split = sym (append_assoc before machine_of later);
          front_long = length-append before machine_of ∙ ap (λ n. length before + n) machine_long;
        }
      where
        one_long : (n : ℕ) → n < 4294967296 → All IsLong (n ∷ [])
        one_long n low zero d below = omega (arith, low)
        one_long n low (suc k) d below = absurd (omega arith)

  -- what is known where a machine is written
  pub record IsMade (flags : ℕ) (t : KerxMachine) (machine : List ℕ) : Type 0 where
    pub classes : List ℕ
    pub none : position (is_far counts_bytes) t.rules ≡ None
    pub table : class_table_written t ≡ Ok classes
    pub made : with_offset counts_bytes flags t classes ≡ machine

  made_by :
      (flags : ℕ) (t : KerxMachine) (machine : List ℕ) (far : Option ℕ) (r : Result (List ℕ) MorxWriteError)
      → position (is_far counts_bytes) t.rules ≡ far → class_table_written t ≡ r
      → ◌≡◌ {A = Result (List ℕ) SubtableWriteError} (after_written (unless_far t far) (λ classes. Ok (with_offset counts_bytes flags t classes))) (Ok machine)
      → IsMade flags t machine
  made_by flags t machine (Some place) r far table is = absurd (let wrong : ⊥ = cc in wrong)
  made_by flags t machine None (Err e) far table is =
      let shown : ◌≡◌ {A = Result (List ℕ) SubtableWriteError} (after_written (of_machine (Err e)) (λ classes. Ok (with_offset counts_bytes flags t classes))) (Ok machine) =
      ap (λ (q : Result (List ℕ) MorxWriteError). after_written (of_machine q) (λ classes. Ok (with_offset counts_bytes flags t classes))) (sym table) ∙ is in
      absurd (let wrong : ⊥ = cc in wrong)
  made_by flags t machine None (Ok classes) far table is =
      let shown : ◌≡◌ {A = Result (List ℕ) SubtableWriteError} (Ok (with_offset counts_bytes flags t classes)) (Ok machine) =
      ap (λ (q : Result (List ℕ) MorxWriteError). after_written (of_machine q) (λ cs. Ok (with_offset counts_bytes flags t cs))) (sym table) ∙ is in
      record { classes = classes; none = far; table = table; made = cc }

  pub is_made : (flags : ℕ) (t : KerxMachine) (machine : List ℕ) → machine_written counts_bytes flags t ≡ Ok machine → IsMade flags t machine
  is_made flags t machine is = made_by flags t machine (position (is_far counts_bytes) t.rules) (class_table_written t) refl refl is

-- what comes after something is written comes of it
parts :
    {E X Y : Type 0} (written : Result X E) (next : X → Result Y E) (y : Y)
    → after_written written next ≡ Ok y → (x : X) × (written ≡ Ok x) × (next x ≡ Ok y)
parts (Ok x) next y is = (x, refl, is)
parts (Err e) next y is = absurd (let wrong : ⊥ = cc in wrong)

ok_parts : {E X : Type 0} (x y : X) → ◌≡◌ {A = Result X E} (Ok x) (Ok y) → x ≡ y
ok_parts x y is = cc

-- format 1 whose parts are read
stack_by :
    (bytes : List ℕ) (place glyph_count : ℕ) (t : KerxStackTables)
    → place + 20 ≤ length bytes → machine_at 2 stack_action_at KERX bytes place glyph_count ≡ Ok t.state_table
    → values_from bytes (list_place bytes place 16) ≡ t.values → stack_tables_at bytes place glyph_count ≡ Ok t
unfolding stack_tables_at
stack_by bytes place glyph_count t inside state values =
    rw (le-ltb (length bytes) (place + 20) inside)
    (ap (λ (r : Result KerxMachine Fault). after r (λ s. Ok (record { state_table = s; values = values_from bytes (list_place bytes place 16) }))) state
    ∙ ap (λ (vs : List ℤ). Ok (record { state_table = t.state_table; values = vs })) values)

pub written_stacks_are_read :
    WrittenLookupsAreRead → (t : KerxStackTables) (body before : List ℕ) (place glyph_count : ℕ)
    → IsKerxMachine t.state_table × All IsSigned t.values → stack_written t ≡ Ok body → length before ≡ place
    → stack_tables_at (before ++ body) place glyph_count ≡ Ok t
written_stacks_are_read law t body before place glyph_count small is at =
    let part = parts (machine_written true 0 t.state_table) (λ machine. Ok (machine ++ value_bytes t.values)) body is in
    let machine : List ℕ = part.0 in
    let values : List ℕ = value_bytes t.values in
    let same : machine ++ values ≡ body = ok_parts (machine ++ values) body part.2 in
    let made = is_made true 0 t.state_table machine part.1 in
    let has = is_read true law 0 t.state_table (machine_is_small true t.state_table small.0 made.none) (omega arith) made.classes made.table before values glyph_count in
    let bytes : List ℕ = before ++ (with_offset true 0 t.state_table made.classes ++ values) in
    let list : list_place bytes (length before) 16 ≡ length before + has.end =
    let far : be32 bytes (length before + 16) ≡ 0 + has.end = has.further in omega (arith, far) in
    let again : values_from bytes (list_place bytes (length before) 16) ≡ t.values =
    ap (values_from bytes) list
    ∙ ap (λ xs. values_from xs (length before + has.end)) has.split
    ∙ values_again t.values has.front (length before + has.end) small.1 has.front_long in
    let whole : stack_tables_at bytes (length before) glyph_count ≡ Ok t =
    stack_by bytes (length before) glyph_count t (omega (arith, has.long, has.least)) has.read again in
    subst (λ (b : List ℕ). stack_tables_at (before ++ b) place glyph_count ≡ Ok t) (ap (λ m. m ++ values) made.made ∙ same)
    (subst (λ (n : ℕ). stack_tables_at bytes n glyph_count ≡ Ok t) at whole)

-- pairs of point indexes
point_pair_is_words : (p : ℕ × ℕ) → IsPair p → AreWords (pair_words p)
point_pair_is_words p small = (small.0, (small.1, tt))

abbrev point_pair_at : List ℕ → ℕ → ℕ × ℕ
point_pair_at bytes place = (be16 bytes place, be16 bytes (place + 2))

point_pair_reads :
    (p : ℕ × ℕ) (bytes : List ℕ) (place : ℕ) → IsPair p
    → ((k : ℕ) → k < length (pair_words p) → be16 bytes (place + 2 * k) ≡ get_or (pair_words p) k 0) → point_pair_at bytes place ≡ p
point_pair_reads p bytes place small each =
    let first : place ≡ place + 2 * 0 = omega arith in
    let of_left : ℕ → ℕ × ℕ = λ n. (n, be16 bytes (place + 2)) in
    let of_right : ℕ → ℕ × ℕ = λ n. (p.0, n) in
    ap of_left (ap (be16 bytes) first ∙ each 0 (omega arith)) ∙ ap of_right (each 1 (omega arith))

point_pairs_again :
    (pairs : List (ℕ × ℕ)) (front : List ℕ) (place : ℕ) → All IsPair pairs → length front ≡ place
    → point_pairs_from (front ++ word_bytes (flat_map pair_words pairs)) place ≡ pairs
point_pairs_again pairs front place small at =
    let words : List ℕ = word_bytes (flat_map pair_words pairs) in
    let bytes : List ℕ = front ++ words in
    let words_long : length words ≡ 4 * length pairs = length_bytes pair_words 4 point_pair_at IsPair (0, 0) (λ p. refl) point_pair_is_words point_pair_reads pairs in
    let long : length bytes ≡ place + 4 * length pairs = length-append front words ∙ omega (arith, words_long, at) in
    let count : (length bytes - place) / 4 ≡ length pairs = omega (arith, long) in
    ap (λ n. map (λ i. point_pair_at bytes (place + 4 * i)) (range_with_len 0 n)) count
    ∙ ap (λ (xs : List ℕ). map (λ i. point_pair_at xs (place + 4 * i)) (range_with_len 0 (length pairs))) (ap (λ (ys : List ℕ). front ++ ys) (sym (append-nil words)))
    ∙ list_again pair_words 4 point_pair_at IsPair (0, 0) (λ p. refl) point_pair_is_words point_pair_reads pairs front [] place (length pairs) small at refl

-- format 4 whose parts are read
anchor_by :
    (bytes : List ℕ) (place glyph_count : ℕ) (t : KerxAnchorTables)
    → place + 20 ≤ length bytes → (action_type bytes place == 1) ≡ true
    → machine_at 2 action_at KERX bytes place glyph_count ≡ Ok t.state_table
    → point_pairs_from bytes (pairs_place bytes place) ≡ t.anchor_points
    → anchor_format_at bytes place glyph_count ≡ as_format Format4 (Ok t)
unfolding anchor_format_at
anchor_by bytes place glyph_count t inside action state pairs =
    rw (le-ltb (length bytes) (place + 20) inside)
    (rw action
    (ap (λ (r : Result KerxMachine Fault). as_format Format4 (after r (λ s. Ok (record { state_table = s; anchor_points = point_pairs_from bytes (pairs_place bytes place) })))) state
    ∙ ap (λ (ps : List (ℕ × ℕ)). as_format Format4 (Ok (record { state_table = t.state_table; anchor_points = ps }))) pairs))

pub written_anchors_are_read :
    WrittenLookupsAreRead → (t : KerxAnchorTables) (body before : List ℕ) (place glyph_count : ℕ)
    → IsKerxMachine t.state_table × All IsPair t.anchor_points → anchor_written t ≡ Ok body → length before ≡ place
    → anchor_format_at (before ++ body) place glyph_count ≡ as_format Format4 (Ok t)
written_anchors_are_read law t body before place glyph_count small is at =
    let pairs : List ℕ = word_bytes (flat_map pair_words t.anchor_points) in
    let part = parts (machine_written false 1073741824 t.state_table) (λ machine. Ok (machine ++ pairs)) body is in
    let machine : List ℕ = part.0 in
    let same : machine ++ pairs ≡ body = ok_parts (machine ++ pairs) body part.2 in
    let made = is_made false 1073741824 t.state_table machine part.1 in
    let has = is_read false law 1073741824 t.state_table (machine_is_small false t.state_table small.0 made.none) (omega arith) made.classes made.table before pairs glyph_count in
    let bytes : List ℕ = before ++ (with_offset false 1073741824 t.state_table made.classes ++ pairs) in
    let flags : be32 bytes (length before + 16) ≡ 1073741824 + has.end = has.further in
    let one : action_type bytes (length before) ≡ 1 = omega (arith, flags, has.near) in
    let action : (action_type bytes (length before) == 1) ≡ true = ap (λ n. n == 1) one in
    let list : pairs_place bytes (length before) ≡ length before + has.end = omega (arith, flags, has.near) in
    let again : point_pairs_from bytes (pairs_place bytes (length before)) ≡ t.anchor_points =
    ap (point_pairs_from bytes) list
    ∙ ap (λ xs. point_pairs_from xs (length before + has.end)) has.split
    ∙ point_pairs_again t.anchor_points has.front (length before + has.end) small.1 has.front_long in
    let whole : anchor_format_at bytes (length before) glyph_count ≡ as_format Format4 (Ok t) =
    anchor_by bytes (length before) glyph_count t (omega (arith, has.long, has.least)) action has.read again in
    subst (λ (b : List ℕ). anchor_format_at (before ++ b) place glyph_count ≡ as_format Format4 (Ok t)) (ap (λ m. m ++ pairs) made.made ∙ same)
    (subst (λ (n : ℕ). anchor_format_at bytes n glyph_count ≡ as_format Format4 (Ok t)) at whole)
