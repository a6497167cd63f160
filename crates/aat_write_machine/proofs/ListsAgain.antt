-- Subtables of insertion and of ligatures that are written are read again.
use Rattle.std.proofs.Common.{◌≡◌, ℕ, ◌+◌, ◌*◌, ◌<◌, ◌≤◌, List, [], ◌∷◌, ◌++◌, length, Bool, true, false, ◌||◌, cond, Result, Ok, Err, All, refl, sym, ap, ◌∙◌, subst, append_assoc, arith}
use Rattle.std.proofs.lemmas.Bool.{cond-false, le-ltb, ltb-false, ne_eqb}
use Rattle.std.specs.Prelude.{nat_eq}
use Rattle.std.proofs.lemmas.List.{length-append}
use Rattle.aat_bytes.specs.Faults.{after, fault_at}
use Rattle.aat_bytes.specs.Numbers.{be16, be32}
use Rattle.aat_bytes.specs.declared.error.Fault.{Fault}
use Rattle.aat_bytes.specs.declared.error.FaultKind.TheVariants.{PastEnd}
use Rattle.aat_bytes.specs.declared.tags.TheConstants.{MORX}
use Rattle.aat_machine_tables.specs.Subtables.{InsertionTables, LigatureTables}
use Rattle.aat_machine_tables.specs.Table.{TableValue}
use Rattle.aat_machine_tables.specs.declared.entries.InsertionEntryData.{InsertionEntryData}
use Rattle.aat_machine_tables.specs.declared.state_table.GenericStateEntry.{GenericStateEntry}
use Rattle.aat_read_machine.specs.Entries.{insertion_at}
use Rattle.aat_read_machine.specs.Kinds.{insertion_tables_at, ligature_at, list_at, list_place}
use Rattle.aat_read_machine.specs.Lists.{glyphs_from, numbers16, numbers32}
use Rattle.aat_read_machine.specs.Machine.{machine_at}
use Rattle.aat_write_machine.specs.Words.{long_bytes, word_bytes}
use Rattle.aat_write_machine.specs.EntryWords.{insertion_words, one_word}
use Rattle.aat_write_machine.specs.KindLaws.{BeginsWith, InsertionsAreRead, IsInsertion, IsLigature, IsSameInsertion, IsSameLigature, LigaturesAreRead, ReadsSame}
use Rattle.aat_write_machine.specs.Kinds.{glyph_words, has_long_list, insertion_bytes, is_too_long, ligature_bytes, machine_end}
use Rattle.aat_write_machine.specs.MachineLaws.{IsLong, MachinesAreRead}
use Rattle.aat_write_machine.specs.Machines.{class_table_written}
use Rattle.aat_write_machine.specs.MorxWriteErrors.{after_written}
use Rattle.aat_write_machine.specs.declared.error.MorxWriteError.{MorxWriteError}
use Rattle.aat_write_machine.specs.declared.error.MorxWriteError.TheVariants.{TooLong}
use Rattle.aat_write_machine.specs.facts.Entries as facts
use Rattle.aat_write_machine.proofs.Begins.{glyphs_begin, longs_begin, words_begin}
use Rattle.aat_write_machine.proofs.MachineAgain.{one_more_long}
use Rattle.aat_write_machine.proofs.MachineParts.{HasMachine, end_is_near, has_machine}
use Rattle.aat_write_machine.specs.facts.LongPlaces.{length_longs}
use Rattle.aat_write_machine.specs.facts.WordPlaces.{length_words}

-- what is known where something was written of a class table, unless it was too long
pub made_of :
    (table : Result (List ℕ) MorxWriteError) (many : Bool) (made : List ℕ → List ℕ) (bytes : List ℕ)
    → after_written table (λ classes. cond many (Err TooLong) (Ok (made classes))) ≡ Ok bytes
    → (classes : List ℕ) × (table ≡ Ok classes) × (many ≡ false) × (made classes ≡ bytes)
made_of (Err e) many made bytes is = absurd (let wrong : ⊥ = cc in wrong)
made_of (Ok classes) true made bytes is = absurd (let wrong : ⊥ = cc in wrong)
made_of (Ok classes) false made bytes is = (classes, refl, refl, cc)

no_longs : All IsLong []
no_longs k d below = absurd (omega arith)

either_false : (a b : Bool) → (a || b) ≡ false → (a ≡ false) × (b ≡ false)
either_false true b is = absurd (let wrong : ⊥ = cc in wrong)
either_false false b is = (refl, is)

-- what holds of bytes in parts and of a place holds of the whole and of the place as it is found
moved : (P : List ℕ → ℕ → Type 0) {whole parts : List ℕ} {found place : ℕ} → whole ≡ parts → found ≡ place → P parts place → P whole found
moved P {whole = whole} {parts = parts} {found = found} {place = place} split at here =
    subst (λ (n : ℕ). P whole n) (sym at) (subst (λ (xs : List ℕ). P xs place) (sym split) here)

-- a list that has an offset starts there
has_list : (bytes : List ℕ) (place at : ℕ) → 1 ≤ be32 bytes (place + at) → list_at bytes place at ≡ Ok (list_place bytes place at)
has_list bytes place at some =
    cond-false (nat_eq (be32 bytes (place + at)) 0) (Err (fault_at MORX PastEnd (place + at))) (Ok (list_place bytes place at))
    (ne_eqb (be32 bytes (place + at)) 0 (λ e. omega (arith, e, some)))

-- tables whose parts are read
insertion_by :
    (bytes : List ℕ) (place glyph_count : ℕ) (state : TableValue (GenericStateEntry InsertionEntryData))
    → place + 20 ≤ length bytes → 1 ≤ be32 bytes (place + 16)
    → machine_at 4 insertion_at MORX bytes place glyph_count ≡ Ok state
    → insertion_tables_at bytes place glyph_count ≡ Ok (record { state = state; glyphs = glyphs_from bytes (list_place bytes place 16) })
unfolding insertion_tables_at
insertion_by bytes place glyph_count state inside some read =
    rw (le-ltb (length bytes) (place + 20) inside)
    (ap (λ (r : Result ℕ Fault). after r (λ list. after (machine_at 4 insertion_at MORX bytes place glyph_count) (λ s. Ok (record { state = s; glyphs = glyphs_from bytes list })))) (has_list bytes place 16 some)
    ∙ ap (λ (r : Result (TableValue (GenericStateEntry InsertionEntryData)) Fault). after r (λ s. Ok (record { state = s; glyphs = glyphs_from bytes (list_place bytes place 16) }))) read)

ligature_by :
    (bytes : List ℕ) (place glyph_count : ℕ) (state : TableValue (GenericStateEntry ℕ))
    → place + 28 ≤ length bytes
    → 1 ≤ be32 bytes (place + 16) → 1 ≤ be32 bytes (place + 20) → 1 ≤ be32 bytes (place + 24)
    → machine_at 2 be16 MORX bytes place glyph_count ≡ Ok state
    → ligature_at bytes place glyph_count ≡ Ok (record {
      state = state;
      actions = numbers32 bytes (list_place bytes place 16);
      components = numbers16 bytes (list_place bytes place 20);
      ligatures = glyphs_from bytes (list_place bytes place 24);
    })
unfolding ligature_at
ligature_by bytes place glyph_count state inside first second third read =
    let with_third : ℕ → ℕ → ℕ → Result LigatureTables Fault =
    λ one two three. after (machine_at 2 be16 MORX bytes place glyph_count) (λ s. Ok (record {
      state = s;
      actions = numbers32 bytes one;
      components = numbers16 bytes two;
      ligatures = glyphs_from bytes three;
    })) in
    let one : ℕ = list_place bytes place 16 in
    let two : ℕ = list_place bytes place 20 in
    rw (le-ltb (length bytes) (place + 28) inside)
    (ap (λ (r : Result ℕ Fault). after r (λ a. after (list_at bytes place 20) (λ b. after (list_at bytes place 24) (with_third a b)))) (has_list bytes place 16 first)
    ∙ ap (λ (r : Result ℕ Fault). after r (λ b. after (list_at bytes place 24) (with_third one b))) (has_list bytes place 20 second)
    ∙ ap (λ (r : Result ℕ Fault). after r (with_third one two)) (has_list bytes place 24 third)
    ∙ ap (λ (r : Result (TableValue (GenericStateEntry ℕ)) Fault). after r (λ s. Ok (record {
      state = s;
      actions = numbers32 bytes (list_place bytes place 16);
      components = numbers16 bytes (list_place bytes place 20);
      ligatures = glyphs_from bytes (list_place bytes place 24);
    }))) read)

-- the list behind an insertion machine
insertion_read :
    (law : MachinesAreRead 4 insertion_at insertion_words)
    (t : InsertionTables) (before after : List ℕ) (glyph_count : ℕ) (small : IsInsertion t) (classes : List ℕ)
    → class_table_written t.state ≡ Ok classes
    → ReadsSame IsSameInsertion t (insertion_tables_at (before ++ (insertion_bytes classes t ++ after)) (length before) glyph_count)
insertion_read law t before after glyph_count small classes table =
    let end : ℕ = machine_end 1 4 classes (length t.state.rules) in
    let glyphs : List ℕ = word_bytes (glyph_words t.glyphs) in
    let whole : List ℕ = before ++ (insertion_bytes classes t ++ after) in
    let place : ℕ = length before in
    let near : end < 2097152 = end_is_near 1 4 classes t.state table (omega arith) (omega arith) in
    let longs : All IsLong (end ∷ []) = one_more_long end [] (omega (arith, near)) no_longs in
    let has : HasMachine 4 insertion_at (end ∷ []) end t.state (glyphs ++ after) whole place glyph_count =
    has_machine 4 insertion_at insertion_words facts.insertion_has_size facts.insertion_reads_again law (end ∷ []) classes t.state before glyphs after glyph_count small.0 table longs (omega arith) in
    let at : list_place whole place 16 ≡ place + end = ap (λ n. place + n) (has.offset 0 (omega arith)) in
    let here : BeginsWith (glyphs_from (has.front ++ (glyphs ++ after)) (place + end)) t.glyphs =
    glyphs_begin t.glyphs has.front after (place + end) small.1 has.front_long in
    let there : BeginsWith (glyphs_from whole (list_place whole place 16)) t.glyphs =
    moved (λ bytes n. BeginsWith (glyphs_from bytes n) t.glyphs) has.split at here in
    let inside : place + 20 ≤ length whole = omega (arith, has.long) in
    let some : 1 ≤ be32 whole (place + 16) = omega (arith, at) in (
      record { state = t.state; glyphs = glyphs_from whole (list_place whole place 16) },
      insertion_by whole place glyph_count t.state inside some has.read,
      (refl, there),
    )

pub insertions_are_read : MachinesAreRead 4 insertion_at insertion_words → InsertionsAreRead
insertions_are_read law t bytes before behind glyph_count small is =
    let parts = made_of (class_table_written t.state) (is_too_long t.glyphs) (λ classes. insertion_bytes classes t) bytes is in
    subst (λ (b : List ℕ). ReadsSame IsSameInsertion t (insertion_tables_at (before ++ (b ++ behind)) (length before) glyph_count))
    parts.3 (insertion_read law t before behind glyph_count small parts.0 parts.1)

-- the lists behind a ligature machine
ligature_read :
    (law : MachinesAreRead 2 be16 one_word)
    (t : LigatureTables) (before after : List ℕ) (glyph_count : ℕ) (small : IsLigature t) (classes : List ℕ)
    → class_table_written t.state ≡ Ok classes → has_long_list t ≡ false
    → ReadsSame IsSameLigature t (ligature_at (before ++ (ligature_bytes classes t ++ after)) (length before) glyph_count)
ligature_read law t before after glyph_count small classes table short =
    let end : ℕ = machine_end 3 2 classes (length t.state.rules) in
    let for_components : ℕ = end + 4 * length t.actions in
    let for_ligatures : ℕ = for_components + 2 * length t.components in
    let further : List ℕ = end ∷ for_components ∷ for_ligatures ∷ [] in
    let actions : List ℕ = long_bytes t.actions in
    let components : List ℕ = word_bytes t.components in
    let ligatures : List ℕ = word_bytes (glyph_words t.ligatures) in
    let lists : List ℕ = actions ++ (components ++ ligatures) in
    let whole : List ℕ = before ++ (ligature_bytes classes t ++ after) in
    let place : ℕ = length before in
    let lengths = either_false (is_too_long t.actions) (is_too_long t.components || is_too_long t.ligatures) short in
    let behind = either_false (is_too_long t.components) (is_too_long t.ligatures) lengths.1 in
    let few_actions : length t.actions ≤ 268435455 = ltb-false 268435455 (length t.actions) lengths.0 in
    let few_components : length t.components ≤ 268435455 = ltb-false 268435455 (length t.components) behind.0 in
    let near : end < 2097152 = end_is_near 3 2 classes t.state table (omega arith) (omega arith) in
    let last : All IsLong (for_ligatures ∷ []) = one_more_long for_ligatures [] (omega (arith, near, few_actions, few_components)) no_longs in
    let two : All IsLong (for_components ∷ for_ligatures ∷ []) = one_more_long for_components (for_ligatures ∷ []) (omega (arith, near, few_actions)) last in
    let longs : All IsLong further = one_more_long end (for_components ∷ for_ligatures ∷ []) (omega (arith, near)) two in
    let has : HasMachine 2 be16 further end t.state (lists ++ after) whole place glyph_count =
    has_machine 2 be16 one_word facts.number_has_size facts.number_reads_again law further classes t.state before lists after glyph_count small.0 table longs (omega arith) in
    let at_actions : list_place whole place 16 ≡ place + end = ap (λ n. place + n) (has.offset 0 (omega arith)) in
    let at_components : list_place whole place 20 ≡ place + for_components = ap (λ n. place + n) (has.offset 1 (omega arith)) in
    let at_ligatures : list_place whole place 24 ≡ place + for_ligatures = ap (λ n. place + n) (has.offset 2 (omega arith)) in
    let split_actions : whole ≡ has.front ++ (actions ++ ((components ++ ligatures) ++ after)) =
    has.split ∙ ap (λ xs. has.front ++ xs) (append_assoc actions (components ++ ligatures) after) in
    let split_components : whole ≡ (has.front ++ actions) ++ (components ++ (ligatures ++ after)) =
    split_actions ∙ sym (append_assoc has.front actions ((components ++ ligatures) ++ after))
    ∙ ap (λ xs. (has.front ++ actions) ++ xs) (append_assoc components ligatures after) in
    let split_ligatures : whole ≡ ((has.front ++ actions) ++ components) ++ (ligatures ++ after) =
    split_components ∙ sym (append_assoc (has.front ++ actions) components (ligatures ++ after)) in
    let long_components : length (has.front ++ actions) ≡ place + for_components =
    omega (arith, length-append has.front actions, length_longs t.actions, has.front_long) in
    let long_ligatures : length ((has.front ++ actions) ++ components) ≡ place + for_ligatures =
    omega (arith, length-append (has.front ++ actions) components, length_words t.components, long_components) in
    let actions_read : BeginsWith (numbers32 whole (list_place whole place 16)) t.actions =
    moved (λ bytes n. BeginsWith (numbers32 bytes n) t.actions) split_actions at_actions
    (longs_begin t.actions has.front ((components ++ ligatures) ++ after) (place + end) small.1 has.front_long) in
    let components_read : BeginsWith (numbers16 whole (list_place whole place 20)) t.components =
    moved (λ bytes n. BeginsWith (numbers16 bytes n) t.components) split_components at_components
    (words_begin t.components (has.front ++ actions) (ligatures ++ after) (place + for_components) small.2 long_components) in
    let ligatures_read : BeginsWith (glyphs_from whole (list_place whole place 24)) t.ligatures =
    moved (λ bytes n. BeginsWith (glyphs_from bytes n) t.ligatures) split_ligatures at_ligatures
    (glyphs_begin t.ligatures ((has.front ++ actions) ++ components) after (place + for_ligatures) small.3 long_ligatures) in
    let inside : place + 28 ≤ length whole = omega (arith, has.long) in
    let first : 1 ≤ be32 whole (place + 16) = omega (arith, at_actions) in
    let second : 1 ≤ be32 whole (place + 20) = omega (arith, at_components) in
    let third : 1 ≤ be32 whole (place + 24) = omega (arith, at_ligatures) in (
      record {
        state = t.state;
        actions = numbers32 whole (list_place whole place 16);
        components = numbers16 whole (list_place whole place 20);
        ligatures = glyphs_from whole (list_place whole place 24);
      },
      ligature_by whole place glyph_count t.state inside first second third has.read,
      (refl, actions_read, components_read, ligatures_read),
    )

pub ligatures_are_read : MachinesAreRead 2 be16 one_word → LigaturesAreRead
ligatures_are_read law t bytes before behind glyph_count small is =
    let parts = made_of (class_table_written t.state) (has_long_list t) (λ classes. ligature_bytes classes t) bytes is in
    subst (λ (b : List ℕ). ReadsSame IsSameLigature t (ligature_at (before ++ (b ++ behind)) (length before) glyph_count))
    parts.3 (ligature_read law t before behind glyph_count small parts.0 parts.1 parts.2)
