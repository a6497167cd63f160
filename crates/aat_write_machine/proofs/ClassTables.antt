-- The class table of a machine.
use Rattle.std.proofs.Common.{◌≡◌, ℕ, ◌+◌, ◌*◌, ◌<◌, ◌≤◌, List, [], ◌∷◌, length, Bool, true, false, Option, Some, None, Result, Ok, Err, refl, sym, ap, ◌∙◌, arith}
use Rattle.std.specs.Prelude.{nat_lt}
use Rattle.std.specs.List.{flat_map}
use Rattle.std.proofs.lemmas.Bool.{ltb-false}
use Rattle.std.proofs.lemmas.List.{length-append}
use Rattle.aat_lookup.specs.Keys.{first, first_fall}
use Rattle.aat_machine_tables.specs.Table.{TableValue}
use Rattle.aat_machine_tables.specs.declared.state_table.GenericStateEntry.{GenericStateEntry}
use Rattle.aat_write_machine.specs.Lookups.{lookup_words, lookup_written, pair_words}
use Rattle.aat_write_machine.specs.Words.{word_bytes}
use Rattle.aat_write_machine.specs.WriteErrors as lookups
use Rattle.aat_write_machine.specs.declared.write_error.WriteError.{WriteError}
use Rattle.aat_write_machine.specs.MachineRefusals.{rules_refusal}
use Rattle.aat_write_machine.specs.Machines.{class_table_written, machine_bytes, machine_written}
use Rattle.aat_write_machine.specs.MorxWriteErrors.{after_written, of_lookup, unless_refused}
use Rattle.aat_write_machine.specs.declared.error.MorxWriteError.{MorxWriteError}
use Rattle.aat_write_machine.specs.facts.WordPlaces.{length_words}

length_pairs : (pairs : List (ℕ × ℕ)) → length (flat_map pair_words pairs) ≡ 2 * length pairs
length_pairs [] = refl
length_pairs (p ∷ pairs) = omega (arith, length_pairs pairs)

-- a lookup has 16 bytes and four for each pair
pub length_lookup : (pairs : List (ℕ × ℕ)) → length (word_bytes (lookup_words pairs)) ≡ 16 + 4 * length pairs
length_lookup pairs =
    length_words (lookup_words pairs)
    ∙ omega (arith, length_pairs pairs, length-append (flat_map pair_words pairs) (65535 ∷ 65535 ∷ []))

pub written_is :
    (fall : Option ℕ) (many : Bool) (made bytes : List ℕ)
    → lookups.unless_refused fall many made ≡ Ok bytes → (many ≡ false) × (made ≡ bytes)
written_is (Some place) many made bytes is = absurd (let wrong : ⊥ = cc in wrong)
written_is None true made bytes is = absurd (let wrong : ⊥ = cc in wrong)
written_is None false made bytes is = (refl, cc)

-- a lookup that is written has 16 bytes and four for each of at most 65,534 pairs
pub record HasLength (pairs : List (ℕ × ℕ)) (bytes : List ℕ) : Type 0 where
  pub few : length pairs ≤ 65534
  pub long : length bytes ≡ 16 + 4 * length pairs

pub lookup_has_length : (pairs : List (ℕ × ℕ)) (bytes : List ℕ) → lookup_written pairs ≡ Ok bytes → HasLength pairs bytes
lookup_has_length pairs bytes is =
    let made : (nat_lt 65534 (length pairs) ≡ false) × (word_bytes (lookup_words pairs) ≡ bytes) =
    written_is (first_fall first pairs) (nat_lt 65534 (length pairs)) (word_bytes (lookup_words pairs)) bytes is in
    record {
      few = ltb-false 65534 (length pairs) made.0;
      long = ap length (sym made.1) ∙ length_lookup pairs;
    }

pub lookup_is_short : (pairs : List (ℕ × ℕ)) (bytes : List ℕ) → lookup_written pairs ≡ Ok bytes → length bytes < 1048576
lookup_is_short pairs bytes is =
    let has = lookup_has_length pairs bytes is in omega (arith, has.few, has.long)

pub of_lookup_is : (r : Result (List ℕ) WriteError) (bytes : List ℕ) → of_lookup r ≡ Ok bytes → r ≡ Ok bytes
of_lookup_is (Ok made) bytes is = cc
of_lookup_is (Err e) bytes is = absurd (let wrong : ⊥ = cc in wrong)

unrefused_is :
    {X : Type 0} (o : Option MorxWriteError) (r : Result X MorxWriteError) (x : X)
    → unless_refused o r ≡ Ok x → (o ≡ None) × (r ≡ Ok x)
unrefused_is None r x is = (refl, is)
unrefused_is (Some e) r x is = absurd (let wrong : ⊥ = cc in wrong)

-- where a class table is written the rules are not refused, and it is the lookup of the classes
pub class_table_is :
    {T : Type 0} (t : TableValue (GenericStateEntry T)) (bytes : List ℕ)
    → class_table_written t ≡ Ok bytes → (rules_refusal t.class_count t.rules ≡ None) × (lookup_written t.classes ≡ Ok bytes)
class_table_is t bytes is =
    let parts = unrefused_is (rules_refusal t.class_count t.rules) (of_lookup (lookup_written t.classes)) bytes is in
    (parts.0, of_lookup_is (lookup_written t.classes) bytes parts.1)

-- where a machine is written its class table is, and its bytes are made of that
pub record IsMade {T : Type 0} (words_of : T → List ℕ) (further : List ℕ) (t : TableValue (GenericStateEntry T)) (bytes : List ℕ) : Type 0 where
  pub classes : List ℕ
  pub refusal : rules_refusal t.class_count t.rules ≡ None
  pub lookup : lookup_written t.classes ≡ Ok classes
  pub made : machine_bytes words_of further t.class_count classes t.rules ≡ bytes

made_by :
    {T : Type 0} (words_of : T → List ℕ) (further : List ℕ) (t : TableValue (GenericStateEntry T)) (bytes : List ℕ)
    (r : Result (List ℕ) MorxWriteError)
    → class_table_written t ≡ r
    → after_written r (λ classes. Ok (machine_bytes words_of further t.class_count classes t.rules)) ≡ Ok bytes
    → IsMade words_of further t bytes
made_by words_of further t bytes (Ok classes) table is =
    let parts = class_table_is t classes table in record {
      classes = classes;
      refusal = parts.0;
      lookup = parts.1;
      made = cc;
    }
made_by words_of further t bytes (Err e) table is = absurd (let wrong : ⊥ = cc in wrong)

pub is_made :
    {T : Type 0} (words_of : T → List ℕ) (further : List ℕ) (t : TableValue (GenericStateEntry T)) (bytes : List ℕ)
    → machine_written words_of further t ≡ Ok bytes → IsMade words_of further t bytes
is_made words_of further t bytes is = made_by words_of further t bytes (class_table_written t) refl is

-- the bytes of a lookup that is written
pub lookup_made : (pairs : List (ℕ × ℕ)) (bytes : List ℕ) → lookup_written pairs ≡ Ok bytes → word_bytes (lookup_words pairs) ≡ bytes
lookup_made pairs bytes is =
    let made : (nat_lt 65534 (length pairs) ≡ false) × (word_bytes (lookup_words pairs) ≡ bytes) =
    written_is (first_fall first pairs) (nat_lt 65534 (length pairs)) (word_bytes (lookup_words pairs)) bytes is in made.1
