-- Where the tables of a list of lookups stand.
use Rattle.std.proofs.Common.{◌≡◌, ℕ, zero, suc, ◌+◌, ◌*◌, ◌<◌, ◌≤◌, List, [], ◌∷◌, ◌++◌, length, get_or, map, take, drop, Bool, true, false, cond, ◌==◌, Result, Ok, Err, All, refl, sym, ap, ◌∙◌, subst, append_assoc, arith}
use Rattle.std.specs.Prelude.{nat_lt, sum_by}
use Rattle.std.specs.List.{range_with_len}
use Rattle.std.proofs.lemmas.Bool.{ltb-false}
use Rattle.std.proofs.lemmas.Bool.Decides.{nat_tests}
use Rattle.std.proofs.lemmas.List.{length-append}
use Rattle.std.proofs.lemmas.List.Sums.{sum_by-cons}
use Rattle.aat_bytes.specs.Faults.{after}
use Rattle.aat_bytes.specs.declared.error.Fault.{Fault}
use Rattle.aat_machine_tables.specs.Subtables.{ContextualTables}
use Rattle.aat_read_machine.specs.Contextual.{each_of}
use Rattle.aat_write_machine.specs.Lookups.{lookup_written}
use Rattle.aat_write_machine.specs.Contextual.{are_too_long, joined, lookups_asked, lookups_written, starts_from, substitutions_written}
use Rattle.aat_write_machine.specs.MachineLaws.{IsLong}
use Rattle.aat_write_machine.specs.MorxWriteErrors.{after_written, of_lookup}
use Rattle.aat_write_machine.specs.declared.error.MorxWriteError.{MorxWriteError}
use Rattle.aat_write_machine.specs.declared.error.MorxWriteError.TheVariants.{LookupCount, TooManyLookups, TooLong}
use Rattle.aat_write_machine.proofs.ClassTables.{of_lookup_is}

-- what comes after what is written comes of what was written
pub written_parts :
    {X Y : Type 0} (r : Result X MorxWriteError) (next : X → Result Y MorxWriteError) (y : Y)
    → after_written r next ≡ Ok y → (x : X) × (r ≡ Ok x) × (next x ≡ Ok y)
written_parts (Ok x) next y is = (x, refl, is)
written_parts (Err e) next y is = cc

ok_is : {X : Type 0} (x y : X) → ◌≡◌ {A = Result X MorxWriteError} (Ok x) (Ok y) → x ≡ y
ok_is x y is = cc

passed_by : {X : Type 0} (b : Bool) (e : MorxWriteError) (r : Result X MorxWriteError) (x : X) → cond b (Err e) r ≡ Ok x → (b ≡ false) × (r ≡ Ok x)
passed_by true e r x is = cc
passed_by false e r x is = (refl, is)

held_by : {X : Type 0} (b : Bool) (e : MorxWriteError) (r : Result X MorxWriteError) (x : X) → cond b r (Err e) ≡ Ok x → (b ≡ true) × (r ≡ Ok x)
held_by true e r x is = (refl, is)
held_by false e r x is = cc

test_holds : (a b : ℕ) → (a == b) ≡ true → a ≡ b
test_holds a b is = grind (arith, nat_tests)

-- each lookup is written as its table
pub record AreTables (lookups : List (List (ℕ × ℕ))) (tables : List (List ℕ)) : Type 0 where
  pub count : length tables ≡ length lookups
  pub each : (i : ℕ) → i < length lookups → lookup_written (get_or lookups i []) ≡ Ok (get_or tables i [])

one_table_more :
    (pairs : List (ℕ × ℕ)) (lookups : List (List (ℕ × ℕ))) (table : List ℕ) (tables all : List (List ℕ))
    → lookup_written pairs ≡ Ok table → AreTables lookups tables → table ∷ tables ≡ all → AreTables (pairs ∷ lookups) all
one_table_more pairs lookups table tables all first rest is =
    subst (λ (ts : List (List ℕ)). AreTables (pairs ∷ lookups) ts) is (record { count = ap suc rest.count; each = each })
  where
    each : (i : ℕ) → i < length (pairs ∷ lookups) → lookup_written (get_or (pairs ∷ lookups) i []) ≡ Ok (get_or (table ∷ tables) i [])
    each zero below = first
    each (suc i) below = rest.each i (omega arith)

pub are_tables : (lookups : List (List (ℕ × ℕ))) (tables : List (List ℕ)) → lookups_written lookups ≡ Ok tables → AreTables lookups tables
are_tables [] tables is =
    let none : [] ≡ tables = ok_is [] tables is in
    subst (λ (ts : List (List ℕ)). AreTables [] ts) none (record { count = refl; each = λ i below. absurd (omega arith) })
are_tables (pairs ∷ lookups) tables is =
    let first = written_parts (of_lookup (lookup_written pairs)) (λ table. after_written (lookups_written lookups) (λ ts. Ok (table ∷ ts))) tables is in
    let rest = written_parts (lookups_written lookups) (λ ts. Ok (first.0 ∷ ts)) tables first.2 in
    one_table_more pairs lookups first.0 rest.0 tables (of_lookup_is (lookup_written pairs) first.0 first.1) (are_tables lookups rest.0 rest.1)
    (ok_is (first.0 ∷ rest.0) tables rest.2)

-- what is known of lookups that are written
pub record AreSubstitutions (t : ContextualTables) (tables : List (List ℕ)) : Type 0 where
  pub asked : lookups_asked t.state.rules ≡ length t.lookups
  pub few : length t.lookups ≤ 2 * length t.state.rules
  pub short : length (joined tables) ≤ 268435455
  pub tables_are : AreTables t.lookups tables

pub are_substitutions : (t : ContextualTables) (tables : List (List ℕ)) → substitutions_written t ≡ Ok tables → AreSubstitutions t tables
are_substitutions t tables is =
    let asked = lookups_asked t.state.rules in
    let n = length t.lookups in
    let checked = after_written (lookups_written t.lookups) (λ ts. cond (are_too_long ts) (Err TooLong) (Ok ts)) in
    let count = held_by (asked == n) (LookupCount asked) (cond (nat_lt (2 * length t.state.rules) n) (Err TooManyLookups) checked) tables is in
    let many = passed_by (nat_lt (2 * length t.state.rules) n) TooManyLookups checked tables count.1 in
    let made = written_parts (lookups_written t.lookups) (λ ts. cond (are_too_long ts) (Err TooLong) (Ok ts)) tables many.1 in
    let long = passed_by (are_too_long made.0) TooLong (Ok made.0) tables made.2 in
    let same : made.0 ≡ tables = ok_is made.0 tables long.1 in
    subst (λ (ts : List (List ℕ)). AreSubstitutions t ts) same (record {
      asked = test_holds asked n count.0;
      few = ltb-false (2 * length t.state.rules) n many.0;
      short = ltb-false 268435455 (length (joined made.0)) long.0;
      tables_are = are_tables t.lookups made.0 made.1;
    })

-- where each table starts
pub start_is : (at : ℕ) (tables : List (List ℕ)) (i : ℕ) → i < length tables → get_or (starts_from at tables) i 0 ≡ at + length (joined (take i tables))
start_is at [] i below = absurd (omega arith)
start_is at (t ∷ tables) zero below = omega arith
start_is at (t ∷ tables) (suc i) below =
    start_is (at + length t) tables i (omega arith) ∙ omega (arith, length-append t (joined (take i tables)))

pub length_starts : (at : ℕ) (tables : List (List ℕ)) → length (starts_from at tables) ≡ length tables
length_starts at [] = refl
length_starts at (t ∷ tables) = ap suc (length_starts (at + length t) tables)

pub first_le : (tables : List (List ℕ)) (k : ℕ) → length (joined (take k tables)) ≤ length (joined tables)
first_le [] zero = omega arith
first_le [] (suc k) = omega arith
first_le (t ∷ tables) zero = omega arith
first_le (t ∷ tables) (suc k) =
    omega (arith, length-append t (joined (take k tables)), length-append t (joined tables), first_le tables k)

pub starts_are_longs :
    (at : ℕ) (tables : List (List ℕ)) → at + length (joined tables) < 4294967296 → All IsLong (starts_from at tables)
starts_are_longs at [] few k d below = absurd (omega arith)
starts_are_longs at (t ∷ tables) few zero d below = omega (arith, few)
starts_are_longs at (t ∷ tables) few (suc k) d below =
    starts_are_longs (at + length t) tables (omega (arith, few, length-append t (joined tables))) k d (omega arith)

-- a table stands between those before and those behind it
pub table_between :
    (tables : List (List ℕ)) (i : ℕ) → i < length tables
    → joined tables ≡ joined (take i tables) ++ (get_or tables i [] ++ joined (drop (suc i) tables))
table_between [] i below = absurd (omega arith)
table_between (t ∷ tables) zero below = refl
table_between (t ∷ tables) (suc i) below =
    ap (λ xs. t ++ xs) (table_between tables i (omega arith))
    ∙ sym (append_assoc t (joined (take i tables)) (get_or tables i [] ++ joined (drop (suc i) tables)))

-- each of some results
pub each_is :
    {X : Type 0} (f : ℕ → Result X Fault) (xs : List X) (d : X) (a : ℕ)
    → ((k : ℕ) → k < length xs → f (a + k) ≡ Ok (get_or xs k d))
    → each_of (map f (range_with_len a (length xs))) ≡ Ok xs
each_is f [] d a each = refl
each_is f (x ∷ xs) d a each =
    let here : a + 0 ≡ a = omega arith in
    let first : f a ≡ Ok x = subst (λ (k : ℕ). f k ≡ Ok x) here (each 0 (omega arith)) in
    ap (λ (r : Result _ Fault). after r (λ y. after (each_of (map f (range_with_len (a + 1) (length xs)))) (λ ys. Ok (y ∷ ys)))) first
    ∙ ap (λ (r : Result (List _) Fault). after r (λ ys. Ok (x ∷ ys))) (each_is f xs d (a + 1) (λ k below.
    let next : a + suc k ≡ a + 1 + k = omega arith in
    subst (λ (j : ℕ). f j ≡ Ok (get_or xs k d)) next (each (suc k) (omega arith))))

-- the cost of tables, of which each costs 8 and its length
pub cost_is :
    (f : ℕ → ℕ) (tables : List (List ℕ)) (a : ℕ)
    → ((k : ℕ) → k < length tables → f (a + k) ≡ 8 + length (get_or tables k []))
    → sum_by f (range_with_len a (length tables)) ≡ 8 * length tables + length (joined tables)
cost_is f [] a each = refl
cost_is f (t ∷ tables) a each =
    let here : a + 0 ≡ a = omega arith in
    let first : f a ≡ 8 + length t = subst (λ (k : ℕ). f k ≡ 8 + length t) here (each 0 (omega arith)) in
    let rest = cost_is f tables (a + 1) (λ k below.
    let next : a + suc k ≡ a + 1 + k = omega arith in
    subst (λ (j : ℕ). f j ≡ 8 + length (get_or tables k [])) next (each (suc k) (omega arith))) in
    sum_by-cons f a (range_with_len (a + 1) (length tables)) ∙ omega (arith, first, rest, length-append t (joined tables))
