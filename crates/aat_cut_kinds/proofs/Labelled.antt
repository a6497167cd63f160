-- A labelling of the first states of a table, tested entry by entry.
use Rattle.std.proofs.Common.{◌≡◌, ℕ, zero, suc, ◌+◌, ◌*◌, ◌<◌, ◌≤◌, ◌==◌, ◌&&◌, ◌||◌, not, cond, Bool, true, false, nat_le, nat_lt, List, if◌then◌else◌, Option, Some, None, option_map, refl, sym, ap, ◌∙◌, arith}
use Rattle.std.proofs.lemmas.Bool.{eq-eqb}
use Rattle.std.proofs.lemmas.Bool.Decides.{Decides-below_and, nat_tests}
use Rattle.aat_machine_tables.specs.Entries.{goes_on, has_flag}
use Rattle.aat_lookup.specs.Keys.{at_key}
use Rattle.aat_machine_tables.specs.Table.{Rule, TableValue, entry_of, known_class, rule_key}
use Rattle.aat_machine_tables.specs.declared.state_table.GenericStateEntry.{GenericStateEntry}
use Rattle.aat_cuts.specs.Held.{IsSufficient, held_behind_push, taken_by}
use Rattle.aat_cuts.specs.Kinds.{IsQuietAtEnd, moves_and_ends}
use Rattle.aat_cuts.specs.Reached.{IsComplete}
use Rattle.aat_cuts.specs.Settled.{IsAgreeing, IsTidy, Register}
use Rattle.aat_cuts.specs.inside.Steps.{is_same}

-- a test of each number below one
abbrev pub all_below : (ℕ → Bool) → ℕ → Bool
all_below test zero = true
all_below test (suc n) = test n && all_below test n

at_below : (test : ℕ → Bool) (n : ℕ) → all_below test n ≡ true → (k : ℕ) → k < n → test k ≡ true
at_below test n all = (Decides-below_and test (λ k. test k ≡ true) (all_below test) (λ k. (λ h. h, λ h. h)) refl (λ _. refl) n).0 all

-- there is an entry, and it passes a test
abbrev pub passes : {E : Type 0} → (E → Bool) → Option E → Bool
passes test None = false
passes test (Some e) = test e

passed : {E : Type 0} (test : E → Bool) (o : Option E) → passes test o ≡ true → (e : E) × (o ≡ Some e) × (test e ≡ true)
passed test None h = absurd (cc)
passed test (Some e) h = (e, refl, h)

passed_by : {E : Type 0} (test : E → Bool) (o : Option E) (e : E) → o ≡ Some e → passes test o ≡ true → test e ≡ true
passed_by test o e is all = rw is at all

-- the first holds only where the second does
abbrev pub implies : Bool → Bool → Bool
implies a b = not a || b

implied : (a b : Bool) → implies a b ≡ true → a ≡ true → b ≡ true
implied true b h is = h
implied false b h is = absurd (cc)

first_of : (a b : Bool) → (a && b) ≡ true → a ≡ true
first_of true b h = refl
first_of false b h = absurd (cc)

second_of : (a b : Bool) → (a && b) ≡ true → b ≡ true
second_of true b h = h
second_of false b h = absurd (cc)

both : (a b : Bool) → a ≡ true → b ≡ true → (a && b) ≡ true
both true b one two = two
both false b one two = absurd (cc)

left_of : (a b : Bool) → a ≡ true → (a || b) ≡ true
left_of true b is = refl
left_of false b is = absurd (cc)

right_of : (a b : Bool) → b ≡ true → (a || b) ≡ true
right_of true b is = refl
right_of false b is = is

of_same : (a b : Bool) → is_same a b ≡ true → a ≡ b
of_same true b is = sym is
of_same false true is = absurd (cc)
of_same false false is = refl

same_of : (a b : Bool) → a ≡ b → is_same a b ≡ true
same_of true b is = sym is
same_of false true is = absurd (cc)
same_of false false is = refl

module _ {T : Type 0} (table : TableValue (GenericStateEntry T)) (states : ℕ) where
  -- a test of the entries of the first states, one for each class
  abbrev pub all_entries : (ℕ → ℕ → GenericStateEntry T → Bool) → Bool
  all_entries test = all_below (λ s. all_below (λ k. passes (test s k) (entry_of table s k)) table.class_count) states

  module _ (some : 1 < table.class_count) where
    known : ℕ → ℕ
    known k = known_class table.class_count k

    known_below : (k : ℕ) → known k < table.class_count
    unfolding known
    known_below k = by_test (nat_lt k table.class_count) refl
      where
        by_test : (t : Bool) → nat_lt k table.class_count ≡ t → cond t k 1 < table.class_count
        by_test true is = grind (arith, nat_tests, is)
        by_test false is = some

    known_zero : known 0 ≡ 0
    unfolding known
    known_zero = let below : nat_lt 0 table.class_count ≡ true = grind (arith, nat_tests, some) in rw below refl

    known_again : (k : ℕ) → known_class table.class_count (known k) ≡ known k
    known_again k = let below : nat_lt (known k) table.class_count ≡ true = (let lt = known_below k in grind (arith, nat_tests, lt)) in rw below refl

    same_entry : (s k : ℕ) → entry_of table s (known k) ≡ entry_of table s k
    unfolding known
    same_entry s k = ap (λ (n : ℕ). option_map (λ (r : Rule (GenericStateEntry T)). r.2) (at_key rule_key table.rules (s * 65536 + n))) (known_again k)

    -- what was tested of the entries holds of each of them
    at_entry : (test : ℕ → ℕ → GenericStateEntry T → Bool) → all_entries test ≡ true → (s k : ℕ) → s < states → passes (test s (known k)) (entry_of table s k) ≡ true
    at_entry test all s k below =
        let row = at_below (λ t. all_below (λ c. passes (test t c) (entry_of table t c)) table.class_count) states all s below in
        let cell = at_below (λ c. passes (test s c) (entry_of table s c)) table.class_count row (known k) (known_below k) in
        ap (passes (test s (known k))) (sym (same_entry s k)) ∙ cell

    inside : (s : ℕ) → nat_lt s states ≡ true → s < states
    inside s is = grind (arith, nat_tests, is)

    -- and of an entry for any class
    tested : (test : ℕ → ℕ → GenericStateEntry T → Bool) → all_entries test ≡ true → (s k : ℕ) (e : GenericStateEntry T)
        → nat_lt s states ≡ true → entry_of table s k ≡ Some e → test s (known k) e ≡ true
    tested test all s k e is here = passed_by (test s (known k)) (entry_of table s k) e here (at_entry test all s k (inside s is))

    -- each entry goes to one of the first states
    abbrev pub goes_inside : ℕ → ℕ → GenericStateEntry T → Bool
    goes_inside s k e = nat_lt e.new_state states

    pub complete_by : nat_lt 0 states ≡ true → all_entries goes_inside ≡ true → IsComplete table (λ s. nat_lt s states)
    complete_by first all = record {
      first = first;
      entries = λ s k is. passed (λ (e : GenericStateEntry T). nat_lt e.new_state states) (entry_of table s k) (at_entry goes_inside all s k (inside s is));
    }

    module _ (register : Register T) (live : ℕ → Bool) where
      -- an entry and that of state 0 are not taken for one, or set the register alike
      abbrev pub agrees : GenericStateEntry T → GenericStateEntry T → Bool
      agrees e f =
          implies (register.may_idle e && (register.may_idle f && ((e.new_state == f.new_state) && (is_same (goes_on e) (goes_on f) && live e.new_state))))
          (is_same (register.sets e) (register.sets f))

      -- the labelling goes with an entry
      abbrev pub is_fit : ℕ → ℕ → GenericStateEntry T → Bool
      is_fit s k e =
          implies (register.uses e || ((k == 0) && register.uses_at_end e)) (live s)
          && implies (live e.new_state) (register.sets e || live s)

      pub tidy_by : live 0 ≡ false → all_entries is_fit ≡ true → IsTidy table register (λ s. nat_lt s states) live
      tidy_by first all = record {
        first = first;
        used = λ s k e is here uses. implied _ (live s) (first_of _ _ (tested is_fit all s k e is here)) (left_of (register.uses e) _ uses);
        at_end = λ s e is here uses. implied _ (live s) (first_of _ _ (tested is_fit all s 0 e is here)) (right_of (register.uses e) _ (both _ _ (eq-eqb (known 0) 0 known_zero) uses));
        kept = λ s k e is class here alive. implied (live e.new_state) _ (second_of _ _ (tested is_fit all s k e is here)) alive;
      }

      -- an entry and that of state 0 for its class agree
      abbrev pub is_agreed : ℕ → ℕ → GenericStateEntry T → Bool
      is_agreed s k e = passes (agrees e) (entry_of table 0 k)

      pub agreeing_by : all_entries is_agreed ≡ true → IsAgreeing table register (λ s. nat_lt s states) live
      agreeing_by all = record {
        agreed = λ s k e f is class here from idle idle_start next going alive.
            let agree = passed_by (agrees e) (entry_of table 0 (known k)) f (same_entry 0 k ∙ from) (tested is_agreed all s k e is here) in
            of_same (register.sets e) (register.sets f)
            (implied _ _ agree (both _ _ idle (both _ _ idle_start (both _ _ (eq-eqb e.new_state f.new_state next) (both _ _ (same_of (goes_on e) (goes_on f) going) alive)))));
      }

is_not : (b : Bool) → not b ≡ true → b ≡ false
is_not false is = refl
is_not true is = absurd (cc)

module _ (table : TableValue (GenericStateEntry (Unit {0}))) (states : ℕ) (some : 1 < table.class_count) where
  -- an entry is not for the end of the text, or does not both end a span and move glyphs
  abbrev pub is_quiet : ℕ → ℕ → GenericStateEntry (Unit {0}) → Bool
  is_quiet s k e = implies (k == 0) (not (moves_and_ends e))

  pub quiet_by : all_entries table states is_quiet ≡ true → IsQuietAtEnd table (λ s. nat_lt s states)
  quiet_by all s e is here =
      let quiet = tested table states some is_quiet all s 0 e is here in
      is_not (moves_and_ends e) (implied _ _ quiet (eq-eqb (known table states some 0) 0 (known_zero table states some)))

at_most : (m n : ℕ) → nat_le m n ≡ true → m ≤ n
at_most m n is = grind (arith, nat_tests, is)

module _ (table : TableValue (GenericStateEntry ℕ)) (states : ℕ) (some : 1 < table.class_count) (actions : List ℕ) (is_here : ℕ → Bool) (held : ℕ → ℕ) where
  -- how many components are held behind the push of an entry
  abbrev pub behind : ℕ → GenericStateEntry ℕ → ℕ
  behind s e = held_behind_push (has_flag e 0x8000) (is_here s) (held s)

  -- an entry keeps the newest component the glyph at the cursor
  abbrev pub keeps_here : ℕ → ℕ → GenericStateEntry ℕ → Bool
  keeps_here s k e = implies (not (goes_on e)) (implies (has_flag e 0x8000 || is_here s) (is_here e.new_state))

  -- it takes no more components than are held
  abbrev pub has_enough : ℕ → ℕ → GenericStateEntry ℕ → Bool
  has_enough s k e = nat_le (taken_by actions e) (behind s e)

  -- and leaves as many as the next state has
  abbrev pub keeps_held : ℕ → ℕ → GenericStateEntry ℕ → Bool
  keeps_held s k e = nat_le (held e.new_state + taken_by actions e) (behind s e + (if has_flag e 0x2000 then 1 else 0))

  pub sufficient_by : all_entries table states keeps_here ≡ true → all_entries table states has_enough ≡ true
      → all_entries table states keeps_held ≡ true → IsSufficient table actions (λ s. nat_lt s states) is_here held
  sufficient_by all_here all_enough all_kept = record {
    here = λ s k e is class at stays pushed.
        implied _ _ (implied _ _ (tested table states some keeps_here all_here s k e is at) (ap not stays)) pushed;
    enough = λ s k e is class at few. at_most _ _ (tested table states some has_enough all_enough s k e is at);
    kept = λ s k e is class at few. at_most _ _ (tested table states some keeps_held all_kept s k e is at);
  }
