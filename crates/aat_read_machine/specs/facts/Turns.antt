-- Records that are read one behind the other, as a loop does.
use Rattle.std.proofs.Common.{◌≡◌, ℕ, zero, suc, ◌+◌, ◌-◌, ◌<◌, ◌≤◌, List, [], ◌∷◌, ◌++◌, length, Result, Ok, Err, refl, sym, ap, ◌∙◌, arith}
use Rattle.std.proofs.lemmas.List.{append-nil}
use Rattle.aat_bytes.specs.Faults.{after}
use Rattle.aat_bytes.specs.declared.error.Fault.{Fault}
use Rattle.aat_bytes.specs.declared.error.ReadError.{ReadError}
use Rattle.aat_bytes.specs.declared.error.ReadError.TheVariants as errors
use Rattle.aat_bytes.specs.facts.Parts.{after_ok, after_one_more, ok_parts, parts}
use Rattle.aat_read_machine.specs.Within.{RefusesWithin}
use Rattle.aat_read_machine.specs.InTurn.{in_turn, weight_in_turn}

module _ {S X : Type 0} (read : S → Result (X × S) Fault) (count : ℕ) where
  -- what is read behind some records, when so many were read and the next one starts there
  abbrev pub behind : List X → ℕ → S → Result (List X) Fault
  behind items i start = after (in_turn read (count - i) start) (λ rest. Ok (items ++ rest))

  pub starts : (start : S) → in_turn read count start ≡ behind [] 0 start
  starts start =
      let whole : count - 0 ≡ count = omega arith in
      rw whole (sym (after_ok (in_turn read count start)))

  pub goes_on :
      (items : List X) (i : ℕ) (start next : S) (x : X)
      → i < count → read start ≡ Ok (x, next) → behind items i start ≡ behind (items ++ x ∷ []) (i + 1) next
  goes_on items i start next x below is =
      let k : count - i ≡ suc (count - (i + 1)) = omega arith in
      rw k (rw is (after_one_more items x (in_turn read (count - (i + 1)) next)))

  pub fails :
      (items : List X) (i : ℕ) (start : S) (e : Fault) → i < count → read start ≡ Err e → behind items i start ≡ Err e
  fails items i start e below is =
      let k : count - i ≡ suc (count - (i + 1)) = omega arith in
      rw k (rw is refl)

  pub is_done : (items : List X) (i : ℕ) (start : S) → count ≤ i → behind items i start ≡ Ok items
  is_done items i start past =
      let k : count - i ≡ 0 = omega arith in
      rw k (ap Ok (append-nil items))

-- what refuses one record refuses all that wait for it
pub refuses :
    {X Y : Type 0} (one : Result X Fault) (all : Result Y Fault) (e : ReadError)
    → ((fault : Fault) → one ≡ Err fault → all ≡ Err fault) → RefusesWithin one e → RefusesWithin all e
refuses one all (errors.Fault fault) carried is = carried fault is
refuses one all errors.OutOfMemory carried is = tt

-- the first of records that are read in turn, and those behind it
pub record Turn {S X : Type 0} (read : S → Result (X × S) Fault) (count : ℕ) (start : S) (xs : List X) : Type 0 where
  pub one : X
  pub next : S
  pub others : List X
  pub first : read start ≡ Ok (one, next)
  pub rest : in_turn read count next ≡ Ok others
  pub whole : one ∷ others ≡ xs

pub turn :
    {S X : Type 0} (read : S → Result (X × S) Fault) (count : ℕ) (start : S) (xs : List X)
    → in_turn read (suc count) start ≡ Ok xs → Turn read count start xs
turn read count start xs is =
    let one = parts (read start) (λ r. after (in_turn read count r.1) (λ ys. Ok (r.0 ∷ ys))) xs is in
    let more = parts (in_turn read count one.0.1) (λ ys. Ok (one.0.0 ∷ ys)) xs one.2 in
    record {
      one = one.0.0;
      next = one.0.1;
      others = more.0;
      first = one.1;
      rest = more.1;
      whole = ok_parts (one.0.0 ∷ more.0) xs more.2;
    }

-- as many records are read as are asked for
pub counted :
    {S X : Type 0} (read : S → Result (X × S) Fault) (count : ℕ) (start : S) (xs : List X)
    → in_turn read count start ≡ Ok xs → length xs ≡ count
counted read zero start xs is = ap length (sym (ok_parts [] xs is))
counted read (suc count) start xs is =
    let t = turn read count start xs is in
    sym (ap length t.whole) ∙ ap (λ n. suc n) (counted read count t.next t.others t.rest)

-- records in turn that are read
module _ {S X : Type 0} (read : S → Result (X × S) Fault) (weight : S → X → S → ℕ) where
  pub weight_more : (count : ℕ) (start next : S) (x : X) → read start ≡ Ok (x, next)
      → weight_in_turn read weight (suc count) start ≡ weight start x next + weight_in_turn read weight count next
  weight_more count start next x is =
      ap (λ (r : Result (X × S) Fault). elim r [
        | Ok record_and_next ↦ weight start record_and_next.0 record_and_next.1
            + weight_in_turn read weight count record_and_next.1
        | Err fault ↦ 0
      ]) is
