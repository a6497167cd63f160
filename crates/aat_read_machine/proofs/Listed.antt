-- Results that are gathered one after the other, as a loop does.
use Rattle.std.proofs.Common.{◌≡◌, ℕ, suc, ◌+◌, ◌-◌, ◌<◌, ◌≤◌, List, [], ◌∷◌, ◌++◌, map, Result, Ok, Err, refl, sym, ap, arith}
use Rattle.std.specs.List.{range_with_len}
use Rattle.std.proofs.lemmas.List.{append-nil}
use Rattle.aat_bytes.specs.Faults.{after}
use Rattle.aat_bytes.specs.declared.error.Fault.{Fault}
use Rattle.aat_bytes.specs.declared.error.ReadError.{ReadError}
use Rattle.aat_bytes.specs.declared.error.ReadError.TheVariants as errors
use Rattle.aat_bytes.specs.facts.Parts.{after_ok, after_one_more}
use Rattle.aat_read_lookup.specs.Lookups.{Refuses}
use Rattle.aat_read_machine.specs.Contextual.{each_of}
use Rattle.aat_read_machine.specs.Within.{RefusesWithin}

module _ {X : Type 0} (f : ℕ → Result X Fault) (count : ℕ) where
  -- what is gathered behind some values, from an index on
  abbrev pub behind : List X → ℕ → Result (List X) Fault
  behind items i = after (each_of (map f (range_with_len i (count - i)))) (λ rest. Ok (items ++ rest))

  pub starts : each_of (map f (range_with_len 0 count)) ≡ behind [] 0
  starts =
      let whole : count - 0 ≡ count = omega arith in
      rw whole (sym (after_ok (each_of (map f (range_with_len 0 count)))))

  pub goes_on : (items : List X) (i : ℕ) (x : X) → i < count → f i ≡ Ok x → behind items i ≡ behind (items ++ x ∷ []) (i + 1)
  goes_on items i x below is =
      let k : count - i ≡ suc (count - (i + 1)) = omega arith in
      rw k (rw is (after_one_more items x (each_of (map f (range_with_len (i + 1) (count - (i + 1)))))))

  pub fails : (items : List X) (i : ℕ) (e : Fault) → i < count → f i ≡ Err e → behind items i ≡ Err e
  fails items i e below is =
      let k : count - i ≡ suc (count - (i + 1)) = omega arith in
      rw k (rw is refl)

  pub is_done : (items : List X) (i : ℕ) → count ≤ i → behind items i ≡ Ok items
  is_done items i past =
      let k : count - i ≡ 0 = omega arith in
      rw k (ap Ok (append-nil items))

-- what refuses one value refuses all that wait for it
pub refuses_within :
    {X Y : Type 0} (one : Result X Fault) (all : Result Y Fault) (e : ReadError)
    → ((fault : Fault) → one ≡ Err fault → all ≡ Err fault) → Refuses one e → RefusesWithin all e
refuses_within one all (errors.Fault fault) carried is = carried fault is
refuses_within one all errors.OutOfMemory carried is = tt
