-- What comes of the parts of a result.
use Rattle.std.proofs.Common.{◌≡◌, ℕ, List, ◌∷◌, [], ◌++◌, ◌⊎◌, inl, inr, Bool, true, false, cond, Option, Some, None, Result, Ok, Err, refl, sym, ap, append_assoc}
use Rattle.aat_bytes.specs.Faults.{after}
use Rattle.aat_bytes.specs.declared.error.Fault.{Fault}

-- what comes after a result comes of what the result has
pub parts : {X Y : Type 0} (r : Result X Fault) (next : X → Result Y Fault) (y : Y)
    → after r next ≡ Ok y → (x : X) × (r ≡ Ok x) × (next x ≡ Ok y)
parts (Ok x) next y is = (x, refl, is)
parts (Err fault) next y is = cc

pub ok_parts : {X : Type 0} (x y : X) → ◌≡◌ {A = Result X Fault} (Ok x) (Ok y) → x ≡ y
ok_parts x y is = cc

-- a test that is passed
pub passes : {X : Type 0} (b : Bool) (fault : Fault) (r : Result X Fault) (x : X)
    → cond b (Err fault) r ≡ Ok x → (b ≡ false) × (r ≡ Ok x)
passes true fault r x is = cc
passes false fault r x is = (refl, is)

-- one of two ways
pub either : {X : Type 0} (b : Bool) (r s : Result X Fault) (x : X) → cond b r s ≡ Ok x → (r ≡ Ok x) ⊎ (s ≡ Ok x)
either true r s x is = inl is
either false r s x is = inr is

-- where nothing is found that would be a fault
pub none_of : {X : Type 0} (o : Option ℕ) (r : Result X Fault) (fault : ℕ → Fault) (x : X)
    → ◌≡◌ {A = Result X Fault} (elim o [ None ↦ r | Some i ↦ Err (fault i) ]) (Ok x) → (o ≡ None) × (r ≡ Ok x)
none_of None r fault x is = (refl, is)
none_of (Some i) r fault x is = cc

-- nothing comes after
pub after_ok : {X : Type 0} (r : Result X Fault) → after r (λ x. Ok x) ≡ r
after_ok (Ok x) = refl
after_ok (Err fault) = refl

-- an element in front of a list that comes behind others
pub after_one_more :
    {X : Type 0} (items : List X) (x : X) (r : Result (List X) Fault)
    → after (after r (λ xs. Ok (x ∷ xs))) (λ rest. Ok (items ++ rest)) ≡ after r (λ rest. Ok ((items ++ x ∷ []) ++ rest))
after_one_more items x (Ok xs) = ap Ok (sym (append_assoc items (x ∷ []) xs))
after_one_more items x (Err fault) = refl
