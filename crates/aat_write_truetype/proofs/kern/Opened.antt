-- What is known where something was written.
use Rattle.std.proofs.Common.{◌≡◌, ℕ, Bool, true, false, Option, Some, None, Result, Ok, Err, cond, ◌||◌, ◌&&◌, not, refl, ◌==◌, ◌<◌, ap, ◌∙◌, arith}
use Rattle.std.specs.Prelude.{nat_lt, option_map}
use Rattle.std.specs.Option.{option_or}
use Rattle.std.proofs.lemmas.Bool.Decides.{nat_tests}
use Rattle.aat_bytes.specs.Faults.{after}
use Rattle.aat_bytes.specs.declared.error.Fault.{Fault}
use Rattle.aat_write_truetype.specs.kern.KernWriteErrors.{after_written, unless_refused}
use Rattle.aat_write_truetype.specs.declared.kern.error.KernWriteError.{KernWriteError}

-- what comes after something is written comes of it
pub parts :
    {X Y : Type 0} (written : Result X KernWriteError) (next : X → Result Y KernWriteError) (y : Y)
    → after_written written next ≡ Ok y → (x : X) × (written ≡ Ok x) × (next x ≡ Ok y)
parts (Ok x) next y is = (x, refl, is)
parts (Err e) next y is = cc

-- what was written is what was made
pub same_ok : {X : Type 0} (x y : X) → ◌≡◌ {A = Result X KernWriteError} (Ok x) (Ok y) → x ≡ y
same_ok x y is = cc

-- what is written was not refused
pub not_refused :
    {X : Type 0} (refusal : Option KernWriteError) (x y : X)
    → unless_refused refusal x ≡ Ok y → (refusal ≡ None) × (x ≡ y)
not_refused None x y is = (refl, same_ok x y is)
not_refused (Some e) x y is = absurd (let wrong : ⊥ = cc in wrong)

-- a test that would refuse fails
pub not_chosen :
    {X : Type 0} (b : Bool) (e : KernWriteError) (x y : X)
    → ◌≡◌ {A = Result X KernWriteError} (cond b (Err e) (Ok x)) (Ok y) → (b ≡ false) × (x ≡ y)
not_chosen true e x y is = absurd (let wrong : ⊥ = cc in wrong)
not_chosen false e x y is = (refl, same_ok x y is)

-- what is written behind such a test
pub not_before :
    {X : Type 0} (b : Bool) (e : KernWriteError) (written : Result X KernWriteError) (y : X)
    → cond b (Err e) written ≡ Ok y → (b ≡ false) × (written ≡ Ok y)
not_before true e written y is = absurd (let wrong : ⊥ = cc in wrong)
not_before false e written y is = (refl, is)

-- a choice between a refusal and what comes behind it
pub not_first : {X : Type 0} (b : Bool) (x : X) (o : Option X) → cond b (Some x) o ≡ None → (b ≡ false) × (o ≡ None)
not_first true x o is = absurd (let wrong : ⊥ = cc in wrong)
not_first false x o is = (refl, is)

pub neither : {X : Type 0} (a b : Option X) → option_or a b ≡ None → (a ≡ None) × (b ≡ None)
neither None b is = (refl, is)
neither (Some x) b is = absurd (let wrong : ⊥ = cc in wrong)

pub unmapped : {X Y : Type 0} (f : X → Y) (o : Option X) → option_map f o ≡ None → o ≡ None
unmapped f None is = refl
unmapped f (Some x) is = absurd (let wrong : ⊥ = cc in wrong)

pub either_false : (a b : Bool) → (a || b) ≡ false → (a ≡ false) × (b ≡ false)
either_false true b is = absurd (let wrong : ⊥ = cc in wrong)
either_false false b is = (refl, is)

pub both_true : (a b : Bool) → (a && b) ≡ true → (a ≡ true) × (b ≡ true)
both_true true b is = (refl, is)
both_true false b is = absurd (let wrong : ⊥ = cc in wrong)

-- a test that has to hold for nothing to be found
pub in_place : (b : Bool) (o : Option ℕ) (n : ℕ) → cond b o (Some n) ≡ None → (b ≡ true) × (o ≡ None)
in_place true o n is = (refl, is)
in_place false o n is = absurd (let wrong : ⊥ = cc in wrong)

-- what tests of numbers say
pub same_by : (a b : ℕ) → (a == b) ≡ true → a ≡ b
same_by a b is = grind (arith, nat_tests)

pub below_by : (a b : ℕ) → nat_lt a b ≡ true → a < b
below_by a b is = grind (arith, nat_tests)

-- what comes of what is read
pub after_is :
    {X Y : Type 0} (r : Result X Fault) (x : X) (next : X → Result Y Fault) (y : Result Y Fault)
    → r ≡ Ok x → next x ≡ y → after r next ≡ y
after_is r x next y is then = ap (λ (q : Result _ Fault). after q next) is ∙ then

pub not_false : (a : Bool) → not a ≡ false → a ≡ true
not_false true is = refl
not_false false is = absurd (let wrong : ⊥ = cc in wrong)
