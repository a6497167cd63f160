-- The places that the values of a list take off a stack, one after another.
use Rattle.std.proofs.Common.{◌≡◌, ◌∙◌, ℕ, ◌+◌, ◌&&◌, not, Bool, true, false, cond, List, [], ◌∷◌, ◌++◌, ℤ, Option, Some, None, length, nat_lt, min, refl, ap, sym}
use Rattle.aat_kerning_machines.specs.Stack.{is_odd}
use Rattle.aat_cut_kinds.specs.KerningClosing.{taken_by}
use Rattle.aat_cut_kinds.specs.inside.OpenRuns.{least_of}

-- the least of two lists, one behind the other
pub least_append : (xs ys : List ℕ) (m : ℕ) → least_of (xs ++ ys) m ≡ least_of ys (least_of xs m)
unfolding least_of
least_append [] ys m = refl
least_append (x ∷ xs) ys m = least_append xs ys (min m x)

pub least_none : (m : ℕ) → least_of [] m ≡ m
unfolding least_of
least_none m = refl

-- the places of a list that are cleared, and behind them those that are taken
pub taken_then :
    (t : Bool) (cleared taken : List ℕ) (p m least : ℕ) → t ≡ true → m ≡ least_of cleared p → least ≡ least_of taken m
    → least ≡ least_of (cleared ++ cond t taken []) p
taken_then true cleared taken p m least is first then = then ∙ (ap (least_of taken) first ∙ sym (least_append cleared taken p))
taken_then false cleared taken p m least is first then = absurd (let h = is in cc)

pub taken_none :
    (t : Bool) (cleared taken : List ℕ) (p m : ℕ) → t ≡ false → m ≡ least_of cleared p
    → m ≡ least_of (cleared ++ cond t taken []) p
taken_none false cleared taken p m is first = first ∙ (sym (least_none (least_of cleared p)) ∙ sym (least_append cleared [] p))
taken_none true cleared taken p m is first = absurd (let h = is in cc)

-- an entry that has no index, and clears no stack, touches nothing
both_false : (a b : Bool) → true ≡ (not a && not b) → (a ≡ false) × (b ≡ false)
both_false false false h = (refl, refl)
both_false true b h = absurd (let e = h in cc)
both_false false true h = absurd (let e = h in cc)

pub nothing_taken :
    (present pushes given : Bool) (stack taken : List ℕ) (count p : ℕ) → count ≡ length stack
    → true ≡ (not present && not (pushes && not (nat_lt count 8))) → (present ≡ false → given ≡ false)
    → p ≡ least_of (cond (pushes && not (nat_lt (length stack) 8)) stack [] ++ cond given taken []) p
nothing_taken present pushes given stack taken count p is rests later =
    let both = both_false present (pushes && not (nat_lt count 8)) rests in
    let clears : (pushes && not (nat_lt (length stack) 8)) ≡ false = ap (λ (n : ℕ). pushes && not (nat_lt n 8)) (sym is) ∙ both.1 in
    let none : given ≡ false = later both.0 in
    rw (clears, none) (sym (least_none p))

module _ (value : ℕ → Option ℤ) (step n : ℕ) (stack : List ℕ) (index least : ℕ) where
  -- the least of what is left to take
  abbrev pub Left : ℕ → Type 0
  Left m = least_of (taken_by value step n stack index) least ≡ m

  pub take_none : stack ≡ [] → Left least
  unfolding taken_by least_of
  take_none empty = rw empty refl

  module _ (i : ℕ) (rest : List ℕ) (is_stack : stack ≡ i ∷ rest) where
    left_with : taken_by value step n stack index ≡ i ∷ [] → Left (min least i)
    unfolding least_of
    left_with is = ap (λ xs. least_of xs least) is

    taken_missing : value index ≡ None → taken_by value step n stack index ≡ i ∷ []
    unfolding taken_by
    taken_missing missing = rw (is_stack, taken_by, missing)

    pub take_missing : None ≡ value index → Left (min least i)
    take_missing missing = left_with (taken_missing (sym missing))

    -- a value as the code has it, v, is the one of the list, w
    module _ (v w : ℤ) (same : v ≡ w) (is_value : Some w ≡ value index) where
      found : value index ≡ Some v
      found = sym is_value ∙ ap (λ (x : ℤ). Some x) (sym same)

      taken_last : (is_odd v && nat_lt i n) ≡ true → taken_by value step n stack index ≡ i ∷ []
      unfolding taken_by
      taken_last last = rw (is_stack, taken_by, found, last)

      pub take_last : (is_odd v && nat_lt i n) ≡ true → Left (min least i)
      take_last last = left_with (taken_last last)

      taken_on : (is_odd v && nat_lt i n) ≡ false → taken_by value step n stack index ≡ i ∷ taken_by value step n rest (index + step)
      unfolding taken_by
      taken_on on = rw (is_stack, taken_by, found, on)

      pub take_on : (is_odd v && nat_lt i n) ≡ false → Left (least_of (taken_by value step n rest (index + step)) (min least i))
      unfolding least_of
      take_on on = ap (λ xs. least_of xs least) (taken_on on)
