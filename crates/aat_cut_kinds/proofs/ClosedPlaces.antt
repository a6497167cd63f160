-- Places that are closed one after another, from the cursor down.
use Rattle.std.proofs.Common.{◌≡◌, ◌≢◌, ◌∙◌, ◌⊎◌, inl, inr, ℕ, ◌+◌, ◌-◌, ◌<◌, ◌≤◌, ◌&&◌, ◌||◌, not, Bool, true, false, List, length, min, nat_le, get_or, refl, ap, arith}
use Rattle.std.proofs.lemmas.Bool.{cases_eq, cases_lt}
use Rattle.std.proofs.lemmas.Bool.Decides.{nat_tests}
use Rattle.std.proofs.lemmas.List.{get_or_past}
use Rattle.aat_cut_kinds.proofs.Opening.{Closed}

and_true : (a b : Bool) → b ≡ true → a ≡ (a && b)
and_true true true h = refl
and_true false true h = refl
and_true true false h = absurd (let e = h in cc)
and_true false false h = refl

and_false : (a b : Bool) → b ≡ false → false ≡ (a && b)
and_false true true h = absurd (let e = h in cc)
and_false false true h = refl
and_false true false h = refl
and_false false false h = refl

-- up to the last place and the cursor none is closed yet, and behind the last none is open
pub none_closed :
    (opens : List Bool) (q p cursor : ℕ) → p ≡ min cursor (length opens - 1) → Closed opens opens q p cursor
none_closed opens q p cursor is = by_place (cases_lt p q) (cases_lt cursor q)
  where
    by_place : (p < q) ⊎ (q ≤ p) → (cursor < q) ⊎ (q ≤ cursor) → Closed opens opens q p cursor
    by_place (inr here) beside =
        let on : (nat_le q p || not (nat_le q cursor)) ≡ true = grind (arith, nat_tests, here) in
        and_true (get_or opens q false) _ on
    by_place (inl past) (inl above) =
        let on : (nat_le q p || not (nat_le q cursor)) ≡ true = grind (arith, nat_tests, above) in
        and_true (get_or opens q false) _ on
    by_place (inl past) (inr below) =
        let out : get_or opens q false ≡ false = get_or_past opens q false (omega (arith, is, past, below)) in
        let off : (nat_le q p || not (nat_le q cursor)) ≡ false = grind (arith, nat_tests, past, below) in
        out ∙ and_false (get_or opens q false) _ off

module _ (old mid new : List Bool) (q p cursor : ℕ) (more : 0 < p) (below : p ≤ cursor) (closed : Closed old mid q p cursor)
    (here : get_or new p false ≡ false) (elsewhere : q ≢ p → get_or new q false ≡ get_or mid q false)
  where
    pub one_closed : Closed old new q (p - 1) cursor
    one_closed = by_place (cases_eq q p)
      where
        by_place : (q ≡ p) ⊎ (q ≡ p → ⊥) → Closed old new q (p - 1) cursor
        by_place (inl e) =
            let off : (nat_le q (p - 1) || not (nat_le q cursor)) ≡ false = grind (arith, nat_tests, e, more, below) in
            ap (λ (x : ℕ). get_or new x false) e ∙ (here ∙ and_false (get_or old q false) _ off)
        by_place (inr ne) =
            let same : nat_le q p ≡ nat_le q (p - 1) = grind (arith, nat_tests, ne, more) in
            elsewhere ne ∙ (closed ∙ ap (λ (t : Bool). get_or old q false && (t || not (nat_le q cursor))) same)

-- where the least place is reached, or none was closed
pub all_closed :
    (old new : List Bool) (q p least cursor : ℕ) → (least ≤ p) ⊎ (new ≡ old) → p ≤ least
    → Closed old new q p cursor → Closed old new q least cursor
all_closed old new q p least cursor (inl above) past closed =
    let same : nat_le q p ≡ nat_le q least = grind (arith, nat_tests, above, past) in
    closed ∙ ap (λ (t : Bool). get_or old q false && (t || not (nat_le q cursor))) same
all_closed old new q p least cursor (inr none) past closed =
    weaker (get_or old q false) (get_or new q false) (nat_le q p) (nat_le q least) (not (nat_le q cursor))
    (ap (λ (xs : List Bool). get_or xs q false) none) closed (grind (arith, nat_tests, past))
  where
    weaker : (o n t u v : Bool) → n ≡ o → n ≡ (o && (t || v)) → (t && not u) ≡ false → n ≡ (o && (u || v))
    weaker false n t u v same is off = is
    weaker true n t true v same is off = same
    weaker true n true false v same is off = absurd (let e = off in cc)
    weaker true n false false v same is off = is

-- what telling of the place where the run comes leaves of the others
pub told_kept :
    (mid new : List Bool) (before here q : ℕ) → before ≤ here → (here ≡ before → new ≡ mid)
    → (q ≢ here → get_or new q false ≡ get_or mid q false) → q ≤ before → get_or new q false ≡ get_or mid q false
told_kept mid new before here q no_less stays elsewhere below = by_place (cases_eq here before)
  where
    by_place : (here ≡ before) ⊎ (here ≡ before → ⊥) → get_or new q false ≡ get_or mid q false
    by_place (inl e) = ap (λ (xs : List Bool). get_or xs q false) (stays e)
    by_place (inr ne) = elsewhere (λ e. ne (omega (arith, e, below, no_less)))

pub told_here :
    (new : List Bool) (before here n q : ℕ) (harmless : Bool) → here ≤ before + 1
    → (here ≢ before → here < n → get_or new here false ≡ harmless) → q < n → before < q → q ≤ here → get_or new q false ≡ harmless
told_here new before here n q harmless no_more tells inside above below =
    let e : q ≡ here = omega (arith, no_more, above, below) in
    ap (λ (x : ℕ). get_or new x false) e
    ∙ tells (λ same. absurd (omega (arith, same, above, below, no_more, e))) (omega (arith, inside, e))

-- a place that was not open stays so
pub none_still :
    (old mid new : List Bool) (before here q least : ℕ) → before ≤ here → Closed old mid q least before
    → (q ≢ here → get_or new q false ≡ get_or mid q false) → (before < q → get_or old q false ≡ false) → here < q
    → get_or new q false ≡ false
none_still old mid new before here q least no_less closed elsewhere none above =
    elsewhere (λ e. absurd (omega (arith, e, above)))
    ∙ (closed ∙ ap (λ (x : Bool). x && (nat_le q least || not (nat_le q before))) (none (omega (arith, above, no_less))))
