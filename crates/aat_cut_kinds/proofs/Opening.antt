-- What a turn tells of the places that a run will leave open.
use Rattle.std.proofs.Common.{◌≡◌, ◌∙◌, ◌⊎◌, inl, inr, ℕ, zero, suc, ◌+◌, ◌<◌, ◌≤◌, ◌==◌, ◌&&◌, ◌||◌, not, Bool, true, false, cond, List, length, nat_le, get_or, Option, Some, None, refl, ap, sym, arith}
use Rattle.std.proofs.lemmas.Bool.{cases_lt}
use Rattle.std.proofs.lemmas.Bool.Decides.{nat_tests}
use Rattle.aat_lookup.specs.Truth.{is_some_and}
use Rattle.aat_machine_tables.specs.Table.{TableValue}
use Rattle.aat_machine_tables.specs.declared.state_table.GenericStateEntry.{GenericStateEntry}
use Rattle.aat_run.specs.Budget.{potential}
use Rattle.aat_run.specs.Context.{Config}
use Rattle.aat_run.specs.Machine.{Ends, Goes, OnGoes, Turn}
use Rattle.aat_cut_kinds.specs.KerningClosing.{Touching, first_at, is_apart, passes_each}
use Rattle.aat_cut_kinds.specs.inside.OpenRuns.{is_harmless, stays_apart, will_open}

-- behind a turn: less is left to do, the line is as long, and the cursor has moved by at most one place
pub record Behind {R : Type 0} (c d : Config R) : Type 0 where
  pub long : length d.buffer.line ≡ length c.buffer.line
  pub lower : potential d.buffer < potential c.buffer
  pub no_less : c.buffer.cursor ≤ d.buffer.cursor
  pub no_more : d.buffer.cursor ≤ c.buffer.cursor + 1
  pub within : d.buffer.cursor ≤ length c.buffer.line

one_more : (n : ℕ) → n + 1 ≡ suc n
one_more n = omega arith

-- the turn closes the places behind the least one that it touched, up to the cursor
abbrev pub Closed : List Bool → List Bool → ℕ → ℕ → ℕ → Type 0
Closed old new q least cursor = get_or new q false ≡ (get_or old q false && (nat_le q least || not (nat_le q cursor)))

module _ {R T : Type 0} (k : Touching R T) (table : TableValue (GenericStateEntry T)) (turn : Config R → Turn (Config R)) where
  -- what is known of place q before a turn: at places up to the cursor by what was told, and else by what will be
  abbrev pub Answer : List Bool → ℕ → Config R → Bool
  Answer opens q c =
      cond (nat_le q c.buffer.cursor) (get_or opens q false && stays_apart k table turn q c) (will_open k table turn q c)

module _ {R T : Type 0} (k : Touching R T) (table : TableValue (GenericStateEntry T)) (turn : Config R → Turn (Config R))
    (falls : (c : Config R) → OnGoes (Behind c) (turn c))
  where
    pub falls_to : (c d : Config R) → turn c ≡ Goes d → Behind c d
    falls_to c d goes = rw goes at (falls c)

    module _ (test : Config R → Bool) where
      more_passes :
          (f g : ℕ) (c : Config R) (t : Turn (Config R)) → OnGoes (Behind c) t
          → ((d : Config R) → potential d.buffer < potential c.buffer → passes_each turn test f d ≡ passes_each turn test g d)
          → elim t as (λ _. Bool) [ Ends d ↦ true | Goes d ↦ passes_each turn test f d ]
          ≡ elim t as (λ _. Bool) [ Ends d ↦ true | Goes d ↦ passes_each turn test g d ]
      more_passes f g c (Ends d) behind same = refl
      more_passes f g c (Goes d) behind same = same d behind.lower

      -- any number of turns above the potential is enough
      passes_fuel :
          (f g : ℕ) (c : Config R) → potential c.buffer < f → potential c.buffer < g
          → passes_each turn test f c ≡ passes_each turn test g c
      unfolding passes_each
      passes_fuel zero g c a b = absurd (omega (arith, a))
      passes_fuel (suc f) zero c a b = absurd (omega (arith, b))
      passes_fuel (suc f) (suc g) c a b =
          ap (λ (r : Bool). test c && r)
          (more_passes f g c (turn c) (falls c) (λ d low. passes_fuel f g d (omega (arith, low, a)) (omega (arith, low, b))))

      passes_goes : (n : ℕ) (c d : Config R) → turn c ≡ Goes d → passes_each turn test (suc n) c ≡ (test c && passes_each turn test n d)
      unfolding passes_each
      passes_goes n c d goes = rw goes refl

      passes_ends : (n : ℕ) (c d : Config R) → turn c ≡ Ends d → passes_each turn test (suc n) c ≡ (test c && true)
      unfolding passes_each
      passes_ends n c d ends = rw ends refl

    more_first :
        (q f g : ℕ) (c : Config R) (t : Turn (Config R)) → OnGoes (Behind c) t
        → ((d : Config R) → potential d.buffer < potential c.buffer → first_at turn q f d ≡ first_at turn q g d)
        → elim t as (λ _. Option (Config R)) [ Ends d ↦ None | Goes d ↦ first_at turn q f d ]
        ≡ elim t as (λ _. Option (Config R)) [ Ends d ↦ None | Goes d ↦ first_at turn q g d ]
    more_first q f g c (Ends d) behind same = refl
    more_first q f g c (Goes d) behind same = same d behind.lower

    first_fuel :
        (q f g : ℕ) (c : Config R) → potential c.buffer < f → potential c.buffer < g
        → first_at turn q f c ≡ first_at turn q g c
    unfolding first_at
    first_fuel q zero g c a b = absurd (omega (arith, a))
    first_fuel q (suc f) zero c a b = absurd (omega (arith, b))
    first_fuel q (suc f) (suc g) c a b =
        ap (λ (o : Option (Config R)). cond (c.buffer.cursor == q) (Some c) o)
        (more_first q f g c (turn c) (falls c) (λ d low. first_fuel q f g d (omega (arith, low, a)) (omega (arith, low, b))))

    first_here : (q n : ℕ) (c : Config R) → (c.buffer.cursor == q) ≡ true → first_at turn q (suc n) c ≡ Some c
    unfolding first_at
    first_here q n c here = rw here refl

    first_goes : (q n : ℕ) (c d : Config R) → (c.buffer.cursor == q) ≡ false → turn c ≡ Goes d → first_at turn q (suc n) c ≡ first_at turn q n d
    unfolding first_at
    first_goes q n c d there goes = rw (there, goes) refl

    first_ends : (q n : ℕ) (c d : Config R) → (c.buffer.cursor == q) ≡ false → turn c ≡ Ends d → first_at turn q (suc n) c ≡ None
    unfolding first_at
    first_ends q n c d there ends = rw (there, ends) refl

    -- what a turn that goes on tells, and one that ends
    apart_goes : (q : ℕ) (c d : Config R) → turn c ≡ Goes d
        → stays_apart k table turn q c ≡ (is_apart k table q c && stays_apart k table turn q d)
    unfolding stays_apart
    apart_goes q c d goes =
        let low = (falls_to c d goes).lower in
        ap (λ (n : ℕ). passes_each turn (is_apart k table q) n c) (one_more (potential c.buffer))
        ∙ (passes_goes (is_apart k table q) (potential c.buffer) c d goes
        ∙ ap (λ (r : Bool). is_apart k table q c && r)
        (passes_fuel (is_apart k table q) (potential c.buffer) (potential d.buffer + 1) d low (omega arith)))

    apart_ends : (q : ℕ) (c d : Config R) → turn c ≡ Ends d → stays_apart k table turn q c ≡ (is_apart k table q c && true)
    unfolding stays_apart
    apart_ends q c d ends =
        ap (λ (n : ℕ). passes_each turn (is_apart k table q) n c) (one_more (potential c.buffer))
        ∙ passes_ends (is_apart k table q) (potential c.buffer) c d ends

    abbrev Opens : ℕ → Option (Config R) → Bool
    Opens q o = is_some_and o (λ d. is_harmless k table d && stays_apart k table turn q d)

    open_here : (q : ℕ) (c : Config R) → (c.buffer.cursor == q) ≡ true
        → will_open k table turn q c ≡ (is_harmless k table c && stays_apart k table turn q c)
    unfolding will_open
    open_here q c here =
        ap (λ (n : ℕ). Opens q (first_at turn q n c)) (one_more (potential c.buffer))
        ∙ ap (Opens q) (first_here q (potential c.buffer) c here)

    open_goes : (q : ℕ) (c d : Config R) → (c.buffer.cursor == q) ≡ false → turn c ≡ Goes d
        → will_open k table turn q c ≡ will_open k table turn q d
    unfolding will_open
    open_goes q c d there goes =
        let low = (falls_to c d goes).lower in
        ap (λ (n : ℕ). Opens q (first_at turn q n c)) (one_more (potential c.buffer))
        ∙ ap (Opens q) (first_goes q (potential c.buffer) c d there goes
        ∙ first_fuel q (potential c.buffer) (potential d.buffer + 1) d low (omega arith))

    open_ends : (q : ℕ) (c d : Config R) → (c.buffer.cursor == q) ≡ false → turn c ≡ Ends d
        → will_open k table turn q c ≡ false
    unfolding will_open
    open_ends q c d there ends =
        ap (λ (n : ℕ). Opens q (first_at turn q n c)) (one_more (potential c.buffer))
        ∙ ap (Opens q) (first_ends q (potential c.buffer) c d there ends)

    and_swap : (a b c : Bool) → (a && (b && c)) ≡ ((a && b) && c)
    and_swap true b c = refl
    and_swap false b c = refl

    module _ (q least : ℕ) (old mid : List Bool) (c : Config R) (closed : Closed old mid q least c.buffer.cursor)
        (apart : q ≤ c.buffer.cursor → is_apart k table q c ≡ nat_le q least)
      where
        closed_here : q ≤ c.buffer.cursor → get_or mid q false ≡ (get_or old q false && is_apart k table q c)
        closed_here below =
            let is = apart below in
            let up : nat_le q c.buffer.cursor ≡ true = grind (arith, nat_tests, below) in
            closed ∙ by_test (get_or old q false) (nat_le q least) (is_apart k table q c) is up
          where
            by_test : (o l a : Bool) → a ≡ l → nat_le q c.buffer.cursor ≡ true → (o && (l || not (nat_le q c.buffer.cursor))) ≡ (o && a)
            by_test o true true is up = refl
            by_test o false false is up = rw up refl
            by_test o true false is up = absurd (let h = is in cc)
            by_test o false true is up = absurd (let h = is in cc)

        -- where the run goes on, and tells of the place where it comes
        pub answer_goes :
            (new : List Bool) (d : Config R) → turn c ≡ Goes d
            → (q ≤ c.buffer.cursor → get_or new q false ≡ get_or mid q false)
            → (c.buffer.cursor < q → q ≤ d.buffer.cursor → get_or new q false ≡ is_harmless k table d)
            → Answer k table turn new q d ≡ Answer k table turn old q c
        answer_goes new d goes kept told = by_place (cases_lt c.buffer.cursor q)
          where
            behind : Behind c d
            behind = falls_to c d goes

            before : q ≤ c.buffer.cursor → Answer k table turn new q d ≡ Answer k table turn old q c
            before below =
                let up : nat_le q c.buffer.cursor ≡ true = grind (arith, nat_tests, below) in
                let above = behind.no_less in
                let up_too : nat_le q d.buffer.cursor ≡ true = grind (arith, nat_tests, below, above) in
                rw (up, up_too)
                (ap (λ (x : Bool). x && stays_apart k table turn q d) (kept below ∙ closed_here below)
                ∙ (sym (and_swap (get_or old q false) (is_apart k table q c) (stays_apart k table turn q d))
                ∙ ap (λ (x : Bool). get_or old q false && x) (sym (apart_goes q c d goes))))

            after : c.buffer.cursor < q → (d.buffer.cursor < q) ⊎ (q ≤ d.buffer.cursor) → Answer k table turn new q d ≡ Answer k table turn old q c
            after above (inl more) =
                let off : nat_le q c.buffer.cursor ≡ false = grind (arith, nat_tests, above) in
                let there : (c.buffer.cursor == q) ≡ false = grind (arith, nat_tests, above) in
                let off_too : nat_le q d.buffer.cursor ≡ false = grind (arith, nat_tests, more) in
                rw (off, off_too) (sym (open_goes q c d there goes))
            after above (inr come) =
                let off : nat_le q c.buffer.cursor ≡ false = grind (arith, nat_tests, above) in
                let there : (c.buffer.cursor == q) ≡ false = grind (arith, nat_tests, above) in
                let on : nat_le q d.buffer.cursor ≡ true = grind (arith, nat_tests, come) in
                let last = behind.no_more in
                let here : (d.buffer.cursor == q) ≡ true = grind (arith, nat_tests, last, above, come) in
                rw (off, on)
                (ap (λ (x : Bool). x && stays_apart k table turn q d) (told above come)
                ∙ (sym (open_here q d here) ∙ sym (open_goes q c d there goes)))

            by_place : (c.buffer.cursor < q) ⊎ (q ≤ c.buffer.cursor) → Answer k table turn new q d ≡ Answer k table turn old q c
            by_place (inl above) = after above (cases_lt d.buffer.cursor q)
            by_place (inr below) = before below

        -- where it ends
        pub answer_ends :
            (d : Config R) → turn c ≡ Ends d → (c.buffer.cursor < q → get_or old q false ≡ false)
            → get_or mid q false ≡ Answer k table turn old q c
        answer_ends d ends none = by_place (cases_lt c.buffer.cursor q)
          where
            with_true : (a : Bool) → (a && true) ≡ a
            with_true true = refl
            with_true false = refl

            by_place : (c.buffer.cursor < q) ⊎ (q ≤ c.buffer.cursor) → get_or mid q false ≡ Answer k table turn old q c
            by_place (inl above) =
                let off : nat_le q c.buffer.cursor ≡ false = grind (arith, nat_tests, above) in
                let there : (c.buffer.cursor == q) ≡ false = grind (arith, nat_tests, above) in
                rw off (closed ∙ (ap (λ (x : Bool). x && (nat_le q least || not (nat_le q c.buffer.cursor))) (none above)
                ∙ sym (open_ends q c d there ends)))
            by_place (inr below) =
                let up : nat_le q c.buffer.cursor ≡ true = grind (arith, nat_tests, below) in
                rw up (closed_here below ∙ ap (λ (x : Bool). get_or old q false && x)
                (sym (apart_ends q c d ends ∙ with_true (is_apart k table q c))))
