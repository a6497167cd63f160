-- The theory of runs: turns by fuel, for any turn that lowers a measure.
use Rattle.std.proofs.Common.{◌≡◌, ℕ, zero, suc, ◌+◌, ◌<◌, ◌≤◌, refl, arith, add-one}
pub use Rattle.aat_run.specs.Machine.{OnGoes}
use Rattle.aat_run.specs.Machine.{Turn, Ends, Goes, left_by, run, EndsWithin, IsWholeRun}

-- what follows a turn
abbrev pub followed : {C : Type 0} → (C → C) → Turn C → C
followed f (Ends d) = d
followed f (Goes d) = f d

module _ {C : Type 0} where
  -- a weaker fact of a turn that goes on
  pub weaker : (P Q : C → Type 0) (t : Turn C) → ((d : C) → P d → Q d) → OnGoes P t → OnGoes Q t
  weaker P Q (Ends d) f h = tt
  weaker P Q (Goes d) f h = f d h

  -- what agrees where a turn goes on agrees behind it
  pub followed_same : (f g : C → C) (P : C → Type 0) (t : Turn C) → OnGoes P t → ((d : C) → P d → f d ≡ g d) → followed f t ≡ followed g t
  followed_same f g P (Ends d) h same = refl
  followed_same f g P (Goes d) h same = same d h

  pub followed_keeps : (P N : C → Type 0) (f : C → C) (t : Turn C) → OnGoes N t → P (left_by t) → ((d : C) → N d → P d → P (f d)) → P (followed f t)
  followed_keeps P N f (Ends d) h p more = p
  followed_keeps P N f (Goes d) h p more = more d h p

  pub followed_counts : (count : C → ℕ) (N : C → Type 0) (f : C → C) (n k : ℕ) (t : Turn C) → OnGoes N t → count (left_by t) ≡ k + 1 → ((d : C) → N d → count (f d) ≤ count d + n) → count (followed f t) ≤ k + suc n
  followed_counts count N f n k (Ends d) h one more = omega (arith, one)
  followed_counts count N f n k (Goes d) h one more = omega (arith, one, more d h)

  pub followed_spends : (count measure : C → ℕ) (Stands : C → Type 0) (f : C → C) (k m : ℕ) (t : Turn C) → OnGoes (λ d. (measure d < m) × Stands d) t → count (left_by t) ≡ k + 1 → measure (left_by t) ≤ m
      → ((d : C) → (measure d < m) × Stands d → count (f d) + measure (f d) ≤ count d + measure d + 1) → count (followed f t) + measure (followed f t) ≤ k + m + 1
  followed_spends count measure Stands f k m (Ends d) h one less more = omega (arith, one, less)
  followed_spends count measure Stands f k m (Goes d) h one less more = omega (arith, one, h.0, more d h)

  module _ (turn : C → Turn C) where
    pub run_step : (n : ℕ) (c : C) → run turn (suc n) c ≡ followed (run turn n) (turn c)
    unfolding run
    run_step n c = cases (turn c)
      where
        cases : (t : Turn C) → (elim t [ Ends d ↦ d | Goes d ↦ run turn n d ]) ≡ followed (run turn n) t
        cases (Ends d) = refl
        cases (Goes d) = refl

    module _ (measure : C → ℕ) (Stands : C → Type 0) where
      -- behind a turn that goes on the measure is lower, and the run may stand there
      abbrev pub Falls : ℕ → C → Type 0
      Falls n d = (measure d < n) × Stands d

      -- a turn that goes on lowers the measure
      abbrev pub Descends : Type 0
      Descends = (c : C) → Stands c → OnGoes (Falls (measure c)) (turn c)

      module _ (falls : Descends) where
        -- any number of turns above the measure is enough
        pub enough : (f g : ℕ) (c : C) → Stands c → measure c < f → measure c < g → run turn f c ≡ run turn g c
        enough zero g c stands a b = absurd (omega arith)
        enough (suc f) zero c stands a b = absurd (omega arith)
        enough (suc f) (suc g) c stands a b =
            rw (run_step f c, run_step g c)
            (followed_same (run turn f) (run turn g) (Falls (measure c)) (turn c) (falls c stands) (λ d h. enough f g d h.1 (omega (arith, h.0)) (omega (arith, h.0))))

        -- as many turns as the measure and one more: one of them ends
        pub ends_within : (n : ℕ) (c : C) → Stands c → measure c < n → EndsWithin turn n c
        ends_within zero c stands a = absurd (omega arith)
        ends_within (suc n) c stands a =
            weaker (Falls (measure c)) (EndsWithin turn n) (turn c) (λ d h. ends_within n d h.1 (omega (arith, h.0, a))) (falls c stands)

        -- they are the whole run
        pub is_whole_run : (n : ℕ) (c : C) → Stands c → measure c < n → IsWholeRun turn n c
        is_whole_run n c stands a = record { ends = ends_within n c stands a; enough = λ k more. enough k n c stands (omega (arith, a, more)) a }

        -- a whole run is a turn and the whole run of what it leaves
        pub first_turn : (c : C) → Stands c → run turn (measure c + 1) c ≡ followed (λ d. run turn (measure d + 1) d) (turn c)
        first_turn c stands =
            rw (add-one, run_step (measure c) c)
            (followed_same (run turn (measure c)) (λ d. run turn (measure d + 1) d) (Falls (measure c)) (turn c) (falls c stands) (λ d h. enough (measure c) (measure d + 1) d h.1 h.0 (omega arith)))

        -- what each turn keeps, a run keeps
        pub run_keeps : (P : C → Type 0) → ((c : C) → Stands c → P c → P (left_by (turn c))) → (n : ℕ) (c : C) → Stands c → P c → P (run turn n c)
        unfolding run
        run_keeps P step zero c stands p = p
        run_keeps P step (suc n) c stands p =
            rw (run_step n c) (followed_keeps P (Falls (measure c)) (run turn n) (turn c) (falls c stands) (step c stands p) (λ d h q. run_keeps P step n d h.1 q))

        -- where each turn counts one and adds nothing to the measure, what a run counts it takes from the measure,
        -- but for the turn that ends
        pub run_spends : (count : C → ℕ) → ((c : C) → count (left_by (turn c)) ≡ count c + 1) → ((c : C) → Stands c → measure (left_by (turn c)) ≤ measure c) → (n : ℕ) (c : C) → Stands c
            → count (run turn n c) + measure (run turn n c) ≤ count c + measure c + 1
        unfolding run
        run_spends count counts keeps zero c stands = omega arith
        run_spends count counts keeps (suc n) c stands =
            rw (run_step n c) (followed_spends count measure Stands (run turn n) (count c) (measure c) (turn c) (falls c stands) (counts c) (keeps c stands) (λ d h. run_spends count counts keeps n d h.1))

        -- where each turn counts one, a run of n turns counts at most n
        pub run_counts : (count : C → ℕ) → ((c : C) → count (left_by (turn c)) ≡ count c + 1) → (n : ℕ) (c : C) → Stands c → count (run turn n c) ≤ count c + n
        unfolding run
        run_counts count counts zero c stands = omega arith
        run_counts count counts (suc n) c stands =
            rw (run_step n c) (followed_counts count (Falls (measure c)) (run turn n) n (count c) (turn c) (falls c stands) (counts c) (λ d h. run_counts count counts n d h.1))

-- the same of what a turn leaves
abbrev pub mapped : {C D : Type 0} → (D → C) → Turn D → Turn C
mapped view (Ends d) = Ends (view d)
mapped view (Goes d) = Goes (view d)

behind : {C D : Type 0} (view : D → C) (turn : C → Turn C) (more : D → Turn D) (Good : D → Type 0) (n : ℕ) (t : Turn D) → OnGoes Good t → ((d : D) → Good d → run turn n (view d) ≡ view (run more n d)) → followed (run turn n) (mapped view t) ≡ view (followed (run more n) t)
behind view turn more Good n (Ends d) h same = refl
behind view turn more Good n (Goes d) h same = same d h

-- where a view of each turn is the turn of the view, a view of a run is the run of the view
pub run_maps : {C D : Type 0} (view : D → C) (turn : C → Turn C) (more : D → Turn D) (Good : D → Type 0)
    → ((d : D) → Good d → turn (view d) ≡ mapped view (more d)) → ((d : D) → Good d → OnGoes Good (more d)) → (n : ℕ) (d : D) → Good d → run turn n (view d) ≡ view (run more n d)
unfolding run
run_maps view turn more Good step keep zero d good = refl
run_maps view turn more Good step keep (suc n) d good =
    rw (run_step turn n (view d), step d good, run_step more n d) (behind view turn more Good n (more d) (keep d good) (λ e h. run_maps view turn more Good step keep n e h))
