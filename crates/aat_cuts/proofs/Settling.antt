-- From the entries that a run may come to, to the labellings of a machine.
use Rattle.std.proofs.Common.{◌≡◌, ◌≢◌, ℕ, ◌+◌, ◌*◌, ◌<◌, ◌≤◌, ◌⊎◌, inl, inr, Bool, true, false, cond, not, ◌&&◌, ◌||◌, eqb, ltb, Option, Some, None, option_map, List, map, get_or, subst, sym, ap, ◌∙◌, refl, arith}
use Rattle.std.specs.List.{All, Contains}
use Rattle.std.proofs.lemmas.Bool.{cases_lt, eq-eqb, eqb-true, ltb-true}
use Rattle.std.proofs.lemmas.List.Elements.{All-contains, All-map}
use Rattle.aat_machine_tables.specs.Entries.{goes_on}
use Rattle.aat_lookup.specs.Keys.{at_key}
use Rattle.aat_machine_tables.specs.Table.{Rule, TableValue, entry_of, known_class, rule_key}
use Rattle.aat_machine_tables.specs.declared.state_table.GenericStateEntry.{GenericStateEntry}
use Rattle.aat_cuts.specs.Reached.{AreReached, IsCell, IsComplete, IsReached, is_labelled, width}
use Rattle.aat_cuts.specs.Settled.{AreBeforeUse, AreComeToUnset, IsAgreeing, IsClassOfGlyph, IsRegisterUnsettled, IsTakenAt, IsTidy, IsUsedAt, MayBeUnset, MayBeUsed, Register}
use Rattle.aat_cuts.specs.declared.steps.Step.{Step}
use Rattle.aat_cuts.specs.declared.steps.Trouble.{Trouble}
use Rattle.aat_cuts.specs.declared.steps.Trouble.TheVariants.{Unset, Taken}
use Rattle.aat_cuts.specs.inside.Steps.{AreClasses, AreFit, AreStepsBefore, AreStepsUnset, IsFit, IsFoundIn, IsFoundOf, differs, is_same, step_of}
use Rattle.aat_cuts.proofs.Liveness.{and_true}
use Rattle.aat_cuts.proofs.Raised.{or_true}
use Rattle.aat_cuts.proofs.Reaching.{followed_of, unmapped}

pub or_second : (a b : Bool) → b ≡ true → a || b ≡ true
or_second true b is = refl
or_second false b is = is

or_rest : (a b : Bool) → a || b ≡ true → a ≡ false → b ≡ true
or_rest true b is fails = cc
or_rest false b is fails = is

pub and_both : (a b : Bool) → a ≡ true → b ≡ true → a && b ≡ true
and_both true b first second = second
and_both false b first second = cc

pub not_true : (b : Bool) → (b ≡ true → ⊥) → b ≡ false
not_true false not = refl
not_true true not = absurd (not refl)

pub is_not : (b : Bool) → not b ≡ true → b ≡ false
is_not false is = refl
is_not true is = cc

pub same_by : (a b : Bool) → (not (is_same a b) ≡ true → ⊥) → a ≡ b
same_by true true other = refl
same_by false false other = refl
same_by true false other = absurd (other refl)
same_by false true other = absurd (other refl)

pub same_of : (a b : Bool) → a ≡ b → is_same a b ≡ true
same_of true true is = refl
same_of false false is = refl
same_of true false is = cc
same_of false true is = cc

pub of_same : (a b : Bool) → is_same a b ≡ true → a ≡ b
of_same true b is = sym is
of_same false false is = refl
of_same false true is = cc

pub other_of : (a b : Bool) → not (is_same a b) ≡ true → a ≢ b
other_of true true is = cc
other_of false false is = cc
other_of true false is = λ e. cc
other_of false true is = λ e. cc

eqb_self : (n : ℕ) → eqb n n ≡ true
eqb_self n = eq-eqb n n refl

known_by : (b : Bool) (k : ℕ) → b ≡ false → cond {A = ℕ} b k 1 ≡ 1
known_by false k is = refl
known_by true k is = cc

known_one : (b : Bool) → cond {A = ℕ} b 1 1 ≡ 1
known_one true = refl
known_one false = refl

module _ {T : Type 0} (table : TableValue (GenericStateEntry T)) where
  -- a class that is not below the number is taken as 1
  pub entry_high : (s k : ℕ) → width table ≤ k → entry_of table s k ≡ entry_of table s 1
  entry_high s k high =
      let class : known_class table.class_count k ≡ known_class table.class_count 1 =
      known_by (ltb k table.class_count) k (not_true (ltb k table.class_count) (λ is. absurd (omega (arith, ltb-true k table.class_count is)))) ∙ sym (known_one (ltb 1 table.class_count))
      in
      ap (λ (n : ℕ). option_map (λ (r : Rule (GenericStateEntry T)). r.2) (at_key rule_key table.rules (s * 65536 + n))) class

  module _ (labels : List ℕ) (cells : List (Rule (GenericStateEntry T))) (reached : AreReached table labels cells) where
    entry_by : (s k : ℕ) → is_labelled labels s ≡ true → (k < width table) ⊎ (width table ≤ k)
        → (e : GenericStateEntry T) × (entry_of table s k ≡ Some e) × (is_labelled labels e.new_state ≡ true)
    entry_by s k here (inl lt) = let (e, is, next, cell) = reached.each s k here lt in (e, is, next)
    entry_by s k here (inr le) =
        let (e, is, next, cell) = reached.each s 1 here (omega arith) in (e, entry_high s k le ∙ is, next)

    -- the states that were found are complete
    pub complete_found : IsComplete table (is_labelled labels)
    complete_found = record {
      first = reached.first;
      entries = λ s k here. entry_by s k here (cases_lt k (width table));
    }

    -- the entry of a state that is reached is among those that were found, for its class, or for class 1
    pub cell_of : (s k : ℕ) (e : GenericStateEntry T) → is_labelled labels s ≡ true → k < width table
        → entry_of table s k ≡ Some e → Contains cells (s, k, e)
    cell_of s k e here within is =
        let (found, is_found, next, cell) = reached.each s k here within in
        let equal : Some found ≡ Some e = sym is_found ∙ is in
        let same : found ≡ e = cc in
        subst (λ (f : GenericStateEntry T). Contains cells (s, k, f)) same cell

    module _ (register : Register T) (classes : List ℕ) (of_glyphs : AreClasses table classes) (steps : List Step)
        (are : steps ≡ map (step_of register table classes) cells) where
      module _ (is_live : ℕ → Bool) (fit : AreFit steps is_live) where
        fit_at : (c : Rule (GenericStateEntry T)) → Contains cells c → IsFit is_live (step_of register table classes c)
        fit_at c here = All-contains (λ d. IsFit is_live (step_of register table classes d)) cells c (unmapped (IsFit is_live) (step_of register table classes) cells (subst (λ (xs : List Step). All (IsFit is_live) xs) are fit.each)) here

        -- an entry that is reached, with the class at which it was found
        found_at : (s k : ℕ) (e : GenericStateEntry T) → is_labelled labels s ≡ true → entry_of table s k ≡ Some e
            → (k < width table) ⊎ (width table ≤ k)
            → (n : ℕ) × IsFit is_live (step_of register table classes (s, n, e))
            × (IsClassOfGlyph table k → is_labelled classes n ≡ true)
            × (entry_of table 0 k ≡ entry_of table 0 n) × (k ≡ 0 → n ≡ 0)
        found_at s k e here is (inl lt) =
            (k, fit_at (s, k, e) (cell_of s k e here lt is), of_glyphs.each k, refl, λ zero. zero)
        found_at s k e here is (inr le) =
            (1, fit_at (s, 1, e) (cell_of s 1 e here (omega arith) (sym (entry_high s k le) ∙ is)), λ _. of_glyphs.one, entry_high 0 k le, λ zero. absurd (omega arith))

        kept_by : (s n : ℕ) (e : GenericStateEntry T) (b : Bool) → register.sets e ≡ b → is_labelled classes n ≡ true
            → IsFit is_live (step_of register table classes (s, n, e)) → is_live e.new_state ≡ true
            → b || is_live s ≡ true
        kept_by s n e true sets class here live = refl
        kept_by s n e false sets class here live =
            here.kept (and_both (is_labelled classes n) (not (register.sets e)) class (ap not sets)) live

        differs_by : (n : ℕ) (e f : GenericStateEntry T) → entry_of table 0 n ≡ Some f → register.may_idle e ≡ true
            → register.may_idle f ≡ true → e.new_state ≡ f.new_state → goes_on e ≡ goes_on f
            → not (is_same (register.sets e) (register.sets f)) ≡ true → differs register e (entry_of table 0 n) ≡ true
        differs_by n e f is idle_e idle_f next on other =
            let equal : eqb e.new_state f.new_state ≡ true = eq-eqb e.new_state f.new_state next in
            rw is (and_both _ _ (and_both _ _ (and_both _ _ (and_both _ _ idle_e idle_f) equal) (same_of (goes_on e) (goes_on f) on)) other)

        -- a labelling that goes with the entries that were found is tidy
        pub tidy_found : IsTidy table register (is_labelled labels) is_live
        tidy_found = record {
          first = fit.first;
          used = λ s k e here is uses.
              let (n, one, class, first, zero) = found_at s k e here is (cases_lt k (width table)) in
              one.used (ap (λ (b : Bool). b || (eqb n 0 && register.uses_at_end e)) uses);
          at_end = λ s e here is uses.
              let (n, one, class, first, zero) = found_at s 0 e here is (cases_lt 0 (width table)) in
              let at : eqb n 0 ≡ true = eq-eqb n 0 (zero refl) in
              one.used (or_second (register.uses e) (eqb n 0 && register.uses_at_end e) (and_both (eqb n 0) (register.uses_at_end e) at uses));
          kept = λ s k e here of_glyph is live.
              let (n, one, class, first, zero) = found_at s k e here is (cases_lt k (width table)) in
              kept_by s n e (register.sets e) refl (class of_glyph) one live;
        }

        -- and agreeing
        pub agreeing_found : IsAgreeing table register (is_labelled labels) is_live
        agreeing_found = record {
          agreed = λ s k e f here of_glyph is is_first idle_e idle_f next on live.
              let (n, one, class, first, zero) = found_at s k e here is (cases_lt k (width table)) in
              same_by (register.sets e) (register.sets f) (λ other.
              let dead : is_live e.new_state ≡ false = one.agreed (and_both (is_labelled classes n) (differs register e (entry_of table 0 n)) (class of_glyph) (differs_by n e f (sym first ∙ is_first) idle_e idle_f next on other)) in
              let clash : true ≡ false = sym live ∙ dead in cc);
        }

      module _ (is_reached is_live : ℕ → Bool) (complete : IsComplete table is_reached)
          (tidy : IsTidy table register is_reached is_live) (agreeing : IsAgreeing table register is_reached is_live) where
        used_by : (s k : ℕ) (e : GenericStateEntry T) → is_reached s ≡ true → entry_of table s k ≡ Some e
            → (register.uses e ≡ true) ⊎ ((eqb k 0 && register.uses_at_end e) ≡ true) → is_live s ≡ true
        used_by s k e here is (inl uses) = tidy.used s k e here is uses
        used_by s k e here is (inr both) =
            let (zero, uses) = and_true (eqb k 0) (register.uses_at_end e) both in
            let same : k ≡ 0 = eqb-true k 0 zero in
            tidy.at_end s e here (ap (entry_of table s) (sym same) ∙ is) uses

        agreed_by : (s k : ℕ) (e : GenericStateEntry T) (first : Option (GenericStateEntry T)) → is_reached s ≡ true
            → IsClassOfGlyph table k → entry_of table s k ≡ Some e → entry_of table 0 k ≡ first
            → differs register e first ≡ true → is_live e.new_state ≡ true → ⊥
        agreed_by s k e None here of_glyph is is_first other live = let clash : false ≡ true = other in cc
        agreed_by s k e (Some f) here of_glyph is is_first other live =
            let (rest, sets) = and_true _ _ other in
            let (more, on) = and_true _ _ rest in
            let (idle, next) = and_true _ _ more in
            let (idle_e, idle_f) = and_true _ _ idle in
            other_of (register.sets e) (register.sets f) sets (agreeing.agreed s k e f here of_glyph is is_first idle_e idle_f (eqb-true e.new_state f.new_state next) (of_same (goes_on e) (goes_on f) on) live)

        fit_by : (c : Rule (GenericStateEntry T)) → is_labelled labels c.0 ≡ true → IsCell table c
            → IsFit is_live (step_of register table classes c)
        fit_by c labelled cell =
            let here = reached.least c.0 labelled is_reached (followed_of table is_reached complete) in
            record {
              used = λ uses. used_by c.0 c.1 c.2 here cell (or_true (register.uses c.2) (eqb c.1 0 && register.uses_at_end c.2) uses);
              kept = λ keeps live.
                  let (class, unset) = and_true (is_labelled classes c.1) (not (register.sets c.2)) keeps in
                  or_rest (register.sets c.2) (is_live c.0) (tidy.kept c.0 c.1 c.2 here (of_glyphs.sound c.1 class) cell live) (is_not (register.sets c.2) unset);
              agreed = λ other. not_true (is_live c.2.new_state) (λ live.
                  let (class, differ) = and_true (is_labelled classes c.1) (differs register c.2 (entry_of table 0 c.1)) other in
                  agreed_by c.0 c.1 c.2 (entry_of table 0 c.1) here (of_glyphs.sound c.1 class) cell refl differ live);
            }

        -- a labelling that is tidy and agreeing goes with the entries that were found
        pub fit_of_tidy : AreFit steps is_live
        fit_of_tidy = record {
          first = tidy.first;
          each = subst (λ (xs : List Step). All (IsFit is_live) xs) (sym are) (All-map (IsFit is_live) (step_of register table classes) cells (λ i d within.
              let (labelled, cell) = reached.sound i d within in fit_by (get_or cells i d) labelled cell));
        }

      never_by : ((is_live : ℕ → Bool) → AreFit steps is_live → ⊥) → IsRegisterUnsettled table register
      never_by none is_reached is_live complete tidy agreeing =
          none is_live (fit_of_tidy is_reached is_live complete tidy agreeing)

      -- an entry whose step is listed
      abbrev pub HasCell : Step → Type 0
      HasCell s =
          (c : Rule (GenericStateEntry T)) × (s ≡ step_of register table classes c) × IsReached table c.0 × IsCell table c

      cell_at : (s : Step) → Contains steps s → HasCell s
      cell_at s here = All-contains HasCell steps s (subst (λ (xs : List Step). All HasCell xs) (sym are) (All-map HasCell (step_of register table classes) cells (λ i d within.
          let (labelled, cell) = reached.sound i d within in
          (get_or cells i d, refl, reached.least (get_or cells i d).0 labelled, cell)))) here

      each_step : (P : Step → Type 0)
          → ((c : Rule (GenericStateEntry T)) → IsCell table c → P (step_of register table classes c)) → All P steps
      each_step P by = subst (λ (xs : List Step). All P xs) (sym are) (All-map P (step_of register table classes) cells (λ i d within. by (get_or cells i d) (reached.sound i d within).1))

      -- states to which a run may come without setting the register, as the entries that were found have them
      steps_unset : (states : ℕ → Bool) → AreComeToUnset table register states → AreStepsUnset steps states
      steps_unset states unset = record {
        first = unset.first;
        next = each_step (λ t. t.keeps ≡ true → states t.state ≡ true → states t.next ≡ true) (λ c cell keeps at.
            let (class, not_set) = and_true (is_labelled classes c.1) (not (register.sets c.2)) keeps in
            unset.next c.0 c.1 c.2 at (of_glyphs.sound c.1 class) cell (is_not (register.sets c.2) not_set));
      }

      -- and those from which it may be used
      steps_before : (states : ℕ → Bool) → AreBeforeUse table register states → AreStepsBefore steps states
      steps_before states users = record {
        used = each_step (λ t. t.uses ≡ true → states t.state ≡ true) (λ c cell uses. users.used c.0 c.1 c.2 cell uses);
        before = each_step (λ t. t.keeps ≡ true → states t.next ≡ true → states t.state ≡ true) (λ c cell keeps at.
            let (class, not_set) = and_true (is_labelled classes c.1) (not (register.sets c.2)) keeps in
            users.before c.0 c.1 c.2 at (of_glyphs.sound c.1 class) cell (is_not (register.sets c.2) not_set));
      }

      used_at : (state class : ℕ) (s : Step) → Contains steps s → s.state ≡ state → s.class ≡ class → s.uses ≡ true
          → ((states : ℕ → Bool) → AreStepsUnset steps states → states s.state ≡ true)
          → IsReached table state × IsUsedAt table register state class
      used_at state class s here is_state is_class uses come =
          let (c, is, at, cell) = cell_at s here in
          let of_state : c.0 ≡ state = ap (λ (t : Step). t.state) (sym is) ∙ is_state in
          let of_class : c.1 ≡ class = ap (λ (t : Step). t.class) (sym is) ∙ is_class in
          let is_used = ap (λ (t : Step). t.uses) (sym is) ∙ uses in
          let unset : MayBeUnset table register c.0 = λ states of_run. subst (λ (t : Step). states t.state ≡ true) is (come states (steps_unset states of_run)) in
          (subst (IsReached table) of_state at, subst (λ (n : ℕ). IsUsedAt table register n class) of_state (subst (λ (n : ℕ). IsUsedAt table register c.0 n) of_class (c.2, cell, is_used, unset)))

      taken_of : (s k : ℕ) (e : GenericStateEntry T) (first : Option (GenericStateEntry T)) → entry_of table s k ≡ Some e
          → entry_of table 0 k ≡ first → differs register e first ≡ true → MayBeUsed table register e.new_state
          → IsClassOfGlyph table k → IsTakenAt table register s k
      taken_of s k e None is is_first other used of_glyph = let clash : false ≡ true = other in cc
      taken_of s k e (Some f) is is_first other used of_glyph =
          let (rest, sets) = and_true _ _ other in
          let (more, on) = and_true _ _ rest in
          let (idle, next) = and_true _ _ more in
          let (idle_e, idle_f) = and_true _ _ idle in
          (e, f, is, is_first, idle_e, idle_f, eqb-true e.new_state f.new_state next, of_same (goes_on e) (goes_on f) on, other_of (register.sets e) (register.sets f) sets, used, of_glyph)

      taken_at : (state class : ℕ) (s : Step) → Contains steps s → s.state ≡ state → s.class ≡ class → s.differs ≡ true
          → ((states : ℕ → Bool) → AreStepsBefore steps states → states s.next ≡ true)
          → IsReached table state × IsTakenAt table register state class
      taken_at state class s here is_state is_class other come =
          let (c, is, at, cell) = cell_at s here in
          let of_state : c.0 ≡ state = ap (λ (t : Step). t.state) (sym is) ∙ is_state in
          let of_class : c.1 ≡ class = ap (λ (t : Step). t.class) (sym is) ∙ is_class in
          let both = ap (λ (t : Step). t.differs) (sym is) ∙ other in
          let (class_is, differ) = and_true (is_labelled classes c.1) (differs register c.2 (entry_of table 0 c.1)) both in
          let used : MayBeUsed table register c.2.new_state = λ states of_run. subst (λ (t : Step). states t.next ≡ true) is (come states (steps_before states of_run)) in
          let here_taken = taken_of c.0 c.1 c.2 (entry_of table 0 c.1) cell refl differ used (of_glyphs.sound c.1 class_is) in
          (subst (IsReached table) of_state at, subst (λ (n : ℕ). IsTakenAt table register n class) of_state (subst (λ (n : ℕ). IsTakenAt table register c.0 n) of_class here_taken))

      -- what was found of the entries was found of the machine
      pub found_in : (found : Option Trouble) → IsFoundOf steps found
          → IsFoundIn table register (is_labelled labels) found
      found_in None (is_live, fit) = (is_live, tidy_found is_live fit, agreeing_found is_live fit)
      found_in (Some (Unset state class)) (none, s, here, is_state, is_class, uses, come) =
          let (at, used) = used_at state class s here is_state is_class uses come in (never_by none, at, used)
      found_in (Some (Taken state class)) (none, s, here, is_state, is_class, other, come) =
          let (at, taken) = taken_at state class s here is_state is_class other come in (never_by none, at, taken)
