-- Turns of runs over a line and over a part beside it, one by one: where each finds a place, and what it touches.
use Rattle.std.proofs.Common.{◌≡◌, ◌∙◌, ◌⊎◌, inl, inr, ℕ, zero, suc, ◌+◌, ◌-◌, ◌<◌, ◌≤◌, ◌&&◌, ◌||◌, ◌==◌, not, Bool, true, false, length, nat_le, bit_and, Option, Some, None, refl, ap, sym, subst, arith}
use Rattle.std.proofs.lemmas.Bool.{and_parts, cases_eq, or_cases}
use Rattle.std.proofs.lemmas.Bool.Decides.{nat_tests}
use Rattle.std.specs.List.{list_all}
use Rattle.std.specs.Prelude.{unwrap_or}
use Rattle.aat_buffer.specs.Buffer.{Buffer}
use Rattle.aat_lookup.specs.Truth.{is_some_and}
use Rattle.aat_machine_tables.specs.Entries.{goes_on}
use Rattle.aat_machine_tables.specs.Table.{TableValue, class_of, entry_of}
use Rattle.aat_machine_tables.specs.declared.state_table.GenericStateEntry.{GenericStateEntry}
use Rattle.aat_run.specs.Budget.{operations_left, paid, potential}
use Rattle.aat_run.specs.Context.{Config, entry_at}
use Rattle.aat_run.specs.Laws.{FitsAlways}
use Rattle.aat_run.specs.Machine.{Ends, Goes, OnGoes, Turn, behind_act}
use Rattle.aat_run.specs.facts.Runs.{followed}
use Rattle.aat_run.specs.facts.Turns.{Lower, settled_goes}
use Rattle.aat_kerning_machines.specs.KerningLaws.{ChangesPositionsAlone}
use Rattle.aat_kerning_machines.specs.KerningMachine.{Driver, KerningMachine, kerning_acted, kerning_machine_of, kerning_turn, kerning_whole, stepped}
use Rattle.aat_kerning_machines.specs.facts.KerningRuns.{of_moved}
use Rattle.aat_cut_kinds.specs.KerningClosing.{Touching, first_at, goes_as_from_start, has_end_entry, is_apart, is_none_or, is_same_entry, only_returns, passes_each, rests_if_over}
use Rattle.aat_cut_kinds.specs.facts.KerningPhases.{BothAt, BothGo, falls, run_is, same_entry}
use Rattle.aat_cut_kinds.specs.facts.KerningTurns.{ActsInParts, IsWithin, has_end_too, same_class}
use Rattle.aat_cut_kinds.specs.facts.KerningViewed.{turn_acts, turn_ends, turn_ends_ahead}
use Rattle.aat_cut_kinds.specs.facts.OpenTouches.{TouchesInParts}

-- both tests are passed
pub both_hold : (t u : Bool) → t ≡ true → u ≡ true → (t && u) ≡ true
both_hold t u left right = rw left right

pub second_holds : (t u : Bool) → u ≡ true → (t || u) ≡ true
second_holds true u right = refl
second_holds false u right = right

-- what a value that is there passes, it passes alone
pub holds_of : {X : Type 0} (o : Option X) (test : X → Bool) (x : X) → o ≡ Some x → test x ≡ true → is_some_and o test ≡ true
holds_of o test x is h = ap (λ p. is_some_and p test) is ∙ h

module _ {R : Type 0} (turn : Config R → Turn (Config R)) where
  -- behind a turn: what is found, and what is passed
  abbrev pub found_behind : ℕ → ℕ → Turn (Config R) → Option (Config R)
  found_behind q n t = elim t as (λ _. Option (Config R)) [ Ends d ↦ None | Goes d ↦ first_at turn q n d ]

  abbrev pub passed_behind : (Config R → Bool) → ℕ → Turn (Config R) → Bool
  passed_behind test n t = elim t as (λ _. Bool) [ Ends d ↦ true | Goes d ↦ passes_each turn test n d ]

  pub found_here : (q n : ℕ) (c : Config R) → c.buffer.cursor ≡ q → first_at turn q (suc n) c ≡ Some c
  unfolding first_at
  found_here q n c there =
      let test : (c.buffer.cursor == q) ≡ true = grind (arith, nat_tests, there) in
      rw test refl

  pub found_later : (q n : ℕ) (c : Config R) → (c.buffer.cursor ≡ q → ⊥) → first_at turn q (suc n) c ≡ found_behind q n (turn c)
  unfolding first_at
  found_later q n c other =
      let test : (c.buffer.cursor == q) ≡ false = grind (arith, nat_tests, other) in
      rw test refl

  pub found_never : (q : ℕ) (c d : Config R) → first_at turn q zero c ≡ Some d → ⊥
  unfolding first_at
  found_never q c d found = let h = found in cc

  -- a place that is found here is this one
  pub is_here : (q n : ℕ) (c d : Config R) → c.buffer.cursor ≡ q → first_at turn q (suc n) c ≡ Some d → c ≡ d
  is_here q n c d there found =
      let here : Some c ≡ Some d = sym (found_here q n c there) ∙ found in
      ap (λ (o : Option (Config R)). unwrap_or o c) here

  pub found_by_goes : (q n : ℕ) (t : Turn (Config R)) (v d : Config R) → t ≡ Goes v → found_behind q n t ≡ Some d → first_at turn q n v ≡ Some d
  found_by_goes q n t v d is found = sym (ap (λ (x : Turn (Config R)). found_behind q n x) is) ∙ found

  pub found_of_goes : (q n : ℕ) (t : Turn (Config R)) (v d : Config R) → t ≡ Goes v → first_at turn q n v ≡ Some d → found_behind q n t ≡ Some d
  found_of_goes q n t v d is found = ap (λ (x : Turn (Config R)). found_behind q n x) is ∙ found

  -- behind a turn that goes on
  pub found_on : (q n : ℕ) (c v d : Config R) → (c.buffer.cursor ≡ q → ⊥) → turn c ≡ Goes v → first_at turn q n v ≡ Some d → first_at turn q (suc n) c ≡ Some d
  found_on q n c v d other goes found = found_later q n c other ∙ found_of_goes q n (turn c) v d goes found

  pub none_behind_end : (q n : ℕ) (t : Turn (Config R)) (v d : Config R) → t ≡ Ends v → found_behind q n t ≡ Some d → ⊥
  none_behind_end q n t v d is found =
      let h : None ≡ Some d = sym (ap (λ (x : Turn (Config R)). found_behind q n x) is) ∙ found in cc

  pub passes_none : (test : Config R → Bool) (c : Config R) → passes_each turn test zero c ≡ true
  unfolding passes_each
  passes_none test c = refl

  pub passes_of : (test : Config R → Bool) (n : ℕ) (c : Config R) → test c ≡ true → passed_behind test n (turn c) ≡ true → passes_each turn test (suc n) c ≡ true
  unfolding passes_each
  passes_of test n c here behind = both_hold (test c) (passed_behind test n (turn c)) here behind

  pub passes_parts : (test : Config R → Bool) (n : ℕ) (c : Config R) → passes_each turn test (suc n) c ≡ true → (test c ≡ true) × (passed_behind test n (turn c) ≡ true)
  unfolding passes_each
  passes_parts test n c each = and_parts (test c) (passed_behind test n (turn c)) each

  pub passes_by_goes : (test : Config R → Bool) (n : ℕ) (t : Turn (Config R)) (v : Config R) → t ≡ Goes v → passed_behind test n t ≡ true → passes_each turn test n v ≡ true
  passes_by_goes test n t v is each = sym (ap (λ (x : Turn (Config R)). passed_behind test n x) is) ∙ each

  pub passed_by_goes : (test : Config R → Bool) (n : ℕ) (t : Turn (Config R)) (v : Config R) → t ≡ Goes v → passes_each turn test n v ≡ true → passed_behind test n t ≡ true
  passed_by_goes test n t v is each = ap (λ (x : Turn (Config R)). passed_behind test n x) is ∙ each

  pub passed_by_end : (test : Config R → Bool) (n : ℕ) (t : Turn (Config R)) (v : Config R) → t ≡ Ends v → passed_behind test n t ≡ true
  passed_by_end test n t v is = ap (λ (x : Turn (Config R)). passed_behind test n x) is

-- a step moves the cursor by one glyph at most
step_further : (first a : Bool) (b : Buffer) → (stepped first a b).cursor ≤ b.cursor + 1
step_further true a b = of_moved (λ x. x.cursor ≤ b.cursor + 1) a (paid 1 b) (omega arith) (λ left. omega arith)
step_further false a b = of_moved (λ x. (paid 1 x).cursor ≤ b.cursor + 1) a b (omega arith) (λ left. omega arith)

module _ {R T : Type 0} (k : Touching R T) (pays_first : Bool) (table : TableValue (GenericStateEntry T)) (driver : Driver R (GenericStateEntry T))
    (kern_mask : ℕ) (free : bit_and kern_mask 7 ≡ 0) (places : ChangesPositionsAlone driver.act FitsAlways)
    (Alike : ℕ → ℕ → R → R → Type 0) (law : ActsInParts k driver.act driver.fresh kern_mask Alike)
  where
    abbrev pub machine : KerningMachine R (GenericStateEntry T)
    machine = kerning_machine_of pays_first table driver

    -- what a turn asks for is there
    abbrev pub Asks : Config R → Type 0
    Asks w = (e : GenericStateEntry T) × (entry_at table w.state w.buffer ≡ Some e) × (has_end_entry k table w.state w.buffer ≡ true)

    -- it is where a turn goes on, and else the turn ends the run
    pub asks_or_ends : (w : Config R) → Asks w ⊎ ((v : Config R) × (kerning_turn machine w ≡ Ends v))
    asks_or_ends w = by_entry (entry_at table w.state w.buffer) refl
      where
        by_end : (e : GenericStateEntry T) (t : Bool) → entry_at table w.state w.buffer ≡ Some e → has_end_entry k table w.state w.buffer ≡ t
            → Asks w ⊎ ((v : Config R) × (kerning_turn machine w ≡ Ends v))
        by_end e true entry has = inl (e, entry, has)
        by_end e false entry has = let over = turn_ends_ahead k pays_first table driver kern_mask free e w entry has in inr (_, over.2)

        by_entry : (o : Option (GenericStateEntry T)) → entry_at table w.state w.buffer ≡ o → Asks w ⊎ ((v : Config R) × (kerning_turn machine w ≡ Ends v))
        by_entry None entry = let over = turn_ends k pays_first table driver kern_mask free w entry in inr (_, over.2)
        by_entry (Some e) entry = by_end e (has_end_entry k table w.state w.buffer) entry refl

    further_acted :
        (e : GenericStateEntry T) (w : Config R) (b : Buffer) → b.cursor ≡ w.buffer.cursor
        → OnGoes (λ (x : Config R). x.buffer.cursor ≤ w.buffer.cursor + 1) (kerning_acted machine e (record w { buffer = b; turns = w.turns + 1 }))
    unfolding kerning_acted
    further_acted e w b cursor =
        let place = places e w.registers b tt in
        let left = driver.act e w.registers b in
        settled_goes (stepped pays_first (goes_on e)) (λ (x : Config R). x.buffer.cursor ≤ w.buffer.cursor + 1)
        (behind_act left e.new_state (record w { buffer = b; turns = w.turns + 1 }))
        (λ inside. (let step = step_further pays_first (goes_on e) left.buffer in let same = place.cursor in omega (arith, step, same, cursor)))

    -- a turn moves the cursor by one glyph at most
    pub one_further : (w v : Config R) → kerning_turn machine w ≡ Goes v → v.buffer.cursor ≤ w.buffer.cursor + 1
    one_further w v goes = by_asked (asks_or_ends w)
      where
        by_asked : Asks w ⊎ ((x : Config R) × (kerning_turn machine w ≡ Ends x)) → v.buffer.cursor ≤ w.buffer.cursor + 1
        by_asked (inl asks) =
            let acts = turn_acts k pays_first table driver kern_mask free asks.0 w asks.1 asks.2 in
            let cursor : acts.0.cursor ≡ w.buffer.cursor = ap (λ (x : Buffer). x.cursor) acts.1.rest in
            subst (OnGoes (λ (x : Config R). x.buffer.cursor ≤ w.buffer.cursor + 1)) (sym acts.2 ∙ goes) (further_acted asks.0 w acts.0 cursor)
        by_asked (inr ends) = absurd (let h : Ends ends.0 ≡ Goes v = sym ends.1 ∙ goes in cc)

    -- where a run comes to a place later, its turn goes on
    pub goes_later : (q n : ℕ) (w d : Config R) → found_behind (kerning_turn machine) q n (kerning_turn machine w) ≡ Some d
        → (v : Config R) × (kerning_turn machine w ≡ Goes v) × (first_at (kerning_turn machine) q n v ≡ Some d)
    goes_later q n w d found = by_turn (kerning_turn machine w) refl
      where
        by_turn : (t : Turn (Config R)) → kerning_turn machine w ≡ t
            → (v : Config R) × (kerning_turn machine w ≡ Goes v) × (first_at (kerning_turn machine) q n v ≡ Some d)
        by_turn (Ends v) is = absurd (none_behind_end (kerning_turn machine) q n (kerning_turn machine w) v d is found)
        by_turn (Goes v) is = (v, is, found_by_goes (kerning_turn machine) q n (kerning_turn machine w) v d is found)

    -- a run that comes to p, and before it to q, comes from there to p
    pub from_cut : (p q j i : ℕ) (w d e : Config R) → q < p → w.buffer.cursor ≤ q → first_at (kerning_turn machine) p j w ≡ Some d → first_at (kerning_turn machine) q i w ≡ Some e
        → (n : ℕ) × (first_at (kerning_turn machine) p n e ≡ Some d)
    from_cut p q zero i w d e order before found found_cut = absurd (found_never (kerning_turn machine) p w d found)
    from_cut p q (suc j) zero w d e order before found found_cut = absurd (found_never (kerning_turn machine) q w e found_cut)
    from_cut p q (suc j) (suc i) w d e order before found found_cut = by_place (λ v. from_cut p q j i v d e order) (cases_eq w.buffer.cursor q)
      where
        by_place : ((v : Config R) → v.buffer.cursor ≤ q → first_at (kerning_turn machine) p j v ≡ Some d → first_at (kerning_turn machine) q i v ≡ Some e → (n : ℕ) × (first_at (kerning_turn machine) p n e ≡ Some d))
            → (w.buffer.cursor ≡ q) ⊎ (w.buffer.cursor ≡ q → ⊥) → (n : ℕ) × (first_at (kerning_turn machine) p n e ≡ Some d)
        by_place more (inl there) = (suc j, subst (λ (x : Config R). first_at (kerning_turn machine) p (suc j) x ≡ Some d) (is_here (kerning_turn machine) q i w e there found_cut) found)
        by_place more (inr other) =
            let later = goes_later p j w d (sym (found_later (kerning_turn machine) p j w (λ same. omega (arith, same, before, order))) ∙ found) in
            let later_cut : first_at (kerning_turn machine) q i later.0 ≡ Some e =
            found_by_goes (kerning_turn machine) q i (kerning_turn machine w) later.0 e later.1 (sym (found_later (kerning_turn machine) q i w other) ∙ found_cut) in
            let step = one_further w later.0 later.1 in
            more later.0 (omega (arith, step, before, other)) later.2 later_cut

    module _ (at n long least : ℕ) (origin : Buffer) (some : 0 < least) where
      abbrev pub At : Config R → Config R → Type 0
      At w c = BothAt k pays_first table driver kern_mask free places Alike law at n long least origin some w c

      abbrev pub Go : Turn (Config R) → Turn (Config R) → Type 0
      Go t u = BothGo k pays_first table driver kern_mask free places Alike law at n long least origin some t u

      -- both turns go on
      pub record GoBoth (w c : Config R) : Type 0 where
        pub whole : Config R
        pub part : Config R
        pub whole_goes : kerning_turn machine w ≡ Goes whole
        pub part_goes : kerning_turn machine c ≡ Goes part
        pub both : At whole part
        pub within : part.buffer.cursor ≤ n
        pub lower : potential whole.buffer < potential w.buffer
        pub part_lower : potential part.buffer < potential c.buffer
        pub lasts : least ≤ operations_left (kerning_whole machine whole).buffer.max_ops

      -- or the one over the part ends, and so does that over the whole
      abbrev pub OneTurn : Config R → Config R → Type 0
      OneTurn w c = (((v : Config R) × (kerning_turn machine w ≡ Ends v)) × ((u : Config R) × (kerning_turn machine c ≡ Ends u))) ⊎ GoBoth w c

      pub turns_of : (w c : Config R) → least ≤ operations_left (kerning_whole machine w).buffer.max_ops → Go (kerning_turn machine w) (kerning_turn machine c) → OneTurn w c
      turns_of w c lasts go =
          by_turns (kerning_turn machine w) (kerning_turn machine c) refl refl go
          (falls k pays_first table driver kern_mask free places Alike law w) (falls k pays_first table driver kern_mask free places Alike law c)
          (run_is k pays_first table driver kern_mask free places Alike law w)
        where
          by_turns : (t u : Turn (Config R)) → kerning_turn machine w ≡ t → kerning_turn machine c ≡ u → Go t u
              → OnGoes (Lower FitsAlways (potential w.buffer)) t → OnGoes (Lower FitsAlways (potential c.buffer)) u
              → kerning_whole machine w ≡ followed (kerning_whole machine) t → OneTurn w c
          by_turns (Ends v) (Ends u) is is_part go low low_part run = inl ((v, is), (u, is_part))
          by_turns (Ends v) (Goes u) is is_part go low low_part run = absurd go
          by_turns (Goes v) (Ends u) is is_part go low low_part run = absurd go
          by_turns (Goes v) (Goes u) is is_part go low low_part run =
              inr (record {
                whole = v;
                part = u;
                whole_goes = is;
                part_goes = is_part;
                both = go.0;
                within = go.1;
                lower = low.0;
                part_lower = low_part.0;
                lasts = rw run at lasts;
              })

      -- one that is known to go on
      pub both_on : (w c v : Config R) → kerning_turn machine w ≡ Goes v → OneTurn w c → GoBoth w c
      both_on w c v goes (inl ends) = absurd (let h : Ends ends.0.0 ≡ Goes v = sym ends.0.1 ∙ goes in cc)
      both_on w c v goes (inr both) = both

      module _ (w c : Config R) (both : At w c) (within : IsWithin at n long c.buffer.cursor) where
        -- both look at the same entries, in each state
        pub entry_same : entry_at table w.state w.buffer ≡ entry_at table c.state c.buffer
        entry_same = same_entry k pays_first table driver kern_mask free places Alike law at n long least origin some w c both.buffers both.state within

        pub entry_in : (s : ℕ) → entry_at table s w.buffer ≡ entry_at table s c.buffer
        entry_in s = ap (λ (j : ℕ). entry_of table s j) (same_class k pays_first table driver kern_mask free places Alike law at n long least origin some w.buffer c.buffer both.buffers (class_of table) within)

        pub has_too : (s : ℕ) → has_end_entry k table s w.buffer ≡ true → has_end_entry k table s c.buffer ≡ true
        has_too s has = has_end_too k pays_first table driver kern_mask free places Alike law at n long least origin some w.buffer c.buffer both.buffers s has

        -- the part goes on as from state 0 where the whole does
        pub goes_too : goes_as_from_start k table w ≡ true → goes_as_from_start k table c ≡ true
        goes_too goes = by_start (or_cases (w.state == 0) _ goes)
          where
            Tail : Option (GenericStateEntry T) → Option (GenericStateEntry T) → Bool
            Tail o p = is_some_and o (λ e. only_returns k e || is_some_and p (λ f. is_same_entry k e f))

            by_start : ((w.state == 0) ≡ true) ⊎ ((has_end_entry k table w.state w.buffer && (has_end_entry k table 0 w.buffer
                && is_some_and (entry_at table w.state w.buffer) (λ e. only_returns k e || is_some_and (entry_at table 0 w.buffer) (λ f. is_same_entry k e f)))) ≡ true)
                → goes_as_from_start k table c ≡ true
            by_start (inl starts) =
                let there : (c.state == 0) ≡ true = ap (λ (s : ℕ). s == 0) (sym both.state) ∙ starts in
                rw there refl
            by_start (inr goes) =
                let first = and_parts (has_end_entry k table w.state w.buffer) _ goes in
                let second = and_parts (has_end_entry k table 0 w.buffer) _ first.1 in
                let has : has_end_entry k table c.state c.buffer ≡ true = ap (λ (s : ℕ). has_end_entry k table s c.buffer) (sym both.state) ∙ has_too w.state first.0 in
                let tail : is_some_and (entry_at table c.state c.buffer) (λ e. only_returns k e || is_some_and (entry_at table 0 c.buffer) (λ f. is_same_entry k e f)) ≡ true =
                sym (ap (λ (o : Option (GenericStateEntry T)). is_some_and o (λ e. only_returns k e || is_some_and (entry_at table 0 w.buffer) (λ f. is_same_entry k e f))) entry_same
                ∙ ap (λ (o : Option (GenericStateEntry T)). is_some_and (entry_at table c.state c.buffer) (λ e. only_returns k e || is_some_and o (λ f. is_same_entry k e f))) (entry_in 0)) ∙ second.1 in
                second_holds (c.state == 0) _ (both_hold (has_end_entry k table c.state c.buffer) _ has (both_hold (has_end_entry k table 0 c.buffer) _ (has_too 0 second.0) tail))

        module _ (touch : TouchesInParts k Alike) where
          -- it places nothing more where the text ends there
          pub rests_too : rests_if_over k table w ≡ true → rests_if_over k table c ≡ true
          rests_too rests =
              ap (λ (s : ℕ). is_none_or (entry_of table s 0) (λ z. k.rests_at_end z c.registers)) (sym both.state) ∙ by_entry (entry_of table w.state 0) rests
            where
              by_entry : (o : Option (GenericStateEntry T)) → is_none_or o (λ z. k.rests_at_end z w.registers) ≡ true → is_none_or o (λ z. k.rests_at_end z c.registers) ≡ true
              by_entry None rests = refl
              by_entry (Some z) rests = touch.rests at n z w.registers c.registers both.alike rests

          -- it touches no place before q, where the whole asks for an entry for the end of the text as the part does
          pub apart_too : (q : ℕ) → at ≤ q → (has_end_entry k table c.state c.buffer ≡ true → has_end_entry k table w.state w.buffer ≡ true)
              → is_apart k table q w ≡ true → is_apart k table (q - at) c ≡ true
          apart_too q low more apart = by_has (has_end_entry k table c.state c.buffer) refl
            where
              there : (e : GenericStateEntry T) → list_all (nat_le q) (k.touched e w.registers w.buffer.cursor (length w.buffer.line)) ≡ true
                  → list_all (nat_le (q - at)) (k.touched e c.registers c.buffer.cursor (length c.buffer.line)) ≡ true
              there e apart =
                  let moved = touch.touches at n long q w.buffer.cursor c.buffer.cursor e w.registers c.registers both.alike both.buffers.cursor both.buffers.room within low
                  (ap (λ (l : ℕ). list_all (nat_le q) (k.touched e w.registers w.buffer.cursor l)) (sym both.buffers.line) ∙ apart) in
                  ap (λ (l : ℕ). list_all (nat_le (q - at)) (k.touched e c.registers c.buffer.cursor l)) both.buffers.line_of_part ∙ moved

              by_entry : (o : Option (GenericStateEntry T)) → is_none_or o (λ e. list_all (nat_le q) (k.touched e w.registers w.buffer.cursor (length w.buffer.line))) ≡ true
                  → is_none_or o (λ e. list_all (nat_le (q - at)) (k.touched e c.registers c.buffer.cursor (length c.buffer.line))) ≡ true
              by_entry None apart = refl
              by_entry (Some e) apart = there e apart

              by_has : (t : Bool) → has_end_entry k table c.state c.buffer ≡ t → is_apart k table (q - at) c ≡ true
              by_has false has = rw has refl
              by_has true has =
                  let has_whole = more has in
                  let apart_whole : is_none_or (entry_at table w.state w.buffer) (λ e. list_all (nat_le q) (k.touched e w.registers w.buffer.cursor (length w.buffer.line))) ≡ true = rw has_whole at apart in
                  second_holds (not (has_end_entry k table c.state c.buffer)) _
                  (ap (λ (o : Option (GenericStateEntry T)). is_none_or o (λ e. list_all (nat_le (q - at)) (k.touched e c.registers c.buffer.cursor (length c.buffer.line)))) (sym entry_same)
                  ∙ by_entry (entry_at table w.state w.buffer) apart_whole)
