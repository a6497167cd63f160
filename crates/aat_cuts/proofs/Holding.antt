-- How many components are surely held.
use Rattle.std.proofs.Common.{◌≡◌, ◌≢◌, ℕ, ◌+◌, ◌<◌, ◌≤◌, ◌⊎◌, inl, inr, Bool, true, false, cond, not, ◌&&◌, ◌||◌, eqb, ltb, min, bit_and, if◌then◌else◌, IfNone, IfSome, Option, Some, None, List, [], ◌∷◌, map, drop, get_or, subst, sym, ap, ◌∙◌, refl, arith}
use Rattle.std.specs.List.{All, Contains}
use Rattle.std.proofs.lemmas.Bool.{cases_eq, cases_lt, eq-eqb, eqb-true, lt-ltb, ltb-false, ltb-true, ne_eqb}
use Rattle.std.proofs.lemmas.List.{get_or_past}
use Rattle.std.proofs.lemmas.Bool.Decides.{nat_tests}
use Rattle.std.proofs.lemmas.List.Elements.{All-contains, All-map}
use Rattle.aat_machine_tables.specs.Entries.{goes_on, has_flag}
use Rattle.aat_machine_tables.specs.Table.{Rule, TableValue, entry_of}
use Rattle.aat_machine_tables.specs.declared.state_table.GenericStateEntry.{GenericStateEntry}
use Rattle.aat_cuts.specs.Held.{HoldsOver, IsLigatureAgreeing, IsLigatureSettled, IsPushTakenAt, IsSufficient, action_count, held_behind_push, most_held, taken_by}
use Rattle.aat_cuts.specs.Kinds.{IsVerdictOnLigature, ShowsLigature, state_of}
use Rattle.aat_cuts.specs.Labels.{AreLeast, IsMet, asked_by, before_action, before_push, label_in}
use Rattle.aat_cuts.specs.Reached.{AreFollowed, AreReached, IsCell, IsReached, is_labelled, width}
use Rattle.aat_cuts.specs.Settled.{IsClassOfGlyph}
use Rattle.aat_cuts.specs.declared.held.HeldStep.{HeldStep}
use Rattle.aat_cuts.specs.declared.labels.Asked.TheVariants.{Held, Nothing, Same, One}
use Rattle.aat_cuts.specs.declared.unsettled.Unsettled.{Unsettled}
use Rattle.aat_cuts.specs.declared.unsettled.Unsettled.TheVariants.{MissingEntry, MovesAtEnd, TakenForOne, TooFewComponents, UsedBeforeSet}
use Rattle.aat_cuts.specs.inside.HeldSteps.{AreEnough, IsLacking, differs_in_push, held_edge, held_step_of, here_edge}
use Rattle.aat_cuts.specs.inside.Steps.{AreClasses}
use Rattle.aat_cuts.proofs.Liveness.{and_false, and_true}
use Rattle.aat_cuts.proofs.Reaching.{followed_of, unmapped}
use Rattle.aat_cuts.proofs.Settling.{and_both, cell_of, complete_found, entry_high, is_not, of_same, or_second, other_of, same_by, same_of}

-- where a push and an action ask for so many, so many are enough
push_back : (p h : Bool) (r x : ℕ) → before_push p h r ≤ x → r ≤ held_behind_push p h x
push_back false h r x le = le
push_back true false r x le = omega arith
push_back true true r x le = grind (arith, nat_tests)

action_back : (t n y : ℕ) → before_action t n ≤ y → t ≤ y
action_back t n y le = grind (arith, nat_tests)

action_leaves : (t n y : ℕ) → before_action t n ≤ y → n + t ≤ y + cond (eqb t 0) 0 1
action_leaves t n y le = grind (arith, nat_tests)

min_back : (m x : ℕ) → x ≤ 64 → min 65 m ≤ x → m ≤ x
min_back m x few le = omega arith

-- and where so many are enough, no more are asked for
push_forth : (p h c : Bool) (r x : ℕ) → (h ≡ true → c ≡ true) → r ≤ held_behind_push p c x → before_push p h r ≤ x
push_forth false h c r x follows le = le
push_forth true false false r x follows le = omega arith
push_forth true false true r x follows le = omega arith
push_forth true true true r x follows le = grind (arith, nat_tests)
push_forth true true false r x follows le = let clash : false ≡ true = follows refl in cc

action_forth : (t n y : ℕ) → t ≤ y → n + t ≤ y + cond (eqb t 0) 0 1 → before_action t n ≤ y
action_forth t n y enough kept = grind (arith, nat_tests)

behind_few : (p h : Bool) (x : ℕ) → x ≤ 64 → held_behind_push p h x ≤ 65
behind_few false h x few = omega arith
behind_few true false x few = omega arith
behind_few true true x few = omega arith

some_by : (b : Bool) (n : ℕ) → 1 ≤ cond b (n + 1) 1
some_by true n = omega arith
some_by false n = omega arith

count_some : (actions : List ℕ) → 1 ≤ action_count actions
count_some [] = omega arith
count_some (a ∷ rest) = some_by (eqb (bit_and a 0x80000000) 0) (action_count rest)

-- an entry takes components where it has an action
leaves_one : (b : Bool) (n : ℕ) → 1 ≤ n → cond {A = ℕ} (eqb (cond b n 0) 0) 0 1 ≡ cond {A = ℕ} b 1 0
leaves_one true n some = grind (arith, nat_tests)
leaves_one false n some = refl

capped_leaves : (n : ℕ) → cond {A = ℕ} (eqb (min 66 n) 0) 0 1 ≡ cond {A = ℕ} (eqb n 0) 0 1
capped_leaves n = grind (arith, nat_tests)

if_here : (g s p : Bool) (m n : ℕ) → asked_by (if g && s then (if p then One else Same) else Nothing) m ≤ n
    → g ≡ true → s ≡ true → (p ≡ true) ⊎ (0 < m) → 0 < n
unfolding asked_by
if_here true true true m n le of_glyph stays some = omega (arith, le)
if_here true true false m n le of_glyph stays (inl pushes) = cc
if_here true true false m n le of_glyph stays (inr some) = omega (arith, le, some)
if_here true false p m n le of_glyph stays some = cc
if_here false s p m n le of_glyph stays some = cc

here_if : (g s p : Bool) (m n : ℕ) → (g ≡ true → s ≡ true → p ≡ true → 1 ≤ n)
    → (g ≡ true → s ≡ true → m ≤ n) → asked_by (if g && s then (if p then One else Same) else Nothing) m ≤ n
unfolding asked_by
here_if true true true m n one same = one refl refl refl
here_if true true false m n one same = same refl refl
here_if true false p m n one same = omega arith
here_if false s p m n one same = omega arith

if_held : (g p h : Bool) (t n x : ℕ) → asked_by (if g then Held p h t else Nothing) n ≤ x → g ≡ true
    → min 65 (before_push p h (before_action t n)) ≤ x
unfolding asked_by
if_held true p h t n x le of_glyph = le
if_held false p h t n x le of_glyph = cc

capped_under : (m x : ℕ) → (x ≤ 64 → m ≤ x) → (64 < x) ⊎ (x ≤ 64) → min 65 m ≤ x
capped_under m x le (inl more) = omega arith
capped_under m x le (inr few) = let asked = le few in omega (arith, asked)

held_if : (g p h : Bool) (t n x : ℕ) → (g ≡ true → x ≤ 64 → before_push p h (before_action t n) ≤ x)
    → asked_by (if g then Held p h t else Nothing) n ≤ x
unfolding asked_by
held_if true p h t n x le = capped_under (before_push p h (before_action t n)) x (le refl) (cases_lt 64 x)
held_if false p h t n x le = omega arith

one_where : Bool → ℕ
one_where b = cond b 1 0

one_here : (b : Bool) → b ≡ true → 1 ≤ one_where b
unfolding one_where
one_here true is = omega arith
one_here false is = cc

one_rises : (a b : Bool) → (a ≡ true → b ≡ true) → one_where a ≤ one_where b
unfolding one_where
one_rises false b follows = omega arith
one_rises true true follows = omega arith
one_rises true false follows = let clash : false ≡ true = follows refl in cc

one_holds : (b : Bool) (n : ℕ) → 0 < n → n ≤ one_where b → b ≡ true
unfolding one_where
one_holds true n some le = refl
one_holds false n some le = absurd (omega arith)

either_of : (a b : Bool) → a || b ≡ true → (a ≡ true) ⊎ (b ≡ true)
either_of true b is = inl refl
either_of false b is = inr is

few_by : (b : Bool) → cond {A = ℕ} b 0 64 ≤ 64
few_by true = omega arith
few_by false = omega arith

-- a state of a tidy labelling does not hold more than it may
over_never : (number : ℕ → ℕ) (state : ℕ) → number 0 ≡ 0 → number state ≤ 64 → most_held state < number state
    → (state ≡ 0) ⊎ (state ≢ 0) → ⊥
over_never number state first few over (inl same) =
    let none : most_held 0 < number 0 = subst (λ (n : ℕ). most_held n < number n) same over in
    absurd (omega (arith, none, first))
over_never number state first few over (inr other) =
    let above : 64 < number state = subst (λ (b : Bool). cond {A = ℕ} b 0 64 < number state) (ne_eqb state 0 other) over in
    absurd (omega (arith, above, few))

module _ (table : TableValue (GenericStateEntry ℕ)) (labels : List ℕ) (cells : List (Rule (GenericStateEntry ℕ)))
    (reached : AreReached table labels cells) (actions classes : List ℕ) (of_glyphs : AreClasses table classes)
    (steps : List HeldStep) (are : steps ≡ map (held_step_of table actions classes) cells) (here : List ℕ)
    (least_here : AreLeast (map here_edge steps) here) (held : List ℕ)
    (least_held : AreLeast (map (held_edge here) steps) held) where
  step_at : (P : HeldStep → Type 0) → All P steps → (c : Rule (GenericStateEntry ℕ)) → Contains cells c
      → P (held_step_of table actions classes c)
  step_at P all c is_cell = All-contains (λ d. P (held_step_of table actions classes d)) cells c (unmapped P (held_step_of table actions classes) cells (subst (λ (xs : List HeldStep). All P xs) are all)) is_cell

  -- what was met at an entry that is reached for a class of a glyph
  pub record Met (s k : ℕ) (e : GenericStateEntry ℕ) : Type 0 where
    pub n : ℕ
    pub here_met : IsMet (label_in here) (here_edge (held_step_of table actions classes (s, n, e)))
    pub held_met : IsMet (label_in held) (held_edge here (held_step_of table actions classes (s, n, e)))
    pub of_glyph : is_labelled classes n ≡ true
    pub first : entry_of table 0 k ≡ entry_of table 0 n
    pub is_cell : Contains cells (s, n, e)

  met_at : (s n : ℕ) (e : GenericStateEntry ℕ) (k : ℕ) → Contains cells (s, n, e) → is_labelled classes n ≡ true
      → entry_of table 0 k ≡ entry_of table 0 n → Met s k e
  met_at s n e k is_cell of_glyph first = record {
    n = n;
    here_met = step_at (λ t. IsMet (label_in here) (here_edge t)) (unmapped (IsMet (label_in here)) here_edge steps least_here.met) (s, n, e) is_cell;
    held_met = step_at (λ t. IsMet (label_in held) (held_edge here t)) (unmapped (IsMet (label_in held)) (held_edge here) steps least_held.met) (s, n, e) is_cell;
    of_glyph = of_glyph;
    first = first;
    is_cell = is_cell;
  }

  met_by : (s k : ℕ) (e : GenericStateEntry ℕ) → is_labelled labels s ≡ true → IsClassOfGlyph table k
      → entry_of table s k ≡ Some e → (k < width table) ⊎ (width table ≤ k) → Met s k e
  met_by s k e at class is (inl lt) = met_at s k e k (cell_of table labels cells reached s k e at lt is) (of_glyphs.each k class) refl
  met_by s k e at class is (inr le) =
      met_at s 1 e k (cell_of table labels cells reached s 1 e at (omega arith) (sym (entry_high table s k le) ∙ is)) of_glyphs.one (entry_high table 0 k le)

  met : (s k : ℕ) (e : GenericStateEntry ℕ) → is_labelled labels s ≡ true → IsClassOfGlyph table k
      → entry_of table s k ≡ Some e → Met s k e
  met s k e at class is = met_by s k e at class is (cases_lt k (width table))

  asked_here : (s k : ℕ) (e : GenericStateEntry ℕ) (one : Met s k e) → label_in held s ≤ 64
      → before_action (min 66 (taken_by actions e)) (label_in held e.new_state)
      ≤ held_behind_push (has_flag e 0x8000) (is_labelled here s) (label_in held s)
  asked_here s k e one few =
      let asked = if_held (is_labelled classes one.n) (has_flag e 0x8000) (is_labelled here s) (min 66 (taken_by actions e)) (label_in held e.new_state) (label_in held s) one.held_met one.of_glyph in
      push_back (has_flag e 0x8000) (is_labelled here s) _ (label_in held s) (min_back _ (label_in held s) few asked)

  -- the labels that were found suffice
  pub sufficient_found : IsSufficient table actions (is_labelled labels) (is_labelled here) (label_in held)
  sufficient_found = record {
    here = λ s k e at class is stays some.
        let one = met s k e at class is in
        let either = elim (either_of (has_flag e 0x8000) (is_labelled here s) some) as (λ _. (has_flag e 0x8000 ≡ true) ⊎ (0 < label_in here s)) [ inl pushes ↦ inl pushes | inr labelled ↦ inr (ltb-true 0 (label_in here s) labelled) ] in
        lt-ltb 0 (label_in here e.new_state) (if_here (is_labelled classes one.n) (not (goes_on e)) (has_flag e 0x8000) (label_in here s) (label_in here e.new_state) one.here_met one.of_glyph (ap not stays) either);
    enough = λ s k e at class is few.
        let one = met s k e at class is in
        let few_behind = behind_few (has_flag e 0x8000) (is_labelled here s) (label_in held s) few in
        let enough = action_back (min 66 (taken_by actions e)) (label_in held e.new_state) _ (asked_here s k e one few) in
        omega (arith, few_behind, enough);
    kept = λ s k e at class is few.
        let one = met s k e at class is in
        let few_behind = behind_few (has_flag e 0x8000) (is_labelled here s) (label_in held s) few in
        let enough = action_back (min 66 (taken_by actions e)) (label_in held e.new_state) _ (asked_here s k e one few) in
        let leaves = action_leaves (min 66 (taken_by actions e)) (label_in held e.new_state) _ (asked_here s k e one few) in
        let same = capped_leaves (taken_by actions e) ∙ leaves_one (has_flag e 0x2000) (action_count (drop e.extra actions)) (count_some (drop e.extra actions)) in
        omega (arith, few_behind, enough, leaves, same);
  }

  -- and they agree, where no entry is taken for another one
  pub agreeing_found : All (λ t. (t.is_of_glyph && t.differs && is_labelled held t.next) ≡ false) steps
      → IsLigatureAgreeing table (is_labelled labels) (label_in held)
  agreeing_found agreed = record {
    agreed = λ s k e f at class is is_first idle_e idle_f next on some.
        let one = met s k e at class is in
        same_by (has_flag e 0x8000) (has_flag f 0x8000) (λ other.
        let differs : differs_in_push e (entry_of table 0 one.n) ≡ true =
        rw (sym one.first ∙ is_first) (and_both _ _ (and_both _ _ (and_both _ _ (and_both _ _ (ap not idle_e) (ap not idle_f)) (eq-eqb e.new_state f.new_state next)) (same_of (goes_on e) (goes_on f) on)) other)
        in
        let taken = and_both _ _ (and_both _ _ one.of_glyph differs) (lt-ltb 0 (label_in held e.new_state) some) in
        let not_taken = step_at (λ t. (t.is_of_glyph && t.differs && is_labelled held t.next) ≡ false) agreed (s, one.n, e) one.is_cell in
        let clash : true ≡ false = sym taken ∙ not_taken in cc);
  }

  module _ (is_reached is_here : ℕ → Bool) (number : ℕ → ℕ) (followed : AreFollowed table is_reached)
      (sufficient : IsSufficient table actions is_reached is_here number) where
    each_cell : (P : HeldStep → Type 0)
        → ((c : Rule (GenericStateEntry ℕ)) → is_reached c.0 ≡ true → IsCell table c → P (held_step_of table actions classes c))
        → All P steps
    each_cell P by = subst (λ (xs : List HeldStep). All P xs) (sym are) (All-map P (held_step_of table actions classes) cells (λ i d within.
        let (labelled, cell) = reached.sound i d within in
        by (get_or cells i d) (reached.least (get_or cells i d).0 labelled is_reached followed) cell))

    here_least : (s : ℕ) → is_labelled here s ≡ true → is_here s ≡ true
    here_least s labelled =
        let label = λ (t : ℕ). one_where (is_here t) in
        let each = each_cell (λ t. IsMet label (here_edge t)) (λ c at cell.
        here_if (is_labelled classes c.1) (not (goes_on c.2)) (has_flag c.2 0x8000) (label c.0) (label c.2.new_state)
        (λ class stays pushes. one_here (is_here c.2.new_state) (sufficient.here c.0 c.1 c.2 at (of_glyphs.sound c.1 class) cell (is_not (goes_on c.2) stays) (rw pushes refl)))
        (λ class stays. one_rises (is_here c.0) (is_here c.2.new_state) (λ before. sufficient.here c.0 c.1 c.2 at (of_glyphs.sound c.1 class) cell (is_not (goes_on c.2) stays) (or_second (has_flag c.2 0x8000) (is_here c.0) before)))) in
        one_holds (is_here s) (label_in here s) (ltb-true 0 (label_in here s) labelled) (least_here.least label (All-map (IsMet label) here_edge steps each) s)

    -- the numbers that were found are the least ones that suffice
    pub held_least : (s : ℕ) → label_in held s ≤ number s
    held_least s =
        let each = each_cell (λ t. IsMet number (held_edge here t)) (λ c at cell.
        held_if (is_labelled classes c.1) (has_flag c.2 0x8000) (is_labelled here c.0) (min 66 (taken_by actions c.2)) (number c.2.new_state) (number c.0) (λ class few.
        let glyph = of_glyphs.sound c.1 class in
        let enough = sufficient.enough c.0 c.1 c.2 at glyph cell few in
        let kept = sufficient.kept c.0 c.1 c.2 at glyph cell few in
        let same = capped_leaves (taken_by actions c.2) ∙ leaves_one (has_flag c.2 0x2000) (action_count (drop c.2.extra actions)) (count_some (drop c.2.extra actions)) in
        push_forth (has_flag c.2 0x8000) (is_labelled here c.0) (is_here c.0) _ (number c.0) (here_least c.0) (action_forth (min 66 (taken_by actions c.2)) (number c.2.new_state) _ (omega (arith, enough)) (omega (arith, kept, same))))) in
        least_held.least number (All-map (IsMet number) (held_edge here) steps each) s

    module _ (agreeing : IsLigatureAgreeing table is_reached number) where
      agreed_by : (s k : ℕ) (e : GenericStateEntry ℕ) (first : Option (GenericStateEntry ℕ)) → is_reached s ≡ true
          → IsClassOfGlyph table k → entry_of table s k ≡ Some e → entry_of table 0 k ≡ first
          → differs_in_push e first ≡ true → 0 < number e.new_state → ⊥
      agreed_by s k e None at class is is_first other some = let clash : false ≡ true = other in cc
      agreed_by s k e (Some f) at class is is_first other some =
          let (rest, sets) = and_true _ _ other in
          let (more, on) = and_true _ _ rest in
          let (idle, next) = and_true _ _ more in
          let (idle_e, idle_f) = and_true _ _ idle in
          other_of (has_flag e 0x8000) (has_flag f 0x8000) sets (agreeing.agreed s k e f at class is is_first (is_not _ idle_e) (is_not _ idle_f) (eqb-true e.new_state f.new_state next) (of_same (goes_on e) (goes_on f) on) some)

      -- an entry that is taken for another one, where components are used behind it
      pub taken_never : (t : HeldStep) → Contains steps t → (t.is_of_glyph && t.differs && is_labelled held t.next) ≡ true → ⊥
      taken_never t here_step both =
          let none = each_cell (λ u. (u.is_of_glyph && u.differs && is_labelled held u.next) ≡ true → ⊥) (λ c at cell taken.
          let (pair, used) = and_true _ _ taken in
          let (class, differ) = and_true _ _ pair in
          let some : 0 < number c.2.new_state = omega (arith, held_least c.2.new_state, ltb-true 0 (label_in held c.2.new_state) used) in
          agreed_by c.0 c.1 c.2 (entry_of table 0 c.1) at (of_glyphs.sound c.1 class) cell refl differ some) in
          All-contains (λ u. (u.is_of_glyph && u.differs && is_labelled held u.next) ≡ true → ⊥) steps t none here_step both

  -- the machine is settled where the numbers suit
  pub settled_by : AreEnough labels held steps → IsLigatureSettled table actions
  settled_by enough =
      let few : (s : ℕ) → is_labelled labels s ≡ true → label_in held s ≤ 64 = λ s at. elim (cases_lt s 65536) [
        | inl lt ↦ ltb-false 64 (label_in held s) (and_false (is_labelled labels s) (ltb 64 (label_in held s)) (enough.few s lt) at)
        | inr le ↦ let none : label_in held s ≡ 0 = get_or_past held s 0 (omega (arith, least_held.are.long)) in omega (arith, none)
      ] in
      (is_labelled labels, complete_found table labels cells reached, is_labelled here, label_in held, record { first = enough.first; few = few; sufficient = sufficient_found }, agreeing_found enough.agreed)

  -- an entry whose step is listed
  abbrev pub HasCell : HeldStep → Type 0
  HasCell t =
      (c : Rule (GenericStateEntry ℕ)) × (t ≡ held_step_of table actions classes c) × IsReached table c.0 × IsCell table c

  cell_at : (t : HeldStep) → Contains steps t → HasCell t
  cell_at t at = All-contains HasCell steps t (subst (λ (xs : List HeldStep). All HasCell xs) (sym are) (All-map HasCell (held_step_of table actions classes) cells (λ i d within.
      let (labelled, cell) = reached.sound i d within in
      (get_or cells i d, refl, reached.least (get_or cells i d).0 labelled, cell)))) at

  -- a label above a number is so in each labelling that suffices
  over_shown : (state n : ℕ) → n < label_in held state → HoldsOver table actions state n
  over_shown state n over is_reached is_here number followed sufficient =
      omega (arith, over, held_least is_reached is_here number followed sufficient state)

  taken_of : (s k : ℕ) (e : GenericStateEntry ℕ) (first : Option (GenericStateEntry ℕ)) → entry_of table s k ≡ Some e
      → entry_of table 0 k ≡ first → differs_in_push e first ≡ true → HoldsOver table actions e.new_state 0
      → IsClassOfGlyph table k → IsPushTakenAt table actions s k
  taken_of s k e None is is_first other some class = let clash : false ≡ true = other in cc
  taken_of s k e (Some f) is is_first other some class =
      let (rest, sets) = and_true _ _ other in
      let (more, on) = and_true _ _ rest in
      let (idle, next) = and_true _ _ more in
      let (idle_e, idle_f) = and_true _ _ idle in
      (e, f, is, is_first, is_not _ idle_e, is_not _ idle_f, eqb-true e.new_state f.new_state next, of_same (goes_on e) (goes_on f) on, other_of (has_flag e 0x8000) (has_flag f 0x8000) sets, some, class)

  -- an entry that is taken for that of state 0 is so
  taken_shown : (state class : ℕ) (t : HeldStep) → Contains steps t → t.state ≡ state → t.class ≡ class
      → (t.is_of_glyph && t.differs && is_labelled held t.next) ≡ true
      → IsReached table state × IsPushTakenAt table actions state class
  taken_shown state class t at is_state is_class taken =
      let (c, is, here, cell) = cell_at t at in
      let of_state : c.0 ≡ state = ap (λ (u : HeldStep). u.state) (sym is) ∙ is_state in
      let of_class : c.1 ≡ class = ap (λ (u : HeldStep). u.class) (sym is) ∙ is_class in
      let (pair, used) = and_true _ _ taken in
      let (of_glyph, other) = and_true _ _ pair in
      let differ = ap (λ (u : HeldStep). u.differs) (sym is) ∙ other in
      let some : 0 < label_in held c.2.new_state = subst (λ (u : HeldStep). 0 < label_in held u.next) is (ltb-true 0 (label_in held t.next) used) in
      let labelled : is_labelled classes c.1 ≡ true = ap (λ (u : HeldStep). u.is_of_glyph) (sym is) ∙ of_glyph in
      let shown = taken_of c.0 c.1 c.2 (entry_of table 0 c.1) cell refl differ (over_shown c.2.new_state 0 some) (of_glyphs.sound c.1 labelled) in
      (subst (IsReached table) of_state here, subst (λ (n : ℕ). IsPushTakenAt table actions n class) of_state (subst (λ (n : ℕ). IsPushTakenAt table actions c.0 n) of_class shown))

  -- and no labelling of a reached state is tidy
  over_unsettled : (state : ℕ) → IsReached table state → HoldsOver table actions state (most_held state) → IsLigatureSettled table actions → ⊥
  over_unsettled state at over (is_reached, complete, is_here, number, tidy, agreeing) =
      let followed = followed_of table is_reached complete in
      over_never number state tidy.first (tidy.few state (at is_reached followed)) (over is_reached is_here number followed tidy.sufficient) (cases_eq state 0)

  -- a state with a label that is too great
  over_by : (state : ℕ) → IsReached table state → most_held state < label_in held state
      → (IsLigatureSettled table actions → ⊥) × IsReached table state × HoldsOver table actions state (most_held state)
  over_by state at over =
      let shown = over_shown state (most_held state) over in (over_unsettled state at shown, at, shown)

  -- the machine is not settled where the numbers do not suit
  pub lacking_by : (reason : Unsettled) → IsLacking labels held steps reason
      → (IsLigatureSettled table actions → ⊥) × IsReached table (state_of reason) × ShowsLigature table actions reason
  lacking_by (MissingEntry state class) lacking = absurd lacking
  lacking_by (UsedBeforeSet r state class) lacking = absurd lacking
  lacking_by (TakenForOne r state class) (is, t, at, is_state, is_class, taken) =
      let (here, shown) = taken_shown state class t at is_state is_class taken in
      (λ (is_reached, complete, is_here, number, tidy, agreeing). taken_never is_reached is_here number (followed_of table is_reached complete) tidy.sufficient agreeing t at taken, here, (is, shown))
  lacking_by (MovesAtEnd state) lacking = absurd lacking
  lacking_by (TooFewComponents state) (inl (zero_state, some)) =
      over_by state (subst (IsReached table) (sym zero_state) (λ states followed. followed.first)) (subst (λ (n : ℕ). most_held n < label_in held n) (sym zero_state) some)
  lacking_by (TooFewComponents state) (inr over) =
      let (at, above) = and_true (is_labelled labels state) (ltb 64 (label_in held state)) over in
      over_by state (reached.least state at) (omega (arith, few_by (eqb state 0), ltb-true 64 (label_in held state) above))

  -- the verdict by what was found of the numbers
  pub verdict_by : (found : Option Unsettled) → IfNone found (AreEnough labels held steps)
      → IfSome found (IsLacking labels held steps) → IsVerdictOnLigature table actions found
  verdict_by None enough lacking = settled_by enough
  verdict_by (Some reason) enough lacking = lacking_by reason lacking
