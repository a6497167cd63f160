-- Where a register is live.
use Rattle.std.proofs.Common.{◌≡◌, ℕ, ◌<◌, ◌≤◌, Bool, true, false, cond, List, [], ◌∷◌, ◌++◌, ◌&&◌, map, length, get_or, sym, ap, ◌∙◌, refl, ltb, arith, if◌then◌else◌}
use Rattle.std.specs.List.{All, Contains}
use Rattle.std.proofs.lemmas.Bool.{ltb-true, lt-ltb}
use Rattle.std.proofs.lemmas.List.Elements.{All-append, All-cons, All-contains, All-map, All-nil, All-weaker, Contains-push}
use Rattle.aat_cuts.specs.Labels.{AreLeast, IsMet, asked_by, label_in}
use Rattle.aat_cuts.specs.Reached.{is_labelled, start_edge}
use Rattle.aat_cuts.specs.declared.labels.Asked.TheVariants.{Nothing, Same, One}
use Rattle.aat_cuts.specs.declared.steps.Step.{Step}
use Rattle.aat_cuts.specs.inside.Steps.{AreFit, AreStepsBefore, AreStepsUnset, IsFit, live_edge, unset_edge}
use Rattle.aat_cuts.proofs.Reaching.{front_all, unmapped}

asked_if : (b : Bool) (m n : ℕ) → (b ≡ true → m ≤ n) → asked_by (if b then Same else Nothing) m ≤ n
unfolding asked_by
asked_if true m n le = le refl
asked_if false m n le = omega arith

if_asked : (b : Bool) (m n : ℕ) → asked_by (if b then Same else Nothing) m ≤ n → b ≡ true → m ≤ n
unfolding asked_by
if_asked true m n le is = le
if_asked false m n le is = cc

asked_live :
    (u k : Bool) (m n : ℕ) → (u ≡ true → 1 ≤ n) → (k ≡ true → m ≤ n)
    → asked_by (if u then One else (if k then Same else Nothing)) m ≤ n
unfolding asked_by
asked_live true k m n one le = one refl
asked_live false k m n one le = asked_if k m n le

live_asked_one : (u k : Bool) (m n : ℕ) → asked_by (if u then One else (if k then Same else Nothing)) m ≤ n → u ≡ true → 1 ≤ n
unfolding asked_by
live_asked_one true k m n le is = le
live_asked_one false k m n le is = cc

live_asked :
    (u k : Bool) (m n : ℕ) → asked_by (if u then One else (if k then Same else Nothing)) m ≤ n → k ≡ true → 0 < m → 0 < n
unfolding asked_by
live_asked true k m n le is some = omega (arith, le)
live_asked false k m n le is some = omega (arith, some, if_asked k m n le is)

-- a label of 1 where a test passes, and one where it fails
one_where : Bool → ℕ
one_where b = cond b 1 0

one_unless : Bool → ℕ
one_unless b = cond b 0 1

where_rises : (a b : Bool) → (a ≡ true → b ≡ true) → one_where a ≤ one_where b
unfolding one_where
where_rises false b follows = omega arith
where_rises true true follows = omega arith
where_rises true false follows = let clash : false ≡ true = follows refl in cc

unless_rises : (a b : Bool) → (b ≡ true → a ≡ true) → one_unless a ≤ one_unless b
unfolding one_unless
unless_rises true b follows = omega arith
unless_rises false false follows = omega arith
unless_rises false true follows = let clash : false ≡ true = follows refl in cc

one_here : (b : Bool) → b ≡ true → 1 ≤ one_where b
unfolding one_where
one_here true is = omega arith
one_here false is = cc

one_not : (b : Bool) → b ≡ false → 1 ≤ one_unless b
unfolding one_unless
one_not false is = omega arith
one_not true is = cc

holds_above : (b : Bool) (n : ℕ) → 0 < n → n ≤ one_where b → b ≡ true
unfolding one_where
holds_above true n some le = refl
holds_above false n some le = absurd (omega arith)

fails_above : (b : Bool) (n : ℕ) → 0 < n → n ≤ one_unless b → b ≡ false
unfolding one_unless
fails_above false n some le = refl
fails_above true n some le = absurd (omega arith)

unlabelled : (n : ℕ) (b : Bool) → b ≡ true → n ≤ one_unless b → ltb 0 n ≡ false
unfolding one_unless
unlabelled n true is le = let none : n ≡ 0 = omega arith in ap (ltb 0) none
unlabelled n false is le = cc

not_true : (b : Bool) → (b ≡ true → ⊥) → b ≡ false
not_true false not = refl
not_true true not = absurd (not refl)

module _ (steps : List Step) (unset : List ℕ) (least : AreLeast (map unset_edge steps ++ start_edge ∷ []) unset) where
  with_start : (label : ℕ → ℕ) → All (IsMet label) (map unset_edge steps) → 1 ≤ label 0
      → All (IsMet label) (map unset_edge steps ++ start_edge ∷ [])
  unfolding asked_by
  with_start label met one = All-append (IsMet label) (map unset_edge steps) (start_edge ∷ []) met (All-cons (IsMet label) start_edge [] one (All-nil (IsMet label)))

  unset_start : 1 ≤ label_in unset 0
  unfolding asked_by
  unset_start = All-contains (IsMet (label_in unset)) (map unset_edge steps ++ start_edge ∷ []) start_edge least.met (Contains-push (map unset_edge steps) start_edge)

  unset_met : All (λ s. IsMet (label_in unset) (unset_edge s)) steps
  unset_met = unmapped (IsMet (label_in unset)) unset_edge steps (front_all (IsMet (label_in unset)) (map unset_edge steps) (start_edge ∷ []) least.met)

  -- where the register may not be set, it is not live
  never_live : (is_live : ℕ → Bool) → AreFit steps is_live → (state : ℕ) → is_labelled unset state ≡ true
      → is_live state ≡ false
  never_live is_live fit state here =
      let label = λ (s : ℕ). one_unless (is_live s) in
      let met = All-map (IsMet label) unset_edge steps (All-weaker (IsFit is_live) (λ s. IsMet label (unset_edge s)) (λ s one. asked_if s.keeps (label s.state) (label s.next) (λ keeps. unless_rises (is_live s.state) (is_live s.next) (one.kept keeps))) steps fit.each) in
      fails_above (is_live state) (label_in unset state) (ltb-true 0 (label_in unset state) here) (least.least label (with_start label met (one_not (is_live 0) fit.first)) state)

  -- a run may come there without setting it
  pub come_unset : (state : ℕ) → is_labelled unset state ≡ true → (states : ℕ → Bool) → AreStepsUnset steps states
      → states state ≡ true
  come_unset state here states are =
      let label = λ (s : ℕ). one_where (states s) in
      let met = All-map (IsMet label) unset_edge steps (All-weaker (λ s. s.keeps ≡ true → states s.state ≡ true → states s.next ≡ true) (λ s. IsMet label (unset_edge s)) (λ s one. asked_if s.keeps (label s.state) (label s.next) (λ keeps. where_rises (states s.state) (states s.next) (one keeps))) steps are.next) in
      holds_above (states state) (label_in unset state) (ltb-true 0 (label_in unset state) here) (least.least label (with_start label met (one_here (states 0) are.first)) state)

  -- an entry that uses the register where it may not be set
  pub never_fit : (s : Step) → Contains steps s → s.uses ≡ true → is_labelled unset s.state ≡ true
      → (is_live : ℕ → Bool) → AreFit steps is_live → ⊥
  never_fit s here uses labelled is_live fit =
      let live = (All-contains (IsFit is_live) steps s fit.each here).used uses in
      let clash : true ≡ false = sym live ∙ never_live is_live fit s.state labelled in cc

  module _ (live : List ℕ) (least_live : AreLeast (map live_edge steps) live)
      (set : All (λ s. s.uses ≡ true → is_labelled unset s.state ≡ false) steps) where
    live_met : All (λ s. IsMet (label_in live) (live_edge s)) steps
    live_met = unmapped (IsMet (label_in live)) live_edge steps least_live.met

    -- in state 0 the register may not be set, and so it is not live there
    first_not_live : is_labelled live 0 ≡ false
    first_not_live =
        let label = λ (s : ℕ). one_unless (is_labelled unset s) in
        let step = λ (i : ℕ) (d : Step) (within : i < length steps).
        let s = get_or steps i d in
        asked_live s.uses s.keeps (label s.next) (label s.state)
        (λ uses. one_not (is_labelled unset s.state) (set i d within uses))
        (λ keeps. unless_rises (is_labelled unset s.next) (is_labelled unset s.state) (λ here. lt-ltb 0 (label_in unset s.next) (omega (arith, ltb-true 0 (label_in unset s.state) here, if_asked s.keeps (label_in unset s.state) (label_in unset s.next) (unset_met i d within) keeps))))
        in
        let met = All-map (IsMet label) live_edge steps step in
        unlabelled (label_in live 0) (is_labelled unset 0) (lt-ltb 0 (label_in unset 0) unset_start) (least_live.least label met 0)

    -- the labelling that was found goes with each entry
    pub found_fit : All (λ s. s.differs ≡ true → is_labelled live s.next ≡ false) steps → AreFit steps (is_labelled live)
    found_fit agreed = record {
      first = first_not_live;
      each = λ i d within.
          let s = get_or steps i d in
          record {
            used = λ uses. lt-ltb 0 (label_in live s.state) (live_asked_one s.uses s.keeps (label_in live s.next) (label_in live s.state) (live_met i d within) uses);
            kept = λ keeps here. lt-ltb 0 (label_in live s.state) (live_asked s.uses s.keeps (label_in live s.next) (label_in live s.state) (live_met i d within) keeps (ltb-true 0 (label_in live s.next) here));
            agreed = agreed i d within;
          };
    }

-- an entry that is taken for another one where the register is used behind it
pub never_agreed : (steps : List Step) (live : List ℕ) → AreLeast (map live_edge steps) live → (s : Step) → Contains steps s
    → s.differs ≡ true → is_labelled live s.next ≡ true → (is_live : ℕ → Bool) → AreFit steps is_live → ⊥
never_agreed steps live least s here differs labelled is_live fit =
    let label = λ (state : ℕ). one_where (is_live state) in
    let met = All-map (IsMet label) live_edge steps (All-weaker (IsFit is_live) (λ t. IsMet label (live_edge t)) (λ t one. asked_live t.uses t.keeps (label t.next) (label t.state) (λ uses. one_here (is_live t.state) (one.used uses)) (λ keeps. where_rises (is_live t.next) (is_live t.state) (one.kept keeps))) steps fit.each) in
    let is : is_live s.next ≡ true = holds_above (is_live s.next) (label_in live s.next) (ltb-true 0 (label_in live s.next) labelled) (least.least label met s.next) in
    let clash : true ≡ false = sym is ∙ (All-contains (IsFit is_live) steps s fit.each here).agreed differs in cc

-- where a label says that the register may be used, it may
pub used_behind : (steps : List Step) (live : List ℕ) → AreLeast (map live_edge steps) live → (state : ℕ)
    → is_labelled live state ≡ true → (states : ℕ → Bool) → AreStepsBefore steps states → states state ≡ true
used_behind steps live least state here states are =
    let label = λ (s : ℕ). one_where (states s) in
    let met = All-map (IsMet label) live_edge steps (λ i d within. asked_live (get_or steps i d).uses (get_or steps i d).keeps (label (get_or steps i d).next) (label (get_or steps i d).state) (λ uses. one_here (states (get_or steps i d).state) (are.used i d within uses)) (λ keeps. where_rises (states (get_or steps i d).next) (states (get_or steps i d).state) (are.before i d within keeps))) in
    holds_above (states state) (label_in live state) (ltb-true 0 (label_in live state) here) (least.least label met state)

pub and_true : (a b : Bool) → a && b ≡ true → (a ≡ true) × (b ≡ true)
and_true true b is = (refl, is)
and_true false b is = cc

pub and_false : (a b : Bool) → a && b ≡ false → a ≡ true → b ≡ false
and_false true b is true_is = is
and_false false b is true_is = cc
