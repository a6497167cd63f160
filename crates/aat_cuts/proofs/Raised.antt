-- Labels that are raised.
use Rattle.std.proofs.Common.{◌≡◌, ℕ, ◌+◌, ◌*◌, ◌||◌, ◌++◌, [], ◌∷◌, refl, take, ◌<◌, ◌≤◌, ◌≢◌, ◌⊎◌, inl, inr, Bool, true, false, min, List, length, get_or, set, sum, sym, ap, ◌∙◌, subst, arith, get_or-set_other, get_or-set_same}
use Rattle.std.specs.List.{All, Contains}
use Rattle.std.proofs.lemmas.Bool.{cases_eq}
use Rattle.std.proofs.lemmas.List.{length_push, take-append-le, take_all}
use Rattle.std.proofs.lemmas.List.Elements.{All-from_get_or, All-more, All-weaker, Contains-append_left, Contains-push}
use Rattle.std.proofs.lemmas.List.Sums.{sum_by-le, sum_by-set}
use Rattle.std.proofs.lemmas.Bool.Decides.{nat_tests}
use Rattle.aat_cuts.specs.Labels.{AreBelow, AreLabels, IsMet, asked_by, before_action, before_push, label_in}
use Rattle.aat_cuts.specs.inside.Waiting.{ArePaid, IsMetOrWaits, KeepsMet}
use Rattle.aat_cuts.specs.declared.labels.Asked.{Asked}
use Rattle.aat_cuts.specs.declared.labels.Asked.TheVariants.{Nothing, Same, One, Held}
use Rattle.aat_cuts.specs.declared.labels.Edge.{Edge}

push_rises : (pushes here : Bool) (m n : ℕ) → m ≤ n → before_push pushes here m ≤ before_push pushes here n
push_rises false here m n le = le
push_rises true false m n le = omega arith
push_rises true true m n le = grind (arith, nat_tests)

action_rises : (taken m n : ℕ) → m ≤ n → before_action taken m ≤ before_action taken n
action_rises taken m n le = grind (arith, nat_tests)

min_rises : (m n : ℕ) → m ≤ n → min 65 m ≤ min 65 n
min_rises m n le = omega arith

-- what an edge asks for rises with the label that it looks at
pub asked_rises : (a : Asked) (m n : ℕ) → m ≤ n → asked_by a m ≤ asked_by a n
unfolding asked_by
asked_rises Nothing m n le = omega arith
asked_rises Same m n le = le
asked_rises One m n le = omega arith
asked_rises (Held pushes here taken) m n le =
    min_rises _ _ (push_rises pushes here _ _ (action_rises taken m n le))

module _ (labels : List ℕ) (edge : Edge) (asked : ℕ) where
  label_at : (label : ℕ → ℕ) (state : ℕ) → AreBelow labels label → edge.from < length labels
      → asked ≤ label edge.from → (state ≡ edge.from) ⊎ (state ≢ edge.from)
      → label_in (set labels edge.from asked) state ≤ label state
  label_at label state below within le (inl same) =
      let at : get_or (set labels edge.from asked) state 0 ≡ asked =
      ap (λ i. get_or (set labels edge.from asked) i 0) same ∙ get_or-set_same labels edge.from asked 0 within in
      omega (arith, at, le, ap label same)
  label_at label state below within le (inr other) =
      let at : get_or (set labels edge.from asked) state 0 ≡ get_or labels state 0 =
      get_or-set_other labels edge.from state asked 0 other in
      omega (arith, at, below state)

  -- a label that rises to what is asked stays below labels that meet the edge
  pub below_raised : (label : ℕ → ℕ) → AreBelow labels label → IsMet label edge → edge.from < length labels
      → asked ≡ asked_by edge.asked (label_in labels edge.to) → AreBelow (set labels edge.from asked) label
  below_raised label below met within is state =
      let rises = asked_rises edge.asked (label_in labels edge.to) (label edge.to) (below edge.to) in
      let le : asked ≤ label edge.from = omega (arith, is, rises, met) in
      label_at label state below within le (cases_eq state edge.from)

-- a label that rises to what an edge asks for, and its state that waits from then on
module _ (labels waiting waits : List ℕ) (edge : Edge) (asked : ℕ) (within : edge.from < length labels)
    (is : asked ≡ asked_by edge.asked (label_in labels edge.to)) (rises : label_in labels edge.from < asked)
    (pushed : waits ≡ waiting ++ edge.from ∷ []) where
  abbrev risen : List ℕ
  risen = set labels edge.from asked

  raised_at : label_in risen edge.from ≡ asked
  raised_at = get_or-set_same labels edge.from asked 0 within

  -- each other label stays
  other_at : (state : ℕ) → state ≢ edge.from → label_in risen state ≡ label_in labels state
  other_at state other = get_or-set_other labels edge.from state asked 0 other

  no_lower : (state : ℕ) → (state ≡ edge.from) ⊎ (state ≢ edge.from) → label_in labels state ≤ label_in risen state
  no_lower state (inl same) =
      omega (arith, ap (label_in labels) same, ap (label_in risen) same, raised_at, rises)
  no_lower state (inr other) = omega (arith, other_at state other)

  waits_at : (state : ℕ) → state ≡ edge.from → Contains waits state
  waits_at state same =
      subst (λ (l : List ℕ). Contains l state) (sym pushed) (subst (λ (s : ℕ). Contains (waiting ++ edge.from ∷ []) s) (sym same) (Contains-push waiting edge.from))

  still_by : (e : Edge) → (e.to ≡ edge.from) ⊎ (e.to ≢ edge.from) → IsMet (label_in labels) e
      → IsMetOrWaits risen waits e
  still_by e (inl same) met = inr (waits_at e.to same)
  still_by e (inr other) met =
      let asks : asked_by e.asked (label_in risen e.to) ≡ asked_by e.asked (label_in labels e.to) = ap (asked_by e.asked) (other_at e.to other) in
      inl (omega (arith, asks, met, no_lower e.from (cases_eq e.from edge.from)))

  -- an edge that is met or waits still does
  pub still_met : KeepsMet labels waiting risen waits
  still_met e (inl met) = still_by e (cases_eq e.to edge.from) met
  still_met e (inr here) =
      inr (subst (λ (l : List ℕ). Contains l e.to) (sym pushed) (Contains-append_left waiting (edge.from ∷ []) e.to here))

  here_by : (edge.to ≡ edge.from) ⊎ (edge.to ≢ edge.from) → IsMetOrWaits risen waits edge
  here_by (inl same) = inr (waits_at edge.to same)
  here_by (inr other) =
      let asks : asked_by edge.asked (label_in risen edge.to) ≡ asked_by edge.asked (label_in labels edge.to) = ap (asked_by edge.asked) (other_at edge.to other) in
      inl (omega (arith, asks, is, raised_at))

  -- and so does the edge
  pub here_met : IsMetOrWaits risen waits edge
  here_met = here_by (cases_eq edge.to edge.from)

  -- the state that waits is paid for by the label that rose
  pub paid_here : ArePaid labels waiting risen waits
  paid_here =
      let long : length waits ≡ length waiting + 1 = ap length pushed ∙ length_push waiting edge.from in
      omega (arith, long, sum_by-set (λ x. x) labels edge.from asked 0 within, rises)

module _ (edges : List Edge) (i : ℕ) (within : i < length edges) (d : Edge) (old waited new waits : List ℕ) where
  -- one edge more is met or waits
  pub met_more : KeepsMet old waited new waits → All (IsMetOrWaits old waited) (take i edges) → IsMetOrWaits new waits (get_or edges i d)
      → All (IsMetOrWaits new waits) (take (i + 1) edges)
  met_more kept before here =
      All-more (IsMetOrWaits new waits) edges i d within (All-weaker (IsMetOrWaits old waited) (IsMetOrWaits new waits) kept (take i edges) before) here

no_state : (state : ℕ) → Contains [] state → ⊥
no_state state (k, within, is) = absurd (omega (arith, within))

-- where no state waits, an edge is met
pub met_by : (labels waiting : List ℕ) (e : Edge) → waiting ≡ [] → IsMetOrWaits labels waiting e
    → IsMet (label_in labels) e
met_by labels waiting e none (inl met) = met
met_by labels waiting e none (inr here) = absurd (no_state e.to (subst (λ (l : List ℕ). Contains l e.to) none here))

-- the sum of labels is bounded
pub labels_sum : (labels : List ℕ) → AreLabels labels → sum labels ≤ 65536 * 65
labels_sum labels are =
    let low : All (λ x. x ≤ 65) labels = All-from_get_or (λ x. x ≤ 65) labels 0 (λ i within. are.low i) in
    let most : sum labels ≤ length labels * 65 = sum_by-le (λ x. x) 65 labels low in
    subst (λ (n : ℕ). sum labels ≤ n * 65) are.long most

pub or_true : (a b : Bool) → a || b ≡ true → (a ≡ true) ⊎ (b ≡ true)
or_true false b is = inr is
or_true true b is = inl refl

-- what holds of the elements that are written back into a vector of their number holds of the vector
pub written_back : (P : List ℕ → Type 0) (count : ℕ) (new rest : List ℕ) → length new ≡ count → P new
    → P (take count (new ++ rest))
written_back P count new rest long holds =
    let same : take count (new ++ rest) ≡ new = take-append-le count new rest (omega arith) ∙ take_all count new (omega arith) in
    subst P (sym same) holds
