-- How many times edges are looked at.
use Rattle.std.proofs.Common.{◌≡◌, ◌≢◌, ℕ, suc, zero, ◌+◌, ◌-◌, ◌*◌, ◌++◌, [], ◌∷◌, ◌<◌, ◌≤◌, ◌⊎◌, inl, inr, cond, eqb, List, length, get_or, set, take, sym, ap, ◌∙◌, arith, get_or-set_other, get_or-set_same}
use Rattle.std.specs.List.{All}
use Rattle.std.proofs.lemmas.Bool.{cases_eq, eq-eqb, ne_eqb}
use Rattle.std.proofs.lemmas.List.{take_all}
use Rattle.std.proofs.lemmas.List.Sums.{count_by_more_no, count_by_more_yes, sum_by-cons, sum_by-le, sum_by_push}
use Rattle.aat_cuts.specs.Labels.{AreLabels, label_in}
use Rattle.aat_cuts.specs.inside.Waiting.{AreEdgesPaid, IsLinkTo, count_to, count_waiting, label_sum}
use Rattle.aat_cuts.specs.declared.labels.Edge.{Edge}

module _ (labels : List ℕ) (state asked : ℕ) (within : state < length labels) (rises : label_in labels state < asked) where
  abbrev risen : List ℕ
  risen = set labels state asked

  rises_by : (e : Edge) → (e.to ≡ state) ⊎ (e.to ≢ state)
      → label_in labels e.to + cond (eqb e.to state) 1 0 ≤ label_in risen e.to
  rises_by e (inl same) =
      rw (eq-eqb e.to state same) (omega (arith, ap (label_in labels) same, ap (label_in risen) same, get_or-set_same labels state asked 0 within, rises))
  rises_by e (inr other) =
      rw (ne_eqb e.to state other) (omega (arith, get_or-set_other labels state e.to asked 0 other))

  sum_rises : (edges : List Edge) → label_sum edges labels + count_to edges state ≤ label_sum edges risen
  sum_rises [] = omega arith
  sum_rises (e ∷ es) =
      omega (arith, sum_by-cons (λ (f : Edge). label_in labels f.to) e es, sum_by-cons (λ (f : Edge). label_in risen f.to) e es, sum_by-cons (λ (f : Edge). cond (eqb f.to state) 1 0) e es, sum_rises es, rises_by e (cases_eq e.to state))

  -- the edges that look at a state that came to wait are paid for by its label
  pub looks_here : (waiting waits : List ℕ) → waits ≡ waiting ++ state ∷ [] → AreEdgesPaid labels waiting risen waits
  looks_here waiting waits pushed edges =
      omega (arith, ap (count_waiting edges) pushed, sum_by_push (count_to edges) waiting state, sum_rises edges)

-- labels add up to so much at most
pub label_sum_most : (edges : List Edge) (labels : List ℕ) → AreLabels labels → label_sum edges labels ≤ length edges * 65
label_sum_most edges labels are =
    let low : All (λ (e : Edge). label_in labels e.to ≤ 65) edges = λ i d within. are.low (get_or edges i d).to in
    sum_by-le (λ (e : Edge). label_in labels e.to) 65 edges low

module _ (edges : List Edge) (state : ℕ) (d : Edge) where
  -- places between which no edge looks at a state
  none_more : (next m : ℕ) → next + m ≤ length edges
      → ((i : ℕ) → next ≤ i → i < next + m → (get_or edges i d).to ≢ state)
      → count_to (take (next + m) edges) state ≡ count_to (take next edges) state
  none_more next zero within none =
      let place : next + zero ≡ next = omega arith in
      ap (λ (n : ℕ). count_to (take n edges) state) place
  none_more next (suc m) within none =
      let place : next + suc m ≡ (next + m) + 1 = omega arith in
      let other : (get_or edges (next + m) d).to ≢ state = none (next + m) (omega arith) (omega arith) in
      let last = count_by_more_no (λ (e : Edge). eqb e.to state) edges (next + m) d (omega (arith, within)) (ne_eqb (get_or edges (next + m) d).to state other) in
      ap (λ (n : ℕ). count_to (take n edges) state) place ∙ last ∙ none_more next m (omega (arith, within)) (λ i low below. none i low (omega (arith, below)))

  -- from a place back to the link before it
  pub none_between : (place link : ℕ) → place ≤ length edges → IsLinkTo edges place state link
      → count_to (take place edges) state ≡ count_to (take link edges) state
  none_between place link within is =
      let split : place ≡ link + (place - link) = omega (arith, is.within) in
      ap (λ (n : ℕ). count_to (take n edges) state) split ∙ none_more link (place - link) (omega (arith, is.within, within)) (λ i low below. is.none i d low (omega (arith, below, split)))

  -- the edge at a place, and those before it
  pub count_more : (place link after : ℕ) → place < length edges → (get_or edges place d).to ≡ state
      → IsLinkTo edges place state link → after ≡ place + 1
      → count_to (take after edges) state ≡ count_to (take link edges) state + 1
  count_more place link after within at is next =
      let yes = count_by_more_yes (λ (e : Edge). eqb e.to state) edges place d within (eq-eqb (get_or edges place d).to state at) in
      let before : count_to (take place edges) state ≡ count_to (take link edges) state = none_between place link (omega arith) is in
      ap (λ (n : ℕ). count_to (take n edges) state) next ∙ yes ∙ ap (λ (n : ℕ). n + 1) before

  -- all edges
  pub count_all : (link : ℕ) → IsLinkTo edges (length edges) state link
      → count_to (take link edges) state ≡ count_to edges state
  count_all link is =
      let all : take (length edges) edges ≡ edges = take_all (length edges) edges (omega arith) in
      sym (none_between (length edges) link (omega arith) is) ∙ ap (λ (es : List Edge). count_to es state) all

module _ (edges : List Edge) (labels waiting rest : List ℕ) (looks count state : ℕ)
    (before : looks + count_waiting edges waiting ≤ length edges + label_sum edges labels)
    (popped : waiting ≡ rest ++ state ∷ []) (counted : count ≡ count_to edges state) where
  split : count_waiting edges waiting ≡ count_waiting edges rest + count_to edges state
  split = ap (count_waiting edges) popped ∙ sum_by_push (count_to edges) rest state

  -- the edges that look at one state more
  pub looks_more : (now waits : List ℕ) → AreEdgesPaid labels rest now waits
      → looks + count + count_waiting edges waits ≤ length edges + label_sum edges now
  looks_more now waits paid = omega (arith, before, split, counted, paid edges)

  pub looks_most : AreLabels labels → looks + count ≤ 66 * length edges
  looks_most are = omega (arith, before, split, counted, label_sum_most edges labels are)
