-- Links from edge to edge.
use Rattle.std.proofs.Common.{◌≡◌, ◌≢◌, ℕ, ◌+◌, ◌++◌, [], ◌∷◌, ◌<◌, ◌≤◌, ◌⊎◌, inl, inr, List, length, get_or, set, sym, ap, ◌∙◌, subst, arith, get_or-set_other, get_or-set_same}
use Rattle.std.specs.List.{All, Contains}
use Rattle.std.proofs.lemmas.Bool.{cases_eq, cases_lt}
use Rattle.std.proofs.lemmas.List.{get_or_append_left, get_or_default, get_or_push, get_or_read, length-set, length_push}
use Rattle.std.proofs.lemmas.List.Elements.{Contains-push_cases}
use Rattle.aat_cuts.specs.inside.Waiting.{AreLinks, IsLinkTo, IsMetOrWaits, KeepsMet}
use Rattle.aat_cuts.specs.declared.labels.Edge.{Edge}

module _ (edges : List Edge) where
  no_link : (state : ℕ) → IsLinkTo edges 0 state 0
  no_link state = record {
    within = omega arith;
    last = λ i d is. absurd (omega (arith, is));
    none = λ i d low below. absurd (omega (arith, below));
  }

  -- no edges have no links
  pub none_linked : (last before : List ℕ) → length last ≡ 65536 → ((state : ℕ) → get_or last state 0 ≡ 0) → before ≡ []
      → AreLinks edges 0 last before
  none_linked last before long none empty = record {
    states = long;
    places = ap length empty;
    from_states = λ state below. subst (λ (k : ℕ). IsLinkTo edges 0 state k) (sym (none state)) (no_link state);
    from_edges = λ i d below. absurd (omega (arith, below));
  }

module _ (edges : List Edge) (i : ℕ) (d : Edge) (within : i < length edges) where
  -- the state that an edge at a place looks at
  abbrev to_here : ℕ
  to_here = (get_or edges i d).to

  same_to : (j : ℕ) (e : Edge) → j ≡ i → (get_or edges j e).to ≡ to_here
  same_to j e place =
      ap (λ (k : ℕ). (get_or edges k e).to) place ∙ ap (λ (f : Edge). f.to) (get_or_default edges i e d within)

  -- a link to the edge itself
  link_here : (state : ℕ) → state ≡ to_here → IsLinkTo edges (i + 1) state (i + 1)
  link_here state same = record {
    within = omega arith;
    last = λ j e is. same_to j e (omega (arith, is)) ∙ sym same;
    none = λ j e low below. absurd (omega (arith, low, below));
  }

  none_by : (state link : ℕ) → IsLinkTo edges i state link → state ≢ to_here → (j : ℕ) (e : Edge) → link ≤ j
      → j < i + 1 → (j < i) ⊎ (i ≤ j) → (get_or edges j e).to ≢ state
  none_by state link is other j e low below (inl lt) = is.none j e low lt
  none_by state link is other j e low below (inr le) =
      λ at. other (sym at ∙ same_to j e (omega (arith, below, le)))

  -- a link to an edge before it, at another state
  link_still : (state link : ℕ) → IsLinkTo edges i state link → state ≢ to_here → IsLinkTo edges (i + 1) state link
  link_still state link is other = record {
    within = omega (arith, is.within);
    last = is.last;
    none = λ j e low below. none_by state link is other j e low below (cases_lt j i);
  }

  module _ (last before next : List ℕ) (links : AreLinks edges i last before) (below : to_here < 65536)
      (pushed : next ≡ before ++ get_or last to_here 0 ∷ []) where
    abbrev later : List ℕ
    later = set last to_here (i + 1)

    from_state : (state : ℕ) → state < 65536 → (state ≡ to_here) ⊎ (state ≢ to_here)
        → IsLinkTo edges (i + 1) state (get_or later state 0)
    from_state state high (inl same) =
        let at : get_or later state 0 ≡ i + 1 = ap (λ (s : ℕ). get_or later s 0) same ∙ get_or-set_same last to_here (i + 1) 0 (omega (arith, links.states, below)) in
        subst (λ (k : ℕ). IsLinkTo edges (i + 1) state k) (sym at) (link_here state same)
    from_state state high (inr other) =
        let at : get_or later state 0 ≡ get_or last state 0 = get_or-set_other last to_here state (i + 1) 0 other in
        subst (λ (k : ℕ). IsLinkTo edges (i + 1) state k) (sym at) (link_still state (get_or last state 0) (links.from_states state high) other)

    from_edge : (j : ℕ) (e : Edge) → j < i + 1 → (j < i) ⊎ (i ≤ j)
        → IsLinkTo edges j (get_or edges j e).to (get_or next j 0)
    from_edge j e high (inl lt) =
        let at : get_or next j 0 ≡ get_or before j 0 = ap (λ (l : List ℕ). get_or l j 0) pushed ∙ get_or_append_left before (get_or last to_here 0 ∷ []) 0 j (omega (arith, links.places, lt)) in
        subst (λ (k : ℕ). IsLinkTo edges j (get_or edges j e).to k) (sym at) (links.from_edges j e lt)
    from_edge j e high (inr le) =
        let place : j ≡ i = omega (arith, high, le) in
        let long : length before ≡ j = omega (arith, links.places, place) in
        let at : get_or next j 0 ≡ get_or last to_here 0 = ap (λ (l : List ℕ). get_or l j 0) pushed ∙ get_or_push before (get_or last to_here 0) 0 j long in
        let first : IsLinkTo edges i to_here (get_or next j 0) = subst (λ (k : ℕ). IsLinkTo edges i to_here k) (sym at) (links.from_states to_here below) in
        let second : IsLinkTo edges j to_here (get_or next j 0) = subst (λ (n : ℕ). IsLinkTo edges n to_here (get_or next j 0)) (sym place) first in
        subst (λ (s : ℕ). IsLinkTo edges j s (get_or next j 0)) (sym (same_to j e place)) second

    -- the links of one edge more
    pub links_more : AreLinks edges (i + 1) later next
    links_more = record {
      states = length-set last to_here (i + 1) ∙ links.states;
      places = ap length pushed ∙ length_push before (get_or last to_here 0) ∙ ap (λ (n : ℕ). n + 1) links.places;
      from_states = λ state high. from_state state high (cases_eq state to_here);
      from_edges = λ j e high. from_edge j e high (cases_lt j i);
    }

module _ (edges : List Edge) (last before : List ℕ) (links : AreLinks edges (length edges) last before) where
  -- the link that is read for a state
  pub link_of_state : (state link : ℕ) → state < 65536 → link ≡ get_or last state link
      → IsLinkTo edges (length edges) state link
  link_of_state state link below read =
      let is : link ≡ get_or last state 0 = get_or_read last state link (omega (arith, links.states, below)) read 0 in
      subst (λ (k : ℕ). IsLinkTo edges (length edges) state k) (sym is) (links.from_states state below)

  -- and the one that is read for an edge
  pub link_of_edge : (place link : ℕ) (d : Edge) → place < length edges → link ≡ get_or before place link
      → IsLinkTo edges place (get_or edges place d).to link
  link_of_edge place link d below read =
      let is : link ≡ get_or before place 0 = get_or_read before place link (omega (arith, links.places, below)) read 0 in
      subst (λ (k : ℕ). IsLinkTo edges place (get_or edges place d).to k) (sym is) (links.from_edges place d below)

-- each edge is met or waits, but for those that look at a state and stand before a link
abbrev pub AreMetPast : List Edge → ℕ → List ℕ → List ℕ → ℕ → Type 0
AreMetPast edges state labels waiting link =
    (i : ℕ) (d : Edge) → i < length edges
    → IsMetOrWaits labels waiting (get_or edges i d) ⊎ ((i < link) × ((get_or edges i d).to ≡ state))

module _ (edges : List Edge) (state : ℕ) where
  first_by : (labels waiting : List ℕ) (link i : ℕ) (d : Edge) → i < length edges
      → IsLinkTo edges (length edges) state link → (get_or edges i d).to ≡ state → (i < link) ⊎ (link ≤ i)
      → IsMetOrWaits labels waiting (get_or edges i d) ⊎ ((i < link) × ((get_or edges i d).to ≡ state))
  first_by labels waiting link i d within is same (inl lt) = inr (lt, same)
  first_by labels waiting link i d within is same (inr le) = absurd (is.none i d le within same)

  first_of_push : (labels waiting : List ℕ) (link i : ℕ) (d : Edge) → i < length edges
      → IsLinkTo edges (length edges) state link
      → Contains waiting (get_or edges i d).to ⊎ (state ≡ (get_or edges i d).to)
      → IsMetOrWaits labels waiting (get_or edges i d) ⊎ ((i < link) × ((get_or edges i d).to ≡ state))
  first_of_push labels waiting link i d within is (inl here) = inl (inr here)
  first_of_push labels waiting link i d within is (inr same) =
      first_by labels waiting link i d within is (sym same) (cases_lt i link)

  first_of : (labels waiting : List ℕ) (link i : ℕ) (d : Edge) → i < length edges
      → IsLinkTo edges (length edges) state link → IsMetOrWaits labels (waiting ++ state ∷ []) (get_or edges i d)
      → IsMetOrWaits labels waiting (get_or edges i d) ⊎ ((i < link) × ((get_or edges i d).to ≡ state))
  first_of labels waiting link i d within is (inl met) = inl (inl met)
  first_of labels waiting link i d within is (inr here) =
      first_of_push labels waiting link i d within is (Contains-push_cases waiting state (get_or edges i d).to here)

  -- a state that waited no longer does, and its edges stand before the link from it
  pub met_past_first : (labels waiting : List ℕ) (link : ℕ) → IsLinkTo edges (length edges) state link
      → All (IsMetOrWaits labels (waiting ++ state ∷ [])) edges → AreMetPast edges state labels waiting link
  met_past_first labels waiting link is met i d within =
      first_of labels waiting link i d within is (met i d within)

  module _ (place next : ℕ) (d : Edge) (within : place < length edges) (at : (get_or edges place d).to ≡ state)
      (is : IsLinkTo edges place (get_or edges place d).to next) (old waited new waits : List ℕ)
      (kept : KeepsMet old waited new waits)
      (here : IsMetOrWaits new waits (get_or edges place d)) where
    more_of : (i : ℕ) (e : Edge) → (get_or edges i e).to ≡ state → i < place → (i < next) ⊎ (next ≤ i)
        → IsMetOrWaits new waits (get_or edges i e) ⊎ ((i < next) × ((get_or edges i e).to ≡ state))
    more_of i e same lt (inl before) = inr (before, same)
    more_of i e same lt (inr le) = absurd (is.none i e le lt (same ∙ sym at))

    here_of : (i : ℕ) (e : Edge) → i ≡ place → IsMetOrWaits new waits (get_or edges i e)
    here_of i e same =
        subst (λ (n : ℕ). IsMetOrWaits new waits (get_or edges n e)) (sym same) (subst (λ (f : Edge). IsMetOrWaits new waits f) (get_or_default edges place d e within) here)

    more_at : (i : ℕ) (e : Edge) → i < place + 1 → (get_or edges i e).to ≡ state → (i < place) ⊎ (place ≤ i)
        → IsMetOrWaits new waits (get_or edges i e) ⊎ ((i < next) × ((get_or edges i e).to ≡ state))
    more_at i e high same (inl lt) = more_of i e same lt (cases_lt i next)
    more_at i e high same (inr le) = inl (here_of i e (omega (arith, high, le)))

    more_by : (link i : ℕ) (e : Edge) → link ≡ place + 1
        → IsMetOrWaits old waited (get_or edges i e) ⊎ ((i < link) × ((get_or edges i e).to ≡ state))
        → IsMetOrWaits new waits (get_or edges i e) ⊎ ((i < next) × ((get_or edges i e).to ≡ state))
    more_by link i e after (inl met) = inl (kept (get_or edges i e) met)
    more_by link i e after (inr (lt, same)) = more_at i e (omega (arith, lt, after)) same (cases_lt i place)

    -- one edge more is met or waits
    pub met_past_more : (link : ℕ) → link ≡ place + 1 → AreMetPast edges state old waited link
        → AreMetPast edges state new waits next
    met_past_more link after before i e low = more_by link i e after (before i e low)

  all_by : (labels waiting : List ℕ) (link i : ℕ) (d : Edge) → link ≡ 0
      → IsMetOrWaits labels waiting (get_or edges i d) ⊎ ((i < link) × ((get_or edges i d).to ≡ state))
      → IsMetOrWaits labels waiting (get_or edges i d)
  all_by labels waiting link i d none (inl met) = met
  all_by labels waiting link i d none (inr (lt, same)) = absurd (omega (arith, lt, none))

  -- behind the last link each edge is met or waits
  pub met_past_all : (labels waiting : List ℕ) (link : ℕ) → link ≡ 0 → AreMetPast edges state labels waiting link
      → All (IsMetOrWaits labels waiting) edges
  met_past_all labels waiting link none before i d within = all_by labels waiting link i d none (before i d within)
