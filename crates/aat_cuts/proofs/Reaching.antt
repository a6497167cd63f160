-- The states that a run may reach.
use Rattle.std.proofs.Common.{◌≡◌, ◌≢◌, ℕ, zero, suc, ◌<◌, ◌≤◌, ◌⊎◌, inl, inr, Bool, true, false, cond, Option, Some, None, List, [], ◌∷◌, ◌++◌, map, get_or, subst, sym, ap, ◌∙◌, refl, ltb, arith}
use Rattle.std.specs.List.{All, Contains, filter}
use Rattle.std.proofs.lemmas.Bool.{cases_lt, ltb-true, lt-ltb}
use Rattle.std.proofs.lemmas.List.Elements.{All-append, All-cons, All-nil, All-map, All-contains, All-contains_itself, All-head, All-tail, All-weaker, All-filter, Contains-append_left, Contains-append_right, Contains-push, filter_passes}
use Rattle.std.proofs.lemmas.List.{get_or_past}
use Rattle.aat_machine_tables.specs.Table.{Rule, TableValue, entry_of}
use Rattle.aat_machine_tables.specs.declared.state_table.GenericStateEntry.{GenericStateEntry}
use Rattle.aat_cuts.specs.Labels.{AreBelow, AreLabels, IsMet, asked_by, label_in}
use Rattle.aat_cuts.specs.Reached.{AreFollowed, AreGathered, AreReachLabels, AreReached, IsCell, IsClosed, IsComplete, IsReached, IsWhole, follow_edge, is_labelled, start_edge, width}
use Rattle.aat_cuts.specs.declared.labels.Edge.{Edge}

-- the label 1 of a state that is reached
one_of : (ℕ → Bool) → ℕ → ℕ
one_of is_reached s = cond (is_reached s) 1 0

one_rises : (a b : Bool) → (a ≡ true → b ≡ true) → cond a 1 0 ≤ cond b 1 0
one_rises false b follows = omega arith
one_rises true true follows = omega arith
one_rises true false follows = let clash : false ≡ true = follows refl in cc

above_none : (b : Bool) (n : ℕ) → ltb 0 n ≡ true → n ≤ cond b 1 0 → b ≡ true
above_none true n some le = refl
above_none false n some le = let above : 0 < n = ltb-true 0 n some in absurd (omega arith)

pub unmapped : {X Y : Type 0} (P : Y → Type 0) (f : X → Y) (xs : List X) → All P (map f xs) → All (λ x. P (f x)) xs
unmapped P f [] all = All-nil (λ x. P (f x))
unmapped P f (x ∷ xs) all =
    All-cons (λ y. P (f y)) x xs (All-head P (f x) (map f xs) all) (unmapped P f xs (All-tail P (f x) (map f xs) all))

pub front_all : {X : Type 0} (P : X → Type 0) (xs ys : List X) → All P (xs ++ ys) → All P xs
front_all P xs ys all =
    All-weaker (Contains xs) P (λ x here. All-contains P (xs ++ ys) x all (Contains-append_left xs ys x here)) xs (All-contains_itself xs)

-- complete states are followed
pub followed_of : {T : Type 0} (table : TableValue (GenericStateEntry T)) (is_reached : ℕ → Bool)
    → IsComplete table is_reached → AreFollowed table is_reached
followed_of table is_reached complete = record {
  first = complete.first;
  next = λ s k e here is.
      let (f, there, next) = complete.entries s k here in
      let equal : Some f ≡ Some e = sym there ∙ is in
      let same : f ≡ e = cc in
      subst (λ (g : GenericStateEntry _). is_reached g.new_state ≡ true) same next;
}

module _ {T : Type 0} (cells : List (Rule (GenericStateEntry T))) (edges : List Edge) (labels : List ℕ)
    (are : edges ≡ map follow_edge cells ++ start_edge ∷ []) where
  all_met : (is_reached : ℕ → Bool) → is_reached 0 ≡ true → IsClosed cells is_reached
      → All (IsMet (one_of is_reached)) edges
  unfolding asked_by one_of
  all_met is_reached first closed =
      let follow = All-map (IsMet (one_of is_reached)) (follow_edge {T = T}) cells (All-weaker (λ c. is_reached c.0 ≡ true → is_reached c.2.new_state ≡ true) (λ c. IsMet (one_of is_reached) (follow_edge c)) (λ c follows. one_rises (is_reached c.0) (is_reached c.2.new_state) follows) cells closed) in
      let start : IsMet (one_of is_reached) start_edge = rw first (omega arith) in
      subst (λ (es : List Edge). All (IsMet (one_of is_reached)) es) (sym are) (All-append (IsMet (one_of is_reached)) (map follow_edge cells) (start_edge ∷ []) follow (All-cons (IsMet (one_of is_reached)) start_edge [] start (All-nil (IsMet (one_of is_reached)))))

  start_met : All (IsMet (label_in labels)) (map follow_edge cells ++ start_edge ∷ []) → 1 ≤ label_in labels 0
  unfolding asked_by
  start_met all =
      All-contains (IsMet (label_in labels)) (map follow_edge cells ++ start_edge ∷ []) start_edge all (Contains-push (map follow_edge cells) start_edge)

  -- the least labels that meet the edges are those of the states that are reached
  pub reach_labels : AreLabels labels → All (IsMet (label_in labels)) edges
      → ((label : ℕ → ℕ) → All (IsMet label) edges → AreBelow labels label) → AreReachLabels cells labels
  unfolding asked_by one_of
  reach_labels label_list met least =
      let here : All (IsMet (label_in labels)) (map follow_edge cells ++ start_edge ∷ []) = subst (λ (es : List Edge). All (IsMet (label_in labels)) es) are met in
      record {
        are = label_list;
        first = lt-ltb 0 (label_in labels 0) (omega (arith, start_met here));
        closed = All-weaker (λ c. IsMet (label_in labels) (follow_edge c)) (λ c. is_labelled labels c.0 ≡ true → is_labelled labels c.2.new_state ≡ true) (λ c met_here some. lt-ltb 0 (label_in labels c.2.new_state) (omega (arith, met_here, ltb-true 0 (label_in labels c.0) some))) cells (unmapped (IsMet (label_in labels)) follow_edge cells (front_all (IsMet (label_in labels)) (map follow_edge cells) (start_edge ∷ []) here));
        least = λ is_reached first closed s some. above_none (is_reached s) (label_in labels s) some (least (one_of is_reached) (all_met is_reached first closed) s);
      }

some_of : {X : Type 0} (o : Option X) → o ≢ None → (x : X) × (o ≡ Some x)
some_of None not = absurd (not refl)
some_of (Some x) not = (x, refl)

there : {X : Type 0} (y : X) (xs : List X) (x : X) → Contains xs x → Contains (y ∷ xs) x
there y xs x here = Contains-append_right (y ∷ []) xs x here

kept_head : {X : Type 0} (b : Bool) (y : X) (ys : List X) (x : X) → b ≡ true → y ≡ x
    → Contains (cond b (y ∷ ys) ys) x
kept_head true y ys x is same = (0, omega arith, same)
kept_head false y ys x is same = cc

kept_tail : {X : Type 0} (b : Bool) (y : X) (ys : List X) (x : X) → Contains ys x → Contains (cond b (y ∷ ys) ys) x
kept_tail true y ys x here = there y ys x here
kept_tail false y ys x here = here

-- an element that passes stays
contains_filter : {X : Type 0} (p : X → Bool) (xs : List X) (x : X) → Contains xs x → p x ≡ true
    → Contains (filter p xs) x
contains_filter p [] x (k, below, is) passes = absurd (omega arith)
contains_filter p (y ∷ ys) x (zero, below, is) passes = kept_head (p y) y (filter p ys) x (ap p is ∙ passes) is
contains_filter p (y ∷ ys) x (suc k, below, is) passes =
    kept_tail (p y) y (filter p ys) x (contains_filter p ys x (k, omega arith, is) passes)

module _ {T : Type 0} (table : TableValue (GenericStateEntry T)) (cells : List (Rule (GenericStateEntry T)))
    (labels : List ℕ) (gathered : AreGathered table cells 65536) (reach : AreReachLabels cells labels) where
  closed_by : (states : ℕ → Bool) → AreFollowed table states → IsClosed cells states
  closed_by states followed = All-weaker (IsCell table) (λ c. states c.0 ≡ true → states c.2.new_state ≡ true) (λ c cell here. followed.next c.0 c.1 c.2 here cell) cells gathered.sound

  -- a state with a label above 0 is reached
  pub least_by : (s : ℕ) → is_labelled labels s ≡ true → IsReached table s
  least_by s here states followed = reach.least states followed.first (closed_by states followed) s here

  -- a state that is reached and lacks an entry shows that no states are complete
  pub never_complete : (s k : ℕ) → is_labelled labels s ≡ true → entry_of table s k ≡ None
      → (is_reached : ℕ → Bool) → IsComplete table is_reached → ⊥
  never_complete s k here missing is_reached complete =
      let (e, is, next) = complete.entries s k (least_by s here is_reached (followed_of table is_reached complete)) in
      let equal : Some e ≡ None = sym is ∙ missing in cc

  module _ (whole : (s : ℕ) → s < 65536 → is_labelled labels s ≡ true → IsWhole table s) where
    in_range : (s : ℕ) → is_labelled labels s ≡ true → (s < 65536) ⊎ (65536 ≤ s) → s < 65536
    in_range s here (inl lt) = lt
    in_range s here (inr le) =
        let none : get_or labels s 0 ≡ 0 = get_or_past labels s 0 (omega (arith, reach.are.long)) in
        absurd (omega (arith, ltb-true 0 (label_in labels s) here))

    each_entry : (s k : ℕ) → is_labelled labels s ≡ true → k < width table
        → (e : GenericStateEntry T) × (entry_of table s k ≡ Some e) × (is_labelled labels e.new_state ≡ true)
        × Contains (filter (λ c. is_labelled labels c.0) cells) (s, k, e)
    each_entry s k here within =
        let below = in_range s here (cases_lt s 65536) in
        let (e, is) = some_of (entry_of table s k) (whole s below here k within) in
        let cell = gathered.whole s below (whole s below here) k e within is in
        (e, is, All-contains (λ c. is_labelled labels c.0 ≡ true → is_labelled labels c.2.new_state ≡ true) cells (s, k, e) reach.closed cell here, contains_filter (λ c. is_labelled labels c.0) cells (s, k, e) cell here)

    -- the entries of the states that are reached
    pub all_reached : (found : List (Rule (GenericStateEntry T))) → found ≡ filter (λ c. is_labelled labels c.0) cells
        → AreReached table labels found
    all_reached found is = subst (λ (l : List (Rule (GenericStateEntry T))). AreReached table labels l) (sym is) (record {
      are = reach.are;
      first = reach.first;
      sound = λ i d within. (filter_passes (λ c. is_labelled labels c.0) cells i d within, All-filter (λ c. is_labelled labels c.0) (IsCell table) cells gathered.sound i d within);
      each = each_entry;
      least = least_by;
    })
