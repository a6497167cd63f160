-- Marks of states.
use Rattle.std.proofs.Common.{◌≡◌, ◌≢◌, ℕ, ◌+◌, ◌*◌, ◌<◌, ◌≤◌, ◌⊎◌, inl, inr, true, Some, List, [], ◌∷◌, ◌++◌, length, get_or, set, sum, take, subst, sym, ap, ◌∙◌, ltb, arith, get_or-set_other, get_or-set_same, append_assoc}
use Rattle.std.specs.List.{All}
use Rattle.std.proofs.Math.ListN.{length-set}
use Rattle.std.proofs.Math.Seq.{get_or-append_seam}
use Rattle.std.proofs.lemmas.Bool.{cases_eq, cases_lt, lt-ltb, ltb-true}
use Rattle.std.proofs.lemmas.List.{append-nil, get_or_append_left, length_push, take-append-le, take_all}
use Rattle.std.proofs.lemmas.List.Elements.{All-from_get_or}
use Rattle.std.proofs.lemmas.List.Sums.{sum_by-le, sum_by-set}
use Rattle.aat_machine_tables.specs.Table.{TableValue}
use Rattle.aat_machine_tables.specs.declared.state_table.GenericStateEntry.{GenericStateEntry}
use Rattle.aat_findings.specs.Reached.{next_state, width}
use Rattle.aat_findings.specs.inside.Marks.{AreFollowed, AreKept, AreMarks, IsFollowed, IsLonger, is_marked}

-- what holds of the elements that are written back into a vector of their number holds of the vector
pub written_back : (P : List ℕ → Type 0) (count : ℕ) (new rest : List ℕ) → length new ≡ count → P new
    → P (take count (new ++ rest))
written_back P count new rest long holds =
    let same : take count (new ++ rest) ≡ new = take-append-le count new rest (omega arith) ∙ take_all count new (omega arith) in
    subst P (sym same) holds

-- a list that goes on twice goes on
pub longer_more : (a b c : List ℕ) → IsLonger a b → IsLonger b c → IsLonger a c
longer_more a b c (r, e) (s, f) =
    let assoc : (a ++ r) ++ s ≡ a ++ (r ++ s) = simp append_assoc in
    let there : b ++ s ≡ (a ++ r) ++ s = ap (λ (l : List ℕ). l ++ s) e in
    (r ++ s, f ∙ there ∙ assoc)

pub longer_same : (a : List ℕ) → IsLonger a a
longer_same a = ([], sym (append-nil a))

-- the marked states are no more than there are
pub few_marked : (marks order : List ℕ) → AreMarks marks order → length order ≤ 65536
few_marked marks order are =
    let low : All (λ x. x ≤ 1) marks = All-from_get_or (λ x. x ≤ 1) marks 0 (λ i within. are.low i) in
    let most : sum marks ≤ length marks * 1 = sum_by-le (λ x. x) 1 marks low in
    omega (arith, most, are.long, are.count)

-- where none is, no state is marked
pub marks_none : (marks order : List ℕ) → length marks ≡ 65536 → ((s : ℕ) → get_or marks s 0 ≡ 0) → order ≡ []
    → AreMarks marks order
marks_none marks order long clear none =
    let low : All (λ x. x ≤ 0) marks = All-from_get_or (λ x. x ≤ 0) marks 0 (λ i within. omega (arith, clear i)) in
    let most : sum marks ≤ length marks * 0 = sum_by-le (λ x. x) 0 marks low in
    let empty : length order ≡ 0 = ap length none in
    record {
      long = long;
      low = λ s. omega (arith, clear s);
      count = omega (arith, most, empty);
      ordered = λ i below. absurd (omega (arith, empty, below));
      listed = λ s here. absurd (omega (arith, clear s, ltb-true 0 (get_or marks s 0) here));
    }

module _ (marks order : List ℕ) (are : AreMarks marks order) (s : ℕ) (within : s < length marks)
    (zero : get_or marks s 0 ≡ 0) where
  at_here : get_or (set marks s 1) s 0 ≡ 1
  at_here = get_or-set_same marks s 1 0 within

  at_other : (t : ℕ) → t ≢ s → get_or (set marks s 1) t 0 ≡ get_or marks t 0
  at_other t other = get_or-set_other marks s t 1 0 other

  -- the state is marked
  pub marked_here : is_marked (set marks s 1) s ≡ true
  marked_here = lt-ltb 0 _ (omega (arith, at_here))

  kept_by : (t : ℕ) → (t ≡ s) ⊎ (t ≢ s) → is_marked marks t ≡ true → is_marked (set marks s 1) t ≡ true
  kept_by t (inl same) is = subst (λ (n : ℕ). is_marked (set marks s 1) n ≡ true) (sym same) marked_here
  kept_by t (inr other) is = ap (ltb 0) (at_other t other) ∙ is

  -- others stay marked
  pub marked_kept : AreKept marks (set marks s 1)
  marked_kept t is = kept_by t (cases_eq t s) is

  only_by : (t : ℕ) → (t ≡ s) ⊎ (t ≢ s) → is_marked (set marks s 1) t ≡ true → (is_marked marks t ≡ true) ⊎ (t ≡ s)
  only_by t (inl same) is = inr same
  only_by t (inr other) is = inl (sym (ap (ltb 0) (at_other t other)) ∙ is)

  -- and no more
  pub marked_only : (t : ℕ) → is_marked (set marks s 1) t ≡ true → (is_marked marks t ≡ true) ⊎ (t ≡ s)
  marked_only t is = only_by t (cases_eq t s) is

  low_by : (t : ℕ) → (t ≡ s) ⊎ (t ≢ s) → get_or (set marks s 1) t 0 ≤ 1
  low_by t (inl same) = omega (arith, ap (λ (n : ℕ). get_or (set marks s 1) n 0) same, at_here)
  low_by t (inr other) = omega (arith, at_other t other, are.low t)

  listed_by : (t : ℕ) → (is_marked marks t ≡ true) ⊎ (t ≡ s)
      → (i : ℕ) × (i < length (order ++ s ∷ [])) × (get_or (order ++ s ∷ []) i 0 ≡ t)
  listed_by t (inl is) =
      let (i, below, at) = are.listed t is in
      (i, omega (arith, length_push order s), get_or_append_left order (s ∷ []) 0 i below ∙ at)
  listed_by t (inr same) =
      (length order, omega (arith, length_push order s), get_or-append_seam order s [] 0 ∙ sym same)

  ordered_by : (i : ℕ) → (i < length order) ⊎ (length order ≤ i) → i < length (order ++ s ∷ [])
      → is_marked (set marks s 1) (get_or (order ++ s ∷ []) i 0) ≡ true
  ordered_by i (inl lt) below =
      subst (λ (n : ℕ). is_marked (set marks s 1) n ≡ true) (sym (get_or_append_left order (s ∷ []) 0 i lt)) (marked_kept _ (are.ordered i lt))
  ordered_by i (inr le) below =
      let last : length order ≡ i = omega (arith, length_push order s) in
      subst (λ (n : ℕ). is_marked (set marks s 1) (get_or (order ++ s ∷ []) n 0) ≡ true) last (subst (λ (n : ℕ). is_marked (set marks s 1) n ≡ true) (sym (get_or-append_seam order s [] 0)) marked_here)

  -- one state more is marked
  pub marks_more : AreMarks (set marks s 1) (order ++ s ∷ [])
  marks_more = record {
    long = length-set marks s 1 ∙ are.long;
    low = λ t. low_by t (cases_eq t s);
    count = omega (arith, sum_by-set (λ x. x) marks s 1 0 within, zero, are.count, length_push order s);
    ordered = λ i below. ordered_by i (cases_lt i (length order)) below;
    listed = λ t is. listed_by t (marked_only t is);
  }

module _ {T : Type 0} (table : TableValue (GenericStateEntry T)) where
  row_by : (old new : List ℕ) (state class : ℕ) → IsFollowed table old state class → AreKept old new
      → ((s : ℕ) → next_state table state class ≡ Some s → is_marked new s ≡ true)
      → (k s : ℕ) → (k < class) ⊎ (class ≤ k) → k < class + 1 → next_state table state k ≡ Some s → is_marked new s ≡ true
  row_by old new state class row kept here k s (inl lt) below is = kept s (row k s lt is)
  row_by old new state class row kept here k s (inr le) below is =
      let same : k ≡ class = omega arith in
      here s (subst (λ (n : ℕ). next_state table state n ≡ Some s) same is)

  -- one class more of a row is followed
  pub row_more : (old new : List ℕ) (state class : ℕ) → IsFollowed table old state class → AreKept old new
      → ((s : ℕ) → next_state table state class ≡ Some s → is_marked new s ≡ true)
      → IsFollowed table new state (class + 1)
  row_more old new state class row kept here k s below is =
      row_by old new state class row kept here k s (cases_lt k class) below is

  module _ (old new order grown : List ℕ) (place : ℕ) (before : AreFollowed table old order place)
      (kept : AreKept old new) (longer : IsLonger order grown) (here : place < length order)
      (row : IsFollowed table new (get_or order place 0) (width table)) where
    at_front : (i : ℕ) → i < length order → get_or grown i 0 ≡ get_or order i 0
    at_front i below = let (rest, is) = longer in ap (λ (l : List ℕ). get_or l i 0) is ∙ get_or_append_left order rest 0 i below

    followed_by : (i : ℕ) → (i < place) ⊎ (place ≤ i) → i < place + 1 → IsFollowed table new (get_or grown i 0) (width table)
    followed_by i (inl lt) below k s within is =
        let at : get_or grown i 0 ≡ get_or order i 0 = at_front i (omega arith) in
        kept s (before i lt (omega arith) k s within (subst (λ (n : ℕ). next_state table n k ≡ Some s) at is))
    followed_by i (inr le) below k s within is =
        let same : i ≡ place = omega arith in
        let at : get_or grown i 0 ≡ get_or order place 0 = at_front i (omega arith) ∙ ap (λ (n : ℕ). get_or order n 0) same in
        row k s within (subst (λ (n : ℕ). next_state table n k ≡ Some s) at is)

    -- one state more is followed
    pub followed_more : AreFollowed table new grown (place + 1)
    followed_more i below within = followed_by i (cases_lt i place) below

  -- where each state of a list is followed, each that is marked is
  pub all_followed : (marks order : List ℕ) (place : ℕ) → AreMarks marks order → AreFollowed table marks order place
      → length order ≤ place → (s : ℕ) → is_marked marks s ≡ true → IsFollowed table marks s (width table)
  all_followed marks order place are followed end s is =
      let (i, below, at) = are.listed s is in
      subst (λ (n : ℕ). IsFollowed table marks n (width table)) at (followed i (omega arith) below)
