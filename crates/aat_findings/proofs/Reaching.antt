-- The states that lines reach.
use Rattle.std.proofs.Common.{◌≡◌, ◌≢◌, ℕ, ◌+◌, ◌*◌, ◌<◌, ◌≤◌, ◌⊎◌, inl, inr, Bool, true, false, cond, Option, Some, None, option_map, List, [], ◌∷◌, ◌++◌, length, get_or, drop, max, suc, subst, sym, ap, ◌∙◌, refl, ltb, arith}
use Rattle.std.specs.Option.{option_and_then}
use Rattle.std.proofs.Math.Seq.{drop-cons}
use Rattle.std.proofs.lemmas.Option.{option_and_then_some}
use Rattle.std.proofs.lemmas.Bool.{cases_eq, cases_lt, ltb-true, eqb-true, eq-eqb, lt-ltb}
use Rattle.aat_lookup.specs.Keys.{at_key}
use Rattle.aat_machine_tables.specs.Table.{Rule, TableValue, entry_of, known_class, rule_key}
use Rattle.aat_machine_tables.specs.declared.state_table.GenericStateEntry.{GenericStateEntry}
use Rattle.aat_findings.specs.Reached.{AreExactly, IsReached, IsUnreached, next_state, state_after, state_count, width}
use Rattle.aat_findings.specs.inside.Marks.{AreAllReached, AreReachMarks, IsFollowed, is_marked, is_unmarked}
use Rattle.aat_findings.proofs.Exactly.{exactly_same, not_true}

then_some : {X : Type 0} (o : Option X) → option_and_then (λ x. Some x) o ≡ o
then_some None = refl
then_some (Some x) = refl

then_more : {X Y Z : Type 0} (o : Option X) (f : X → Option Z) (g : X → Option Y) (h : Y → Option Z)
    → ((x : X) → f x ≡ option_and_then h (g x)) → option_and_then f o ≡ option_and_then h (option_and_then g o)
then_more None f g h same = refl
then_more (Some x) f g h same = same x

known_by : (b : Bool) (k : ℕ) → b ≡ false → cond b k 1 ≡ 1
known_by false k is = refl
known_by true k is = cc

known_one : (b : Bool) → cond {A = ℕ} b 1 1 ≡ 1
known_one true = refl
known_one false = refl

module _ {T : Type 0} (table : TableValue (GenericStateEntry T)) where
  -- one class more
  pub after_more : (s : ℕ) (line : List ℕ) (k : ℕ)
      → state_after table s (line ++ k ∷ []) ≡ option_and_then (λ t. next_state table t k) (state_after table s line)
  after_more s [] k = then_some (next_state table s k)
  after_more s (c ∷ line) k =
      then_more (next_state table s c) (λ t. state_after table t (line ++ k ∷ [])) (λ t. state_after table t line) (λ t. next_state table t k) (λ t. after_more t line k)

  -- a line that begins in a state reaches it
  pub reached_start : (s : ℕ) → s ≤ 1 → IsReached table s
  reached_start s begins = record { start = s; line = []; begins = begins; leads = refl }

  -- a state to which an entry of a reached state leads is reached
  pub reached_next : (s k t : ℕ) → IsReached table s → next_state table s k ≡ Some t → IsReached table t
  reached_next s k t reached is = record {
    start = reached.start;
    line = reached.line ++ k ∷ [];
    begins = reached.begins;
    leads = after_more reached.start reached.line k ∙ ap (option_and_then (λ u. next_state table u k)) reached.leads ∙ is;
  }

  sound_by : (marks : List ℕ) (t : ℕ) → IsReached table t → AreAllReached table marks → (u : ℕ)
      → (is_marked marks u ≡ true) ⊎ (u ≡ t) → IsReached table u
  sound_by marks t here all u (inl old) = all u old
  sound_by marks t here all u (inr same) = subst (λ (n : ℕ). IsReached table n) (sym same) here

  -- where one reached state more is marked, the marked states are reached
  pub sound_more : (old new : List ℕ) (t : ℕ) → IsReached table t → AreAllReached table old
      → ((u : ℕ) → is_marked new u ≡ true → (is_marked old u ≡ true) ⊎ (u ≡ t)) → AreAllReached table new
  sound_more old new t here all only u is = sound_by old t here all u (only u is)

  -- no state is marked
  pub sound_none : (marks : List ℕ) → ((s : ℕ) → get_or marks s 0 ≡ 0) → AreAllReached table marks
  sound_none marks clear s here = absurd (omega (arith, clear s, ltb-true 0 (get_or marks s 0) here))

  pub entry_high : (s k : ℕ) → width table ≤ k → entry_of table s k ≡ entry_of table s 1
  entry_high s k high =
      let class : known_class table.class_count k ≡ known_class table.class_count 1 =
      known_by (ltb k table.class_count) k (not_true (ltb k table.class_count) (λ is. absurd (omega (arith, ltb-true k table.class_count is)))) ∙ sym (known_one (ltb 1 table.class_count))
      in
      ap (λ (n : ℕ). option_map (λ (r : Rule (GenericStateEntry T)). r.2) (at_key rule_key table.rules (s * 65536 + n))) class

  pub next_high : (s k : ℕ) → width table ≤ k → next_state table s k ≡ next_state table s 1
  next_high s k high = ap (option_map (λ (e : GenericStateEntry T). e.new_state)) (entry_high s k high)

  module _ (marks : List ℕ) (followed : (s : ℕ) → is_marked marks s ≡ true → IsFollowed table marks s (width table)) where
    next_by : (s k t : ℕ) → is_marked marks s ≡ true → (k < width table) ⊎ (width table ≤ k)
        → next_state table s k ≡ Some t → is_marked marks t ≡ true
    next_by s k t here (inl lt) is = followed s here k t lt is
    next_by s k t here (inr le) is = followed s here 1 t (omega arith) (sym (next_high s k le) ∙ is)

    -- an entry of a marked state leads to a marked one
    pub next_marked : (s k t : ℕ) → is_marked marks s ≡ true → next_state table s k ≡ Some t → is_marked marks t ≡ true
    next_marked s k t here is = next_by s k t here (cases_lt k (width table)) is

    after_marked : (line : List ℕ) (s t : ℕ) → is_marked marks s ≡ true → state_after table s line ≡ Some t
        → is_marked marks t ≡ true
    after_marked [] s t here is =
        let same : s ≡ t = cc in
        subst (λ (n : ℕ). is_marked marks n ≡ true) same here
    after_marked (k ∷ line) s t here is =
        option_and_then_some (λ u. state_after table u line) (next_state table s k) t is (λ u next leads. after_marked line u t (next_marked s k u here next) leads)

    start_marked : is_marked marks 0 ≡ true → is_marked marks 1 ≡ true → (s : ℕ) → s ≤ 1 → (s ≡ 0) ⊎ (s ≢ 0)
        → is_marked marks s ≡ true
    start_marked zero one s begins (inl same) = subst (λ (n : ℕ). is_marked marks n ≡ true) (sym same) zero
    start_marked zero one s begins (inr other) =
        let same : 1 ≡ s = omega arith in
        subst (λ (n : ℕ). is_marked marks n ≡ true) same one

    -- each state that is reached is marked
    pub marks_found : length marks ≡ 65536 → is_marked marks 0 ≡ true → is_marked marks 1 ≡ true
        → AreAllReached table marks → AreReachMarks table marks
    marks_found long zero one sound = record {
      long = long;
      sound = sound;
      each = λ s reached. after_marked reached.line reached.start s (start_marked zero one reached.start reached.begins (cases_eq reached.start 0)) reached.leads;
    }

  module _ (marks : List ℕ) (are : AreReachMarks table marks) where
    -- a state without a mark is not reached
    pub never_reached : (s : ℕ) → is_unmarked marks s ≡ true → IsReached table s → ⊥
    never_reached s is reached =
        let zero : get_or marks s 0 ≡ 0 = eqb-true (get_or marks s 0) 0 is in
        let some : 0 < get_or marks s 0 = ltb-true 0 (get_or marks s 0) (are.each s reached) in
        absurd (omega arith)

    unmarked_by : (s : ℕ) → (IsReached table s → ⊥) → (get_or marks s 0 ≡ 0) ⊎ (get_or marks s 0 ≢ 0)
        → is_unmarked marks s ≡ true
    unmarked_by s never (inl zero) = eq-eqb (get_or marks s 0) 0 zero
    unmarked_by s never (inr some) = absurd (never (are.sound s (lt-ltb 0 (get_or marks s 0) (omega arith))))

    -- and one that is not reached has none
    pub unmarked_of : (s : ℕ) → (IsReached table s → ⊥) → is_unmarked marks s ≡ true
    unmarked_of s never = unmarked_by s never (cases_eq (get_or marks s 0) 0)

    -- the states without a mark are those that no line reaches
    pub unreached_of : (count : ℕ) (states : List ℕ) → count ≡ state_count table.rules
        → AreExactly (λ s. (s < count) × (is_unmarked marks s ≡ true)) states → AreExactly (IsUnreached table) states
    unreached_of count states is are_states =
        exactly_same (λ s. (s < count) × (is_unmarked marks s ≡ true)) (IsUnreached table) states
        (λ s (below, clear). record { below = omega (arith, is, below); never = never_reached s clear })
        (λ s unreached. (omega (arith, is, unreached.below), unmarked_of s unreached.never)) are_states

-- one rule more is counted
pub count_more : {E : Type 0} (rules : List (Rule E)) (i : ℕ) (d : Rule E) → i < length rules
    → state_count (drop i rules) ≡ max ((get_or rules i d).0 + 1) (state_count (drop (i + 1) rules))
count_more rules i d within =
    let more : drop i rules ≡ get_or rules i d ∷ drop (suc i) rules = drop-cons rules i d within in
    let next : suc i ≡ i + 1 = omega arith in
    ap state_count more ∙ ap (λ (n : ℕ). max ((get_or rules i d).0 + 1) (state_count (drop n rules))) next

module _ {T : Type 0} (table : TableValue (GenericStateEntry T)) (line : List ℕ) (i : ℕ) (within : i < length line) where
  -- a line leads on by its next class
  pub after_step : (s : ℕ) → state_after table s (drop i line)
      ≡ option_and_then (λ t. state_after table t (drop (i + 1) line)) (next_state table s (get_or line i 0))
  after_step s =
      let more : drop i line ≡ get_or line i 0 ∷ drop (suc i) line = drop-cons line i 0 within in
      let next : suc i ≡ i + 1 = omega arith in
      ap (state_after table s) more ∙ ap (λ (n : ℕ). option_and_then (λ t. state_after table t (drop n line)) (next_state table s (get_or line i 0))) next
