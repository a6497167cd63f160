-- Entries that stay at a glyph.
use Rattle.std.proofs.Common.{◌≡◌, ◌≢◌, ℕ, zero, suc, ◌+◌, ◌<◌, ◌≤◌, ◌⊎◌, inl, inr, Bool, true, false, cond, Option, Some, None, option_map, List, length, get_or, set, subst, sym, ap, ◌∙◌, refl, eqb, arith, get_or-set_other, get_or-set_same}
use Rattle.std.specs.Option.{option_and_then}
use Rattle.std.specs.List.{sum_by}
use Rattle.std.proofs.Math.ListN.{length-set}
use Rattle.std.proofs.lemmas.Bool.{cases_eq, cases_lt, eq-eqb, ne_eqb}
use Rattle.std.proofs.lemmas.List.Sums.{sum_by-set}
use Rattle.std.proofs.lemmas.Option.{option_and_then_some}
use Rattle.aat_machine_tables.specs.Entries.{goes_on}
use Rattle.aat_machine_tables.specs.Table.{TableValue, entry_of}
use Rattle.aat_machine_tables.specs.declared.state_table.GenericStateEntry.{GenericStateEntry}
use Rattle.aat_findings.specs.Reached.{IsReached, next_state}
use Rattle.aat_findings.specs.Stays.{IsCycle, MovesOn, stay_after, stay_next, stays_to}
use Rattle.aat_findings.specs.inside.Marks.{is_marked}
use Rattle.aat_findings.specs.inside.Walks.{AreEnded, AreWalked}
use Rattle.aat_findings.proofs.Reaching.{reached_next}

-- one for each state to which no walk came
pub no_walk : ℕ → ℕ
no_walk w = cond (eqb w 0) 1 0

-- there is one less of them
pub fewer : (walks : List ℕ) (state number : ℕ) → state < length walks → get_or walks state 0 ≡ 0 → 0 < number
    → sum_by no_walk (set walks state number) + 1 ≡ sum_by no_walk walks
unfolding no_walk
fewer walks state number within clear some =
    let before : eqb (get_or walks state 0) 0 ≡ true = eq-eqb (get_or walks state 0) 0 clear in
    let after : eqb number 0 ≡ false = ne_eqb number 0 (λ is. absurd (omega (arith, is))) in
    let falls : sum_by no_walk (set walks state number) + no_walk (get_or walks state 0) ≡ sum_by no_walk walks + no_walk number = sum_by-set no_walk walks state number 0 within in
    let one : no_walk (get_or walks state 0) ≡ 1 = ap (λ (b : Bool). cond {A = ℕ} b 1 0) before in
    let none : no_walk number ≡ 0 = ap (λ (b : Bool). cond {A = ℕ} b 1 0) after in
    omega (arith, falls, one, none)

stays_by : {T : Type 0} (e : GenericStateEntry T) (b : Bool) (t : ℕ) → cond b None (Some e.new_state) ≡ Some t → e.new_state ≡ t
stays_by e true t is = cc
stays_by e false t is = cc

module _ {T : Type 0} (table : TableValue (GenericStateEntry T)) (class : ℕ) where
  -- where an entry stays, it leads on
  pub next_of_stay : (s t : ℕ) → stay_next table class s ≡ Some t → next_state table s class ≡ Some t
  next_of_stay s t is =
      option_and_then_some (stays_to {T = T}) (entry_of table s class) t is (λ e here stays. ap (option_map (λ (f : GenericStateEntry T). f.new_state)) here ∙ ap Some (stays_by e (goes_on e) t stays))

  pub reached_stay : (s t : ℕ) → IsReached table s → stay_next table class s ≡ Some t → IsReached table t
  reached_stay s t reached is = reached_next table s class t reached (next_of_stay s t is)

  then_zero : (o : Option ℕ) → option_and_then (stay_after table class zero) o ≡ o
  then_zero None = refl
  then_zero (Some s) = refl

  -- one turn more
  pub stay_more : (n s t : ℕ) → stay_after table class n s ≡ Some t
      → stay_after table class (suc n) s ≡ stay_next table class t
  stay_more zero s t is =
      let same : s ≡ t = cc in
      then_zero (stay_next table class s) ∙ ap (stay_next table class) same
  stay_more (suc n) s t is =
      option_and_then_some (stay_after table class n) (stay_next table class s) t is (λ u next leads. ap (option_and_then (stay_after table class (suc n))) next ∙ stay_more n u t leads)

  -- where entries that stay lead to a state from which the glyph is left, it is left
  pub moves_before : (n s t : ℕ) → stay_after table class n s ≡ Some t → MovesOn table class t → MovesOn table class s
  moves_before zero s t is moves =
      let same : t ≡ s = cc in
      subst (λ (u : ℕ). MovesOn table class u) same moves
  moves_before (suc n) s t is moves =
      option_and_then_some (stay_after table class n) (stay_next table class s) t is (λ u next leads. let (turns, left) = moves_before n u t leads moves in (suc turns, ap (option_and_then (stay_after table class turns)) next ∙ left))

  -- a glyph is not left from a state of a cycle
  pub never_left : (m s : ℕ) → IsCycle table class s → stay_after table class m s ≡ None → ⊥
  never_left zero s cycle left = cc
  never_left (suc m) s (n, leads) left =
      option_and_then_some (stay_after table class n) (stay_next table class s) s leads (λ u next rest. never_left m u (n, stay_more n u s rest ∙ next) (sym (ap (option_and_then (stay_after table class m)) next) ∙ left))

  module _ (walks : List ℕ) (number : ℕ) where
    -- a walk begins
    pub walk_begins : (state : ℕ) → AreEnded table class walks number → AreWalked table class walks number state
    walk_begins state before = record {
      long = before.long;
      low = λ s. omega (arith, before.below s);
      ended = λ s some other. before.ended s some;
      leads = λ s same. absurd (omega (arith, before.below s, same));
    }

    -- no walk takes the number
    pub walk_less : AreEnded table class walks number → AreEnded table class walks (number + 1)
    walk_less before = record {
      long = before.long;
      below = λ s. omega (arith, before.below s);
      ended = before.ended;
    }

    module _ (state : ℕ) (walked : AreWalked table class walks number state) where
      ended_by : MovesOn table class state → (s : ℕ) → (get_or walks s 0 ≡ number) ⊎ (get_or walks s 0 ≢ number)
          → 0 < get_or walks s 0 → MovesOn table class s
      ended_by moves s (inl same) some = let (turns, leads) = walked.leads s same in moves_before (suc turns) s state leads moves
      ended_by moves s (inr other) some = walked.ended s some other

      -- a walk that comes to one that ended ends
      pub walk_joins : 0 < get_or walks state 0 → get_or walks state 0 ≢ number → AreEnded table class walks (number + 1)
      walk_joins some other = record {
        long = walked.long;
        below = walked.low;
        ended = λ s here. ended_by (walked.ended state some other) s (cases_eq (get_or walks s 0) number) here;
      }

      module _ (within : state < length walks) (clear : get_or walks state 0 ≡ 0) where
        noted_here : get_or (set walks state number) state 0 ≡ number
        noted_here = get_or-set_same walks state number 0 within

        noted_at : (s : ℕ) → s ≡ state → get_or (set walks state number) s 0 ≡ number
        noted_at s same = ap (λ (n : ℕ). get_or (set walks state number) n 0) same ∙ noted_here

        noted_other : (s : ℕ) → s ≢ state → get_or (set walks state number) s 0 ≡ get_or walks s 0
        noted_other s other = get_or-set_other walks state s number 0 other

        low_by : (s : ℕ) → (s ≡ state) ⊎ (s ≢ state) → get_or (set walks state number) s 0 < number + 1
        low_by s (inl same) = omega (arith, noted_at s same)
        low_by s (inr other) = omega (arith, noted_other s other, walked.low s)

        kept_by : (s : ℕ) → (s ≡ state) ⊎ (s ≢ state) → 0 < number → 0 < get_or walks s 0
            → 0 < get_or (set walks state number) s 0
        kept_by s (inl same) some before = omega (arith, noted_at s same)
        kept_by s (inr other) some before = omega (arith, noted_other s other)

        -- what was noted stays
        pub noted_kept : (s : ℕ) → 0 < number → 0 < get_or walks s 0 → 0 < get_or (set walks state number) s 0
        noted_kept s some before = kept_by s (cases_eq s state) some before

        other_ended : (s : ℕ) → (s ≡ state) ⊎ (s ≢ state) → 0 < get_or (set walks state number) s 0
            → get_or (set walks state number) s 0 ≢ number → MovesOn table class s
        other_ended s (inl same) some differs = absurd (differs (noted_at s same))
        other_ended s (inr other) some differs =
            walked.ended s (omega (arith, noted_other s other)) (λ is. differs (noted_other s other ∙ is))

        leads_by : (next s : ℕ) → stay_next table class state ≡ Some next → (s ≡ state) ⊎ (s ≢ state)
            → get_or (set walks state number) s 0 ≡ number
            → (turns : ℕ) × (stay_after table class (suc turns) s ≡ Some next)
        leads_by next s is (inl same) noted =
            (0, subst (λ (n : ℕ). stay_after table class (suc 0) n ≡ Some next) (sym same) (then_zero (stay_next table class state) ∙ is))
        leads_by next s is (inr other) noted =
            let (turns, leads) = walked.leads s (sym (noted_other s other) ∙ noted) in
            (suc turns, stay_more (suc turns) s state leads ∙ is)

        -- a walk goes on
        pub walk_more : (next : ℕ) → stay_next table class state ≡ Some next
            → AreWalked table class (set walks state number) number next
        walk_more next is = record {
          long = length-set walks state number ∙ walked.long;
          low = λ s. low_by s (cases_eq s state);
          ended = λ s some differs. other_ended s (cases_eq s state) some differs;
          leads = λ s noted. leads_by next s is (cases_eq s state) noted;
        }

        left_here : stay_next table class state ≡ None → MovesOn table class state
        left_here is = (1, then_zero (stay_next table class state) ∙ is)

        left_by : stay_next table class state ≡ None → (s : ℕ) → (s ≡ state) ⊎ (s ≢ state)
            → 0 < get_or (set walks state number) s 0 → MovesOn table class s
        left_by is s (inl same) some = subst (λ (n : ℕ). MovesOn table class n) (sym same) (left_here is)
        left_by is s (inr other) some =
            ended_by (left_here is) s (cases_eq (get_or walks s 0) number) (omega (arith, noted_other s other))

        -- a walk ends
        pub walk_ends : stay_next table class state ≡ None → AreEnded table class (set walks state number) (number + 1)
        walk_ends is = record {
          long = length-set walks state number ∙ walked.long;
          below = λ s. low_by s (cases_eq s state);
          ended = λ s some. left_by is s (cases_eq s state) some;
        }

        -- where it began stays noted
        pub started_more : (start next : ℕ) → 0 < number → (0 < get_or walks start 0) ⊎ (state ≡ start)
            → 0 < get_or (set walks state number) start 0
        started_more start next some (inl before) = noted_kept start some before
        started_more start next some (inr same) = omega (arith, noted_at start (sym same))

-- no walk came to a state yet
pub ended_none : {T : Type 0} (table : TableValue (GenericStateEntry T)) (class : ℕ) (walks : List ℕ)
    → length walks ≡ 65536 → ((s : ℕ) → get_or walks s 0 ≡ 0) → AreEnded table class walks 1
ended_none table class walks long clear = record {
  long = long;
  below = λ s. omega (arith, clear s);
  ended = λ s some. absurd (omega (arith, clear s, some));
}

module _ (marks old new : List ℕ) (state : ℕ) (kept : (s : ℕ) → 0 < get_or old s 0 → 0 < get_or new s 0)
    (before : (s : ℕ) → s < state → is_marked marks s ≡ true → 0 < get_or old s 0)
    (here : is_marked marks state ≡ true → 0 < get_or new state 0) where
  noted_by : (s : ℕ) → (s < state) ⊎ (state ≤ s) → s < state + 1 → is_marked marks s ≡ true → 0 < get_or new s 0
  noted_by s (inl lt) below is = kept s (before s lt is)
  noted_by s (inr le) below is =
      let same : state ≡ s = omega arith in
      subst (λ (n : ℕ). is_marked marks n ≡ true → 0 < get_or new n 0) same here is

  -- one marked state more is noted
  pub noted_more : (s : ℕ) → s < state + 1 → is_marked marks s ≡ true → 0 < get_or new s 0
  noted_more s below is = noted_by s (cases_lt s state) below is

module _ {T : Type 0} (table : TableValue (GenericStateEntry T)) (class : ℕ)
    (before : (s k : ℕ) → 0 < k → k < class → IsReached table s → MovesOn table k s)
    (here : (s : ℕ) → IsReached table s → MovesOn table class s) where
  class_by : (s k : ℕ) → (k < class) ⊎ (class ≤ k) → 0 < k → k < class + 1 → IsReached table s → MovesOn table k s
  class_by s k (inl lt) some below reached = before s k some lt reached
  class_by s k (inr le) some below reached =
      let same : class ≡ k = omega arith in
      subst (λ (n : ℕ). MovesOn table n s) same (here s reached)

  -- one class more
  pub classes_more : (s k : ℕ) → 0 < k → k < class + 1 → IsReached table s → MovesOn table k s
  classes_more s k some below reached = class_by s k (cases_lt k class) some below reached
