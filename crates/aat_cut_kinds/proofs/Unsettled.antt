-- The verdicts on the machines of the examples, from reached state to reached state, and by the tests of labellings.
use Rattle.std.proofs.Common.{◌≡◌, ℕ, ◌≤◌, ◌<◌, ◌⊎◌, inl, inr, Bool, true, false, cond, if◌then◌else◌, nat_lt, Some, None, [], ◌∷◌, subst, sym, ◌∙◌, refl, arith, lit<}
use Rattle.std.specs.Prelude.{◌==◌}
use Rattle.std.proofs.lemmas.Bool.{cases_lt}
use Rattle.aat_machine_tables.specs.Table.{TableValue, entry_of}
use Rattle.aat_machine_tables.specs.declared.state_table.GenericStateEntry.{GenericStateEntry}
use Rattle.aat_kinds.specs.Contextual.{Entry}
use Rattle.aat_cut_kinds.specs.CutExamples.{entry_to, idle_to, marked_till_end, marking_apart, marks_to, missing_a_lookup, replaces_current, replaces_marked, replacing_at_end, replacing_before_five, replacing_with_a_gap}
use Rattle.aat_cut_kinds.specs.EmptyRunExamples.{naming_a_run, puts_none_at_mark}
use Rattle.aat_cut_kinds.specs.FallExamples.{putting_in_between}
use Rattle.aat_cut_kinds.specs.OtherCutExamples.{ending_and_moving, entry_with, moving_deleted, moving_to_start, pushing_apart, pushing_in_start, putting_in_at_end, putting_in_with_a_gap}
use Rattle.aat_cut_kinds.specs.PremiseExamples.{putting_in_on_return, replacing_on_return}
use Rattle.aat_cut_kinds.specs.Settled.{IsPlain}
use Rattle.aat_cuts.specs.Held.{HoldsOver, IsLigatureAgreeing, IsLigatureTidy, IsSufficient}
use Rattle.aat_cuts.specs.Kinds.{IsContextualSettled, IsInsertionSettled, IsQuietAtEnd, IsRearrangementSettled}
use Rattle.aat_cuts.specs.Reached.{AreFollowed, IsComplete, IsReached}
use Rattle.aat_cuts.specs.Settled.{IsRegisterUnsettled, MayBeUnset, MayBeUsed, Register, the_end_set_by, the_mark}
use Rattle.aat_cut_kinds.specs.UnsettledExamples.{CaseVerdicts, FailedPremises, IsIncomplete, IsNeverTidy}
use Rattle.aat_cut_kinds.proofs.Labelled.{agreeing_by, complete_by, quiet_by, sufficient_by, tidy_by}

module _ {T : Type 0} (table : TableValue (GenericStateEntry T)) (is_reached : ℕ → Bool) (complete : IsComplete table is_reached) where
  -- the state that an entry of a reached one leads to is reached
  leads : (s k : ℕ) (e : GenericStateEntry T) → is_reached s ≡ true → entry_of table s k ≡ Some e → is_reached e.new_state ≡ true
  leads s k e here is =
      let (f, there, next) = complete.entries s k here in
      let equal : Some f ≡ Some e = sym there ∙ is in
      let same : f ≡ e = cc in
      subst (λ (g : GenericStateEntry T). is_reached g.new_state ≡ true) same next

  -- a reached state lacks no entry
  lacks_none : (s k : ℕ) → is_reached s ≡ true → entry_of table s k ≡ None → ⊥
  lacks_none s k here missing =
      let (f, there, next) = complete.entries s k here in
      let equal : Some f ≡ None = sym there ∙ missing in cc

clash : (b : Bool) → b ≡ true → b ≡ false → ⊥
clash b is is_not = let both : true ≡ false = sym is ∙ is_not in cc

-- contextual: no labelling goes with the entry for the end of the text
untidy_at_end : IsNeverTidy marked_till_end (the_mark 1)
untidy_at_end is_reached is_live complete tidy =
    let one : is_reached 1 ≡ true = leads marked_till_end is_reached complete 0 4 (idle_to 1) complete.first refl in
    let live : is_live 1 ≡ true = tidy.at_end 1 replaces_current one refl refl in
    clash (is_live 0) (tidy.kept 0 4 (idle_to 1) complete.first (2, refl) refl live) tidy.first

-- nor with the one that asks for the mark behind the missing lookup
untidy_unanswered : IsNeverTidy missing_a_lookup (the_mark 1)
untidy_unanswered is_reached is_live complete tidy =
    let one : is_reached 1 ≡ true = leads missing_a_lookup is_reached complete 0 3 (entry_to 1 0x8000 0xFFFF 9) complete.first refl in
    let live : is_live 1 ≡ true = tidy.used 1 4 replaces_marked one refl refl in
    clash (is_live 0) (tidy.kept 0 3 (entry_to 1 0x8000 0xFFFF 9) complete.first (5, refl) refl live) tidy.first

-- one of two entries that are taken for one sets the mark
disagreeing_apart : IsRegisterUnsettled marking_apart (the_mark 1)
disagreeing_apart is_reached is_live complete tidy agreeing =
    let one : is_reached 1 ≡ true = leads marking_apart is_reached complete 0 1 (marks_to 1) complete.first refl in
    let live : is_live 1 ≡ true = tidy.used 1 4 replaces_marked one refl refl in
    let both : false ≡ true = agreeing.agreed 1 1 (idle_to 1) (marks_to 1) one (0, refl) refl refl refl refl refl refl live in
    cc

incomplete_contextual : IsIncomplete replacing_with_a_gap
incomplete_contextual is_reached complete = lacks_none replacing_with_a_gap is_reached complete 0 3 complete.first refl

incomplete_insertion : IsIncomplete putting_in_with_a_gap
incomplete_insertion is_reached complete = lacks_none putting_in_with_a_gap is_reached complete 0 1 complete.first refl

never_contextual : (table : TableValue Entry) (lookups : ℕ) → IsRegisterUnsettled table (the_mark lookups) → IsContextualSettled table lookups → ⊥
never_contextual table lookups never (is_reached, complete, (is_live, tidy, agreeing)) = never is_reached is_live complete tidy agreeing

-- where none is tidy, none is tidy and agreeing
never_loose : {T : Type 0} (table : TableValue (GenericStateEntry T)) (register : Register T) → IsNeverTidy table register → IsRegisterUnsettled table register
never_loose table register never is_reached is_live complete tidy agreeing = never is_reached is_live complete tidy

-- ligature: state 0 takes a component, and holds none
untidy_in_start :
    (is_reached is_here : ℕ → Bool) (held : ℕ → ℕ) → IsComplete pushing_in_start is_reached
    → IsLigatureTidy pushing_in_start (0xFFFFFFFF ∷ []) is_reached is_here held → ⊥
untidy_in_start is_reached is_here held complete tidy =
    let enough : 1 ≤ held 0 = tidy.sufficient.enough 0 3 (entry_with 0 0x2000 0) complete.first (1, refl) refl (tidy.few 0 complete.first) in
    let none : held 0 ≡ 0 = tidy.first in
    absurd (omega (arith, enough, none))

too_few_by :
    (is_reached is_here : ℕ → Bool) (held : ℕ → ℕ) → AreFollowed pushing_in_start is_reached
    → IsSufficient pushing_in_start (0xFFFFFFFF ∷ []) is_reached is_here held → (64 < held 0) ⊎ (held 0 ≤ 64) → 0 < held 0
too_few_by is_reached is_here held followed sufficient (inl more) = omega arith
too_few_by is_reached is_here held followed sufficient (inr few) =
    let enough : 1 ≤ held 0 = sufficient.enough 0 3 (entry_with 0 0x2000 0) followed.first (1, refl) refl few in
    omega (arith, enough)

too_few_in_start : HoldsOver pushing_in_start (0xFFFFFFFF ∷ []) 0 0
too_few_in_start is_reached is_here held followed sufficient = too_few_by is_reached is_here held followed sufficient (cases_lt 64 (held 0))

-- one of two entries that are taken for one pushes
disagreeing_in_push :
    (is_reached is_here : ℕ → Bool) (held : ℕ → ℕ) → IsComplete pushing_apart is_reached
    → IsLigatureTidy pushing_apart (0xBFFFFFFF ∷ []) is_reached is_here held → IsLigatureAgreeing pushing_apart is_reached held → ⊥
disagreeing_in_push is_reached is_here held complete tidy agreeing =
    let one : is_reached 1 ≡ true = leads pushing_apart is_reached complete 0 1 (entry_with 1 0x8000 0) complete.first refl in
    let enough : 1 ≤ held 1 = tidy.sufficient.enough 1 4 (entry_with 0 0x2000 0) one (1, refl) refl (tidy.few 1 one) in
    let both : false ≡ true = agreeing.agreed 1 1 (entry_with 1 0 0) (entry_with 1 0x8000 0) one (0, refl) refl refl refl refl refl refl (omega (arith, enough)) in
    cc

-- the component that is held in state 1
one_held : ℕ → ℕ
one_held s = if s == 1 then 1 else 0

-- rearrangement: the entry for the end of the text asks for a start that is not set, and moves glyphs
untidy_start : IsNeverTidy ending_and_moving (the_end_set_by 0x8000)
untidy_start is_reached is_live complete tidy = clash (is_live 0) (tidy.used 0 0 (entry_with 0 0x2004 tt) complete.first refl refl) tidy.first

unquiet_at_end : (is_reached : ℕ → Bool) → IsComplete ending_and_moving is_reached → IsQuietAtEnd ending_and_moving is_reached → ⊥
unquiet_at_end is_reached complete quiet = let both : true ≡ false = quiet 0 (entry_with 0 0x2004 tt) complete.first refl in cc

settled_contextual : IsContextualSettled replacing_before_five 1
settled_contextual =
    (λ s. nat_lt s 2, complete_by replacing_before_five 2 (lit< tt) refl refl, (λ s. s == 1, tidy_by replacing_before_five 2 (lit< tt) (the_mark 1) (λ s. s == 1) refl refl, agreeing_by replacing_before_five 2 (lit< tt) (the_mark 1) (λ s. s == 1) refl))

settled_for_an_end : IsContextualSettled replacing_at_end 1
settled_for_an_end =
    (λ s. nat_lt s 2, complete_by replacing_at_end 2 (lit< tt) refl refl, (λ s. s == 1, tidy_by replacing_at_end 2 (lit< tt) (the_mark 1) (λ s. s == 1) refl refl, agreeing_by replacing_at_end 2 (lit< tt) (the_mark 1) (λ s. s == 1) refl))

settled_to_start : IsRearrangementSettled moving_to_start
settled_to_start = (
  λ s. nat_lt s 2,
  complete_by moving_to_start 2 (lit< tt) refl refl,
  (λ s. s == 1, tidy_by moving_to_start 2 (lit< tt) (the_end_set_by 0x8000) (λ s. s == 1) refl refl, agreeing_by moving_to_start 2 (lit< tt) (the_end_set_by 0x8000) (λ s. s == 1) refl),
  (λ s. false, tidy_by moving_to_start 2 (lit< tt) (the_end_set_by 0x2000) (λ s. false) refl refl, agreeing_by moving_to_start 2 (lit< tt) (the_end_set_by 0x2000) (λ s. false) refl),
  quiet_by moving_to_start 2 (lit< tt) refl,
)

settled_deleted : IsRearrangementSettled moving_deleted
settled_deleted = (
  λ s. nat_lt s 2,
  complete_by moving_deleted 2 (lit< tt) refl refl,
  (λ s. s == 1, tidy_by moving_deleted 2 (lit< tt) (the_end_set_by 0x8000) (λ s. s == 1) refl refl, agreeing_by moving_deleted 2 (lit< tt) (the_end_set_by 0x8000) (λ s. s == 1) refl),
  (λ s. false, tidy_by moving_deleted 2 (lit< tt) (the_end_set_by 0x2000) (λ s. false) refl refl, agreeing_by moving_deleted 2 (lit< tt) (the_end_set_by 0x2000) (λ s. false) refl),
  quiet_by moving_deleted 2 (lit< tt) refl,
)

settled_on_return : IsContextualSettled replacing_on_return 1
settled_on_return =
    (λ s. nat_lt s 2, complete_by replacing_on_return 2 (lit< tt) refl refl, (λ s. false, tidy_by replacing_on_return 2 (lit< tt) (the_mark 1) (λ s. false) refl refl, agreeing_by replacing_on_return 2 (lit< tt) (the_mark 1) (λ s. false) refl))

settled_at_end : IsInsertionSettled putting_in_at_end
settled_at_end = (λ s. nat_lt s 1, complete_by putting_in_at_end 1 (lit< tt) refl refl)

-- insertion: the entry for the end of the text names a run and puts no glyphs in
not_plain_where_named : IsPlain naming_a_run → ⊥
not_plain_where_named plain = let (marked, current) = plain 0 0 puts_none_at_mark refl refl in let both : true ≡ false = marked in cc

-- state 1 is reached
one_at_end : IsReached marked_till_end 1
one_at_end states followed = followed.next 0 4 (idle_to 1) followed.first refl

one_apart : IsReached marking_apart 1
one_apart states followed = followed.next 0 1 (marks_to 1) followed.first refl

one_unanswered : IsReached missing_a_lookup 1
one_unanswered states followed = followed.next 0 3 (entry_to 1 0x8000 0xFFFF 9) followed.first refl

one_pushed : IsReached pushing_apart 1
one_pushed states followed = followed.next 0 1 (entry_with 1 0x8000 0) followed.first refl

-- and a run may come to it that has not set the mark, or from there on use it
unset_at_end : MayBeUnset marked_till_end (the_mark 1) 1
unset_at_end states unset = unset.next 0 4 (idle_to 1) unset.first (2, refl) refl refl

unset_unanswered : MayBeUnset missing_a_lookup (the_mark 1) 1
unset_unanswered states unset = unset.next 0 3 (entry_to 1 0x8000 0xFFFF 9) unset.first (5, refl) refl refl

used_apart : MayBeUsed marking_apart (the_mark 1) 1
used_apart states users = users.used 1 4 replaces_marked refl refl

-- and a component has to be held in it
some_by :
    (is_reached is_here : ℕ → Bool) (held : ℕ → ℕ) → AreFollowed pushing_apart is_reached
    → IsSufficient pushing_apart (0xBFFFFFFF ∷ []) is_reached is_here held → (64 < held 1) ⊎ (held 1 ≤ 64) → 0 < held 1
some_by is_reached is_here held followed sufficient (inl more) = omega arith
some_by is_reached is_here held followed sufficient (inr few) =
    let one : is_reached 1 ≡ true = one_pushed is_reached followed in
    let enough : 1 ≤ held 1 = sufficient.enough 1 4 (entry_with 0 0x2000 0) one (1, refl) refl few in
    omega (arith, enough)

some_behind : HoldsOver pushing_apart (0xBFFFFFFF ∷ []) 1 0
some_behind is_reached is_here held followed sufficient = some_by is_reached is_here held followed sufficient (cases_lt 64 (held 1))

pub case_verdicts : CaseVerdicts
case_verdicts = record {
  a_settled_table_is_cut = settled_contextual;
  a_mark_outlives_the_cut =
      (never_contextual marked_till_end 1 (never_loose marked_till_end (the_mark 1) untidy_at_end), one_at_end, (the_mark 1, refl, (replaces_current, refl, refl, unset_at_end)));
  two_entries_set_the_mark_differently =
      (never_contextual marking_apart 1 disagreeing_apart, one_apart, (the_mark 1, refl, (idle_to 1, marks_to 1, refl, refl, refl, refl, refl, refl, λ same. cc, used_apart, (0, refl))));
  a_contextual_entry_is_missing =
      (λ (is_reached, complete, set). incomplete_contextual is_reached complete, λ states followed. followed.first, refl);
  a_missing_lookup_sets_no_mark =
      (never_contextual missing_a_lookup 1 (never_loose missing_a_lookup (the_mark 1) untidy_unanswered), one_unanswered, (the_mark 1, refl, (replaces_marked, refl, refl, unset_unanswered)));
  a_contextual_subtable_is_off = settled_for_an_end;
  a_component_outlives_the_cut = (
    λ (is_reached, complete, is_here, held, tidy, agreeing). untidy_in_start is_reached is_here held complete tidy,
    λ states followed. followed.first,
    too_few_in_start,
  );
  two_entries_push_differently = (
    λ (is_reached, complete, is_here, held, tidy, agreeing). disagreeing_in_push is_reached is_here held complete tidy agreeing,
    one_pushed,
    (refl, (entry_with 1 0 0, entry_with 1 0x8000 0, refl, refl, refl, refl, refl, refl, λ same. cc, some_behind, (0, refl))),
  );
  the_end_of_the_text_acts = (
    λ (is_reached, complete, start, end, quiet). unquiet_at_end is_reached complete quiet,
    λ states followed. followed.first,
    (entry_with 0 0x2004 tt, refl, refl),
  );
  the_end_of_the_text_asks_for_a_start = (
    λ (is_reached, complete, (is_live, tidy, agreeing), end, quiet). untidy_start is_reached is_live complete tidy,
    λ states followed. followed.first,
    (the_end_set_by 0x8000, refl, (entry_with 0 0x2004 tt, refl, refl, λ states unset. unset.first)),
  );
  the_marked_glyph_moves = settled_to_start;
  a_merge_splits_a_cluster = settled_deleted;
  an_insertion_subtable_is_off = settled_at_end;
  an_insertion_entry_is_missing =
      (λ (is_reached, complete). incomplete_insertion is_reached complete, λ states followed. followed.first, refl);
  a_contextual_budget_is_spent = settled_on_return;
  an_insertion_budget_is_spent = (λ s. nat_lt s 2, complete_by putting_in_on_return 2 (lit< tt) refl refl);
  a_glyph_goes_in_over_the_cut = (λ s. nat_lt s 2, complete_by putting_in_between 2 (lit< tt) refl refl);
  a_run_of_no_glyphs_is_named = (λ s. nat_lt s 2, complete_by naming_a_run 2 (lit< tt) refl refl);
  an_entry_is_not_plain = not_plain_where_named;
}

-- of the machine of two entries that push differently
held_apart : IsSufficient pushing_apart (0xBFFFFFFF ∷ []) (λ s. nat_lt s 2) (λ s. false) one_held
unfolding one_held
held_apart = sufficient_by pushing_apart 2 (lit< tt) (0xBFFFFFFF ∷ []) (λ s. false) one_held refl refl refl

few_by : (b : Bool) → cond {A = ℕ} b 1 0 ≤ 64
few_by true = omega arith
few_by false = omega arith

few_apart : (s : ℕ) → one_held s ≤ 64
unfolding one_held
few_apart s = few_by (s == 1)

tidy_apart : IsLigatureTidy pushing_apart (0xBFFFFFFF ∷ []) (λ s. nat_lt s 2) (λ s. false) one_held
unfolding one_held
tidy_apart = record { first = refl; few = λ s is. few_apart s; sufficient = held_apart }

pub failed_premises : FailedPremises
failed_premises = record {
  a_mark_outlives_the_cut = record {
    states = λ s. nat_lt s 2;
    complete = complete_by marked_till_end 2 (lit< tt) refl refl;
    untidy = untidy_at_end;
  };
  two_entries_set_the_mark_differently = record {
    states = λ s. nat_lt s 2;
    complete = complete_by marking_apart 2 (lit< tt) refl refl;
    live = λ s. s == 1;
    tidy = tidy_by marking_apart 2 (lit< tt) (the_mark 1) (λ s. s == 1) refl refl;
    disagreeing = disagreeing_apart;
  };
  a_contextual_entry_is_missing = incomplete_contextual;
  a_missing_lookup_sets_no_mark = record {
    states = λ s. nat_lt s 2;
    complete = complete_by missing_a_lookup 2 (lit< tt) refl refl;
    untidy = untidy_unanswered;
  };
  a_component_outlives_the_cut = record {
    states = λ s. nat_lt s 1;
    complete = complete_by pushing_in_start 1 (lit< tt) refl refl;
    untidy = untidy_in_start;
  };
  two_entries_push_differently = record {
    states = λ s. nat_lt s 2;
    complete = complete_by pushing_apart 2 (lit< tt) refl refl;
    here = λ s. false;
    number = one_held;
    tidy = tidy_apart;
    disagreeing = disagreeing_in_push;
  };
  the_end_of_the_text_acts = record {
    states = λ s. nat_lt s 1;
    complete = complete_by ending_and_moving 1 (lit< tt) refl refl;
    untidy = untidy_start;
  };
  an_insertion_entry_is_missing = incomplete_insertion;
}
