-- The entries of a table as a list.
use Rattle.std.proofs.Common.{◌≡◌, ℕ, ◌+◌, ◌<◌, ◌≤◌, ◌⊎◌, inl, inr, Some, List, [], ◌∷◌, ◌++◌, subst, sym, ap, ◌∙◌, arith}
use Rattle.std.specs.List.{All, Contains}
use Rattle.std.proofs.lemmas.Bool.{cases_lt}
use Rattle.std.proofs.lemmas.List.Elements.{All-push, Contains-append_left, Contains-push}
use Rattle.aat_machine_tables.specs.Table.{Rule, TableValue, entry_of}
use Rattle.aat_machine_tables.specs.declared.state_table.GenericStateEntry.{GenericStateEntry}
use Rattle.aat_cuts.specs.Reached.{AreGathered, HasRow, IsCell, IsWhole}

module _ {T : Type 0} (table : TableValue (GenericStateEntry T)) (old new : List (Rule (GenericStateEntry T))) (state : ℕ)
    (before : AreGathered table old state) (kept : (c : Rule (GenericStateEntry T)) → Contains old c → Contains new c)
    (row : IsWhole table state → HasRow table new state) where
  row_of : (s : ℕ) → (s < state) ⊎ (state ≤ s) → s < state + 1 → IsWhole table s → HasRow table new s
  row_of s (inl lt) below whole k e within is = kept (s, k, e) (before.whole s lt whole k e within is)
  row_of s (inr le) below whole k e within is =
      let same : state ≡ s = omega arith in
      subst (λ (n : ℕ). IsWhole table n → HasRow table new n) same row whole k e within is

  -- one state more
  pub gathered_more : All (IsCell table) new → AreGathered table new (state + 1)
  gathered_more sound = record {
    sound = sound;
    whole = λ s below whole. row_of s (cases_lt s state) below whole;
  }

module _ {T : Type 0} (table : TableValue (GenericStateEntry T)) (old new : List (Rule (GenericStateEntry T)))
    (state class : ℕ) (entry : GenericStateEntry T) (pushed : new ≡ old ++ (state, class, entry) ∷ [])
    (is : entry_of table state class ≡ Some entry) where
  pub sound_more : All (IsCell table) old → All (IsCell table) new
  sound_more before =
      subst (λ (l : List (Rule (GenericStateEntry T))). All (IsCell table) l) (sym pushed) (All-push (IsCell table) old (state, class, entry) before is)

  -- what was kept stays kept
  pub kept_more : (c : Rule (GenericStateEntry T)) → Contains old c → Contains new c
  kept_more c here =
      subst (λ (l : List (Rule (GenericStateEntry T))). Contains l c) (sym pushed) (Contains-append_left old ((state, class, entry) ∷ []) c here)

  new_one : Contains new (state, class, entry)
  new_one =
      subst (λ (l : List (Rule (GenericStateEntry T))). Contains l (state, class, entry)) (sym pushed) (Contains-push old (state, class, entry))

  row_at :
      ((k : ℕ) (e : GenericStateEntry T) → k < class → entry_of table state k ≡ Some e → Contains old (state, k, e))
      → (k : ℕ) (e : GenericStateEntry T) → (k < class) ⊎ (class ≤ k) → k < class + 1 → entry_of table state k ≡ Some e
      → Contains new (state, k, e)
  row_at before k e (inl lt) below here = kept_more (state, k, e) (before k e lt here)
  row_at before k e (inr le) below here =
      let same : class ≡ k = omega arith in
      let equal : Some entry ≡ Some e = sym is ∙ ap (entry_of table state) same ∙ here in
      let entries : entry ≡ e = cc in
      subst (λ (f : GenericStateEntry T). Contains new (state, k, f)) entries
      (subst (λ (n : ℕ). Contains new (state, n, entry)) same new_one)

  -- one class more of a row
  pub row_more :
      ((k : ℕ) (e : GenericStateEntry T) → k < class → entry_of table state k ≡ Some e → Contains old (state, k, e))
      → (k : ℕ) (e : GenericStateEntry T) → k < class + 1 → entry_of table state k ≡ Some e → Contains new (state, k, e)
  row_more before k e below here = row_at before k e (cases_lt k class) below here
