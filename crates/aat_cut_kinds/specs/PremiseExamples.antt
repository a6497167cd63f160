-- What the premises on a cut are for: lines whose parts leave something else, since one premise on the place, on the
-- clusters or on what is left fails, and no other one, or since an entry is missing. The other subtables are settled.
use Rattle.std.specs.Prelude.{◌≡◌, ◌==◌, ℕ, Bool, pos, [], ◌∷◌}
use Rattle.aat_buffer.specs.Buffer.{Buffer, reversed}
use Rattle.aat_machine_tables.specs.Table.{TableValue}
use Rattle.aat_kinds.specs.Contextual.{Entry}
use Rattle.aat_kinds.specs.Insertion as insertion
use Rattle.aat_run.specs.Budget.{operations_left}
use Rattle.aat_cut_kinds.specs.CutExamples.{Leaves, contextual_table, entry_to, everywhere, line_of, line_with_budget, replaces_current, replacing_before_five, run_by, table_with}
use Rattle.aat_cut_kinds.specs.FallExamples.{put_in_backward, put_in_between}
use Rattle.aat_cut_kinds.specs.OtherCutExamples.{entry_with, put_in_by, puts_in, puts_none, putting_in_at_end, putting_in_with_a_gap}

-- an insertion run on the line in the opposite order
abbrev pub put_in_backward_by : (ℕ → Bool) → TableValue insertion.Entry → Buffer → Buffer
put_in_backward_by on table b = reversed (put_in_by on table (reversed b))

-- a glyph of class 1 is looked at twice (0x4000): the first entry stays, and the second replaces it
abbrev pub replacing_on_return : TableValue Entry
replacing_on_return =
    contextual_table [] ((0, 1, entry_to 1 0x4000 0xFFFF 0xFFFF) ∷ (1, 1, replaces_current) ∷ [])

-- the same, where the second puts a glyph in
abbrev pub putting_in_on_return : TableValue insertion.Entry
putting_in_on_return =
    table_with []
    ((0, 1, entry_with 1 0x4000 (record { current_insert_index = 0xFFFF; marked_insert_index = 0xFFFF }))
    ∷ (1, 1, puts_in) ∷ []) puts_none

-- a run leaves none of the budget
abbrev pub IsSpent : (Buffer → Buffer) → Buffer → Type 0
IsSpent run b = operations_left (run b).max_ops ≡ 0

-- Contextual. The two glyphs at the cut have one cluster, so that no mark tells of what is done over it; it is marked;
-- and the whole line spends its budget on the first glyph, where each part has that budget for itself.
pub record ContextualPremises : Type 0 where
  pub no_cluster_starts :
      Leaves (run_by everywhere replacing_before_five ((4, 7) ∷ [])) 1 (line_of ((4, 0) ∷ (5, 0) ∷ []))
      ((7, 0, 0) ∷ (5, 0, 0) ∷ []) ((4, 0, 0) ∷ []) ((5, 0, 0) ∷ [])
  pub the_cut_is_marked :
      Leaves (run_by everywhere replacing_before_five ((4, 7) ∷ [])) 1 (line_of ((4, 0) ∷ (5, 1) ∷ []))
      ((7, 0, 0) ∷ (5, 1, 3) ∷ []) ((4, 0, 0) ∷ []) ((5, 1, 0) ∷ [])
  pub the_budget_is_spent :
      Leaves (run_by everywhere replacing_on_return ((1, 3) ∷ [])) 1 (line_with_budget (pos 1) ((1, 1) ∷ (1, 2) ∷ []))
      ((3, 1, 0) ∷ (1, 2, 0) ∷ []) ((3, 1, 0) ∷ []) ((3, 2, 0) ∷ [])
  pub spent :
      IsSpent (run_by everywhere replacing_on_return ((1, 3) ∷ [])) (line_with_budget (pos 1) ((1, 1) ∷ (1, 2) ∷ []))

-- Insertion. The same; equal clusters neither rise nor fall.
pub record RisingPremises : Type 0 where
  pub no_cluster_starts :
      Leaves put_in_between 1 (line_of ((4, 1) ∷ (2, 1) ∷ [])) ((4, 1, 0) ∷ (1, 1, 0) ∷ (2, 1, 0) ∷ [])
      ((4, 1, 0) ∷ []) ((2, 1, 0) ∷ [])
  pub the_cut_is_marked :
      Leaves put_in_between 1 (line_of ((4, 1) ∷ (2, 2) ∷ [])) ((4, 1, 0) ∷ (1, 1, 0) ∷ (2, 2, 3) ∷ [])
      ((4, 1, 0) ∷ []) ((2, 2, 0) ∷ [])
  pub the_budget_is_spent :
      Leaves (put_in_by everywhere putting_in_on_return) 1 (line_with_budget (pos 2) ((2, 1) ∷ (2, 2) ∷ []))
      ((2, 1, 0) ∷ (1, 1, 0) ∷ (2, 2, 0) ∷ []) ((2, 1, 0) ∷ (1, 1, 0) ∷ []) ((2, 2, 0) ∷ (1, 2, 0) ∷ [])
  pub spent :
      IsSpent (put_in_by everywhere putting_in_on_return) (line_with_budget (pos 2) ((2, 1) ∷ (2, 2) ∷ []))

-- Insertion, where the clusters fall: a missing entry, a glyph that is off, and the budget.
pub record FallingPremises : Type 0 where
  pub a_missing_entry_ends_the_run :
      Leaves (put_in_by everywhere putting_in_with_a_gap) 1 (line_of ((4, 1) ∷ (65535, 0) ∷ []))
      ((4, 1, 0) ∷ (65535, 0, 0) ∷ []) ((4, 1, 0) ∷ []) ((65535, 0, 0) ∷ (1, 0, 0) ∷ [])
  pub no_turn_asks_where_it_is_off :
      Leaves (put_in_by (λ x. x == 8) putting_in_at_end) 1 (line_of ((2, 8) ∷ (4, 6) ∷ []))
      ((2, 8, 0) ∷ (4, 6, 0) ∷ []) ((2, 8, 0) ∷ (1, 8, 0) ∷ []) ((4, 6, 0) ∷ [])
  pub the_budget_is_spent :
      Leaves (put_in_by everywhere putting_in_on_return) 1 (line_with_budget (pos 2) ((2, 2) ∷ (2, 1) ∷ []))
      ((2, 2, 0) ∷ (1, 2, 0) ∷ (2, 1, 0) ∷ []) ((2, 2, 0) ∷ (1, 2, 0) ∷ []) ((2, 1, 0) ∷ (1, 1, 0) ∷ [])
  pub spent :
      IsSpent (put_in_by everywhere putting_in_on_return) (line_with_budget (pos 2) ((2, 2) ∷ (2, 1) ∷ []))

-- Insertion from the end of the line: a missing entry, a glyph before the cut that is off, equal clusters, a mark, and
-- the budget.
pub record BackwardPremises : Type 0 where
  pub a_missing_entry_ends_the_run :
      Leaves (put_in_backward_by everywhere putting_in_with_a_gap) 1 (line_of ((65535, 0) ∷ (4, 1) ∷ []))
      ((65535, 0, 0) ∷ (4, 1, 0) ∷ []) ((1, 0, 0) ∷ (65535, 0, 0) ∷ []) ((4, 1, 0) ∷ [])
  pub no_turn_asks_where_it_is_off :
      Leaves (put_in_backward_by (λ x. x == 8) putting_in_at_end) 1 (line_of ((4, 6) ∷ (2, 8) ∷ []))
      ((4, 6, 0) ∷ (2, 8, 0) ∷ []) ((4, 6, 0) ∷ []) ((1, 8, 0) ∷ (2, 8, 0) ∷ [])
  pub no_cluster_starts :
      Leaves put_in_backward 1 (line_of ((2, 1) ∷ (4, 1) ∷ [])) ((2, 1, 0) ∷ (1, 1, 0) ∷ (4, 1, 0) ∷ [])
      ((2, 1, 0) ∷ []) ((4, 1, 0) ∷ [])
  pub the_cut_is_marked :
      Leaves put_in_backward 1 (line_of ((2, 1) ∷ (4, 2) ∷ [])) ((2, 1, 0) ∷ (1, 2, 3) ∷ (4, 2, 3) ∷ [])
      ((2, 1, 0) ∷ []) ((4, 2, 0) ∷ [])
  pub the_budget_is_spent :
      Leaves (put_in_backward_by everywhere putting_in_on_return) 1 (line_with_budget (pos 2) ((2, 1) ∷ (2, 2) ∷ []))
      ((2, 1, 0) ∷ (1, 2, 0) ∷ (2, 2, 0) ∷ []) ((1, 1, 0) ∷ (2, 1, 0) ∷ []) ((1, 2, 0) ∷ (2, 2, 0) ∷ [])
  pub spent :
      IsSpent (put_in_backward_by everywhere putting_in_on_return)
      (line_with_budget (pos 2) ((2, 1) ∷ (2, 2) ∷ []))
