-- Glyphs that are known not to wake a subtable.
use Rattle.std.proofs.Common.{◌≡◌, ◌∙◌, ap, subst, refl, ℕ, Bool, true, false, cond, is_none, unwrap_or, Option, Some, None, List}
use Rattle.std.specs.Option.{IfSome}
use Rattle.aat_machine_tables.specs.Entries.{goes_on}
use Rattle.aat_font.specs.Idle.{is_idle, is_idle_at_end, is_idle_class, is_idle_glyph, rearrangement_rests, contextual_rests, ligature_rests, insertion_rests}
use Rattle.aat_lookup.specs.Keys.{value_in}
use Rattle.aat_machine_tables.specs.Table.{TableValue, class_of}
use Rattle.aat_machine_tables.specs.Subtables.{ContextualTables, LigatureTables, InsertionTables}
use Rattle.aat_machine_tables.specs.declared.morx.SubtableKind.{SubtableKind}
use Rattle.aat_machine_tables.specs.declared.morx.SubtableKind.TheVariants.{Rearrangement, Contextual, Ligature, NonContextual, Insertion}
use Rattle.aat_machine_tables.specs.declared.state_table.GenericStateEntry.{GenericStateEntry}
use Rattle.aat_glyph.specs.declared.glyph.hb_glyph_info_t.{hb_glyph_info_t}
use Rattle.aat_kinds.specs.Idle.{SleepOthers, has_no_value}
use Rattle.aat_kinds.specs.Values.{with_answer, with_looked_up_value}
use Rattle.aat_run.specs.Waking.{PassesOthers}
use Rattle.aat_run.specs.declared.wakers.Wakers.{Wakers}
use Rattle.aat_run.specs.facts.IdleRuns.{both}

-- the machine passes a glyph that is idle
pub passing_of :
    {T : Type 0} (rests : GenericStateEntry T → Bool) (table : TableValue (GenericStateEntry T)) (o : Option Wakers)
    → IfSome o (SleepOthers (is_idle_glyph rests table)) → IfSome o (PassesOthers goes_on rests table)
passing_of rests table None sleep = sleep
passing_of rests table (Some w) sleep =
    (sleep.0, λ g clear. (both (is_idle_at_end rests table) (is_idle_class rests table (unwrap_or (class_of table g) 1)) (sleep.1 g clear)).1)

no_value : (o : Option ℕ) → is_none o ≡ true → o ≡ None
no_value None h = refl
no_value (Some v) h = cc

-- a glyph without a value stays, on or off
pub valueless_stays :
    (on : ℕ → Bool) (classes : Option (List (ℕ × ℕ))) (lookup : List (ℕ × ℕ)) (g : hb_glyph_info_t)
    → has_no_value lookup g.glyph_id ≡ true → with_looked_up_value on classes lookup g ≡ g
valueless_stays on classes lookup g none =
    ap (λ (o : Option ℕ). cond (on g.cluster) (with_answer classes o g) g) (no_value (value_in lookup g.glyph_id) none) ∙ stays (on g.cluster)
  where
    stays : (b : Bool) → cond b g g ≡ g
    stays true = refl
    stays false = refl

-- what is known of a subtable, by its kind
module _ (kind : SubtableKind) (o : Option Wakers) (sleep : IfSome o (SleepOthers (is_idle kind))) where
  as_kind : (k : SubtableKind) → kind ≡ k → IfSome o (SleepOthers (is_idle k))
  as_kind k is = subst (λ (x : SubtableKind). IfSome o (SleepOthers (is_idle x))) is sleep

  pub of_rearrangement : (table : TableValue (GenericStateEntry (Unit {0}))) → kind ≡ Rearrangement table → IfSome o (SleepOthers (is_idle_glyph rearrangement_rests table))
  unfolding is_idle
  of_rearrangement table is = as_kind (Rearrangement table) is

  pub of_contextual : (s : ContextualTables) → kind ≡ Contextual s → IfSome o (SleepOthers (is_idle_glyph contextual_rests s.state))
  unfolding is_idle
  of_contextual s is = as_kind (Contextual s) is

  pub of_ligature : (s : LigatureTables) → kind ≡ Ligature s → IfSome o (SleepOthers (is_idle_glyph ligature_rests s.state))
  unfolding is_idle
  of_ligature s is = as_kind (Ligature s) is

  pub of_noncontextual : (lookup : List (ℕ × ℕ)) → kind ≡ NonContextual lookup → IfSome o (SleepOthers (has_no_value lookup))
  unfolding is_idle
  of_noncontextual lookup is = as_kind (NonContextual lookup) is

  pub of_insertion : (s : InsertionTables) → kind ≡ Insertion s → IfSome o (SleepOthers (is_idle_glyph insertion_rests s.state))
  unfolding is_idle
  of_insertion s is = as_kind (Insertion s) is
