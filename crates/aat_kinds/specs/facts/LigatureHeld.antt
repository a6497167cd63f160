-- The laws of the ligature act over what a context holds, and its run.
use Rattle.std.proofs.Common.{◌≡◌, ◌⊎◌, inl, inr, ℕ, ◌+◌, ◌-◌, ◌%◌, ◌<◌, ◌≤◌, ◌&&◌, ◌==◌, Bool, false, List, length, refl, ap, sym, arith, nat_lt, get_or-set_same, length-set}
use Rattle.std.proofs.lemmas.Bool.{false≢true, cases_lt}
use Rattle.std.proofs.lemmas.Bool.Decides.{nat_tests}
use Rattle.std.specs.Prelude.{slice_set}
use Rattle.aat_buffer.specs.Buffer.{Buffer}
use Rattle.aat_buffer.specs.facts.Cases.{chosen}
use Rattle.aat_machine_tables.specs.Entries.{has_flag, goes_on}
use Rattle.aat_machine_tables.specs.Table.{TableValue, class_of, entry_of}
use Rattle.aat_lookup.specs.declared.glyph_id.GlyphId.{GlyphId}
use Rattle.aat_machine_tables.specs.declared.state_table.GenericStateEntry.{GenericStateEntry}
use Rattle.aat_run.specs.Context.{start}
use Rattle.aat_run.specs.Driven.{context_from, machine_run, outcome_of}
use Rattle.aat_run.specs.Laws.{KeepsFit, PassesFit, Pays, Bounded, Lengthens, KeepsLength, MakesNoPositions, KeepsSettings, KeepsPlaceWhere, KeepsClusterOrder, FitsFresh, FitsWhereFresh}
use Rattle.aat_run.specs.facts.Views.{whole_is_seen}
use Rattle.aat_kinds.specs.Kinds.{ligature_run}
use Rattle.aat_kinds.specs.Ligature.{Registers, Held, IsHeldFit, IsHeldFresh, act, component, fresh, held_act, held_actionable, with_component, with_place_held}
use Rattle.aat_kinds.specs.facts.LigatureLaws as laws
use Rattle.aat_kinds.specs.facts.OrderHolds.{ligature_kept}

abbrev pub held : List ℕ → List ℕ → List GlyphId → Registers → Held
held actions values ligatures r = record { actions = actions; components = values; ligatures = ligatures; registers = r }

-- how many components are held at a cursor, and which is the newest where there are most
record IsCounted (r : Registers) (p : ℕ) : Type 0 where
  few : r.count ≤ p + 1
  newest : p < r.count → component r (r.count - 1) ≡ p

pub fits_fresh : (size : ℕ) (actions values : List ℕ) (ligatures : List GlyphId) → 0 < size → FitsFresh IsHeldFit (held actions values ligatures (fresh size))
fits_fresh size actions values ligatures some n = record { fit = laws.fits_fresh size some n; few = omega arith; newest = λ low. absurd (omega arith) }

pub fits_where_fresh : FitsWhereFresh IsHeldFresh IsHeldFit
fits_where_fresh h fresh n = record {
  fit = record { some = fresh.some; within = λ j below. absurd (omega (arith, below, fresh.none)) };
  few = omega (arith, fresh.none);
  newest = λ low. absurd (omega (arith, low, fresh.none));
}

pub passes_fit : PassesFit IsHeldFit
passes_fit s p n fit below = record { fit = laws.passes_fit s.registers p n fit.fit below; few = omega (arith, fit.few); newest = λ low. absurd (omega (arith, low, fit.few)) }

-- where the newest place is not the cursor, no more are held than glyphs have been passed
few_of : (k p newest : ℕ) → (p < k → newest ≡ p) → (nat_lt 0 k && (newest == p)) ≡ false → k ≤ p
few_of k p newest same other = by_place (cases_lt p k)
  where
    by_place : (p < k) ⊎ (k ≤ p) → k ≤ p
    by_place (inl low) = let e = same low in grind (arith, nat_tests, other, e, low)
    by_place (inr high) = high

-- a place that is held at the cursor
counted_of_push : (r : Registers) (p : ℕ) → 0 < length r.slots → IsCounted r p → IsCounted (with_place_held r p) p
counted_of_push r p some c =
    chosen (λ s. IsCounted s p) (nat_lt 0 r.count && (component r (r.count - 1) == p)) r (record { count = r.count + 1; slots = slice_set r.slots (r.count % length r.slots) p })
    (λ _. c)
    (λ no. record {
      few = omega (arith, few_of r.count p (component r (r.count - 1)) c.newest no);
      newest = λ low.
          let same : r.count + 1 - 1 ≡ r.count = omega arith in
          rw (same, length-set r.slots (r.count % length r.slots) p) (get_or-set_same r.slots (r.count % length r.slots) p 0 (grind (arith, some)));
    })

counted_of_component : (e : GenericStateEntry ℕ) (r : Registers) (p : ℕ) → 0 < length r.slots → IsCounted r p → IsCounted (with_component e r p) p
counted_of_component e r p some c = chosen (λ s. IsCounted s p) (has_flag e 0x8000) (with_place_held r p) r (λ _. counted_of_push r p some c) (λ _. c)

-- fewer components in the same slots
counted_of_fewer : (r s : Registers) (p : ℕ) → s.slots ≡ r.slots → s.count ≤ r.count → IsCounted r p → IsCounted s p
counted_of_fewer r s p slots fewer c = record {
  few = omega (arith, fewer, c.few);
  newest = λ low.
      let same : s.count ≡ r.count = omega (arith, low, fewer, c.few) in
      rw (slots, same) (c.newest (omega (arith, low, fewer)));
}

-- an act leaves the slots as a push leaves them, and no more components
counted_of_act : (actions values : List ℕ) (ligatures : List GlyphId) (e : GenericStateEntry ℕ) (r : Registers) (b : Buffer) → 0 < length r.slots → IsCounted r b.cursor → IsCounted (act actions values ligatures e r b).registers b.cursor
counted_of_act actions values ligatures e r b some c =
    let s = with_component e r b.cursor in
    let d = laws.slots_of_act actions values ligatures e r b in
    counted_of_fewer s (act actions values ligatures e r b).registers b.cursor d.slots d.count (counted_of_component e r b.cursor some c)

pub keeps_fit : KeepsFit held_act IsHeldFit
keeps_fit e s b fit below =
    let cursor : (held_act e s b).buffer.cursor ≡ b.cursor = laws.keeps_cursor s.actions s.components s.ligatures e s.registers b fit.fit in
    let c = counted_of_act s.actions s.components s.ligatures e s.registers b fit.fit.some (record { few = fit.few; newest = fit.newest }) in
    record {
      fit = laws.keeps_fit s.actions s.components s.ligatures e s.registers b fit.fit below;
      few = rw cursor c.few;
      newest = rw cursor c.newest;
    }

pub pays : Pays held_act IsHeldFit
pays e s b fit = laws.pays s.actions s.components s.ligatures e s.registers b fit.fit

pub bounded : Bounded held_act IsHeldFit
bounded e s b fit = laws.bounded s.actions s.components s.ligatures e s.registers b fit.fit

pub lengthens : Lengthens held_act IsHeldFit
lengthens e s b fit = laws.lengthens s.actions s.components s.ligatures e s.registers b fit.fit

pub keeps_length : KeepsLength held_act IsHeldFit
keeps_length e s b fit = laws.keeps_length s.actions s.components s.ligatures e s.registers b fit.fit

pub makes_no_positions : MakesNoPositions held_act IsHeldFit
makes_no_positions e s b fit none = laws.makes_no_positions s.actions s.components s.ligatures e s.registers b fit.fit none

pub keeps_settings : KeepsSettings held_act IsHeldFit
keeps_settings e s b fit = laws.keeps_settings s.actions s.components s.ligatures e s.registers b fit.fit

pub keeps_place : KeepsPlaceWhere held_act IsHeldFit false
keeps_place e = absurd (false≢true e)

le_same : (x y : ℕ) → x ≡ y → x ≤ y
le_same x y e = omega (arith, e)

ge_same : (x y : ℕ) → x ≡ y → y ≤ x
ge_same x y e = omega (arith, e)

pub keeps_order : KeepsClusterOrder held_act IsHeldFit
keeps_order = record {
  rising = λ e s b fit level ordered. (ligature_kept (λ x y. x ≤ y) le_same s.actions s.components s.ligatures e s.registers b).ordered level ordered;
  falling = λ e s b fit level ordered. (ligature_kept (λ x y. y ≤ x) ge_same s.actions s.components s.ligatures e s.registers b).ordered level ordered;
  clusters = λ e s b fit. (ligature_kept (λ x y. x ≤ y) le_same s.actions s.components s.ligatures e s.registers b).from;
}

-- what a context holds of a subtable's lists
record HoldsLists (actions values : List ℕ) (ligatures : List GlyphId) (s : Held) : Type 0 where
  same_actions : s.actions ≡ actions
  same_values : s.components ≡ values
  same_ligatures : s.ligatures ≡ ligatures

-- what a driver runs of a fresh ligature context is the run of a ligature subtable
pub ligature_is_driven : (size : ℕ) (on : ℕ → Bool) (table : TableValue (GenericStateEntry ℕ)) (actions values : List ℕ) (ligatures : List GlyphId) (b : Buffer)
    → machine_run on table (context_from false goes_on held_actionable held_act (held actions values ligatures (fresh size))) b
    ≡ ligature_run size on table actions values ligatures b
unfolding machine_run ligature_run
ligature_is_driven size on table actions values ligatures b =
    sym (ap outcome_of (whole_is_seen on (class_of table) (entry_of table) (λ (e : GenericStateEntry ℕ). e.new_state) goes_on
    (λ e r p n. has_flag e 0x2000) (act actions values ligatures) held_actionable held_act (λ s. s.registers) (HoldsLists actions values ligatures)
    (λ e s p n good. refl)
    (λ e s d good. rw (good.same_actions, good.same_values, good.same_ligatures) refl)
    (λ e s d good. record { same_actions = good.same_actions; same_values = good.same_values; same_ligatures = good.same_ligatures })
    (start false b (held actions values ligatures (fresh size))) (record { same_actions = refl; same_values = refl; same_ligatures = refl })))
