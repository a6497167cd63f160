-- The laws of the insertion act over what a context holds, and its run.
use Rattle.std.proofs.Common.{◌≡◌, ℕ, ◌≤◌, Bool, false, List, refl, ap, sym, arith}
use Rattle.std.proofs.lemmas.Bool.{false≢true}
use Rattle.aat_buffer.specs.Buffer.{Buffer}
use Rattle.aat_machine_tables.specs.Entries.{goes_on}
use Rattle.aat_machine_tables.specs.Table.{TableValue, class_of, entry_of}
use Rattle.aat_machine_tables.specs.declared.entries.InsertionEntryData.{InsertionEntryData}
use Rattle.aat_lookup.specs.declared.glyph_id.GlyphId.{GlyphId}
use Rattle.aat_machine_tables.specs.declared.state_table.GenericStateEntry.{GenericStateEntry}
use Rattle.aat_run.specs.Context.{start}
use Rattle.aat_run.specs.Driven.{context_from, machine_run, outcome_of}
use Rattle.aat_run.specs.Laws.{KeepsFit, PassesFit, Pays, Bounded, Lengthens, MakesNoPositions, KeepsSettings, KeepsPlaceWhere, KeepsLengthWhere, KeepsClusterOrder, FitsFresh, FitsWhereFresh}
use Rattle.aat_run.specs.facts.Views.{whole_is_seen}
use Rattle.aat_kinds.specs.Kinds.{insertion_run}
use Rattle.aat_kinds.specs.Insertion.{Entry, Registers, Held, IsHeldFresh, act, actionable, fresh, held_act, held_actionable, held_fit}
use Rattle.aat_kinds.specs.facts.InsertionLaws as laws
use Rattle.aat_kinds.specs.facts.OrderHolds.{insertion_kept}

abbrev pub held : List GlyphId → Registers → Held
held glyphs r = record { glyphs = glyphs; registers = r }

pub fits_fresh : (glyphs : List GlyphId) → FitsFresh held_fit (held glyphs fresh)
fits_fresh glyphs n = laws.fits_fresh n

pub fits_where_fresh : FitsWhereFresh IsHeldFresh held_fit
fits_where_fresh h same n = rw same (laws.fits_fresh n)

pub passes_fit : PassesFit held_fit
passes_fit h p n fit below = fit

pub keeps_fit : KeepsFit held_act held_fit
keeps_fit e h b fit below = laws.keeps_fit h.glyphs e h.registers b fit below

pub pays : Pays held_act held_fit
pays e h b fit = laws.pays h.glyphs e h.registers b fit

pub bounded : Bounded held_act held_fit
bounded e h b fit = laws.bounded h.glyphs e h.registers b fit

pub lengthens : Lengthens held_act held_fit
lengthens e h b fit = laws.lengthens h.glyphs e h.registers b fit

pub makes_no_positions : MakesNoPositions held_act held_fit
makes_no_positions e h b fit none = laws.makes_no_positions h.glyphs e h.registers b fit none

pub keeps_settings : KeepsSettings held_act held_fit
keeps_settings e h b fit = laws.keeps_settings h.glyphs e h.registers b fit

pub keeps_place : KeepsPlaceWhere held_act held_fit false
keeps_place e = absurd (false≢true e)

pub keeps_count : KeepsLengthWhere held_act held_fit false
keeps_count e = absurd (false≢true e)

pub keeps_order : KeepsClusterOrder held_act held_fit
keeps_order = record {
  rising = λ e h b fit level ordered. (insertion_kept (λ x y. x ≤ y) (λ x y same. omega (arith, same)) h.glyphs e h.registers b).ordered level ordered;
  falling = λ e h b fit level ordered. (insertion_kept (λ x y. y ≤ x) (λ x y same. omega (arith, same)) h.glyphs e h.registers b).ordered level ordered;
  clusters = λ e h b fit. (insertion_kept (λ x y. x ≤ y) (λ x y same. omega (arith, same)) h.glyphs e h.registers b).from;
}

-- what a driver runs of a fresh insertion context is the run of an insertion subtable
pub insertion_is_driven : (on : ℕ → Bool) (table : TableValue (GenericStateEntry InsertionEntryData)) (glyphs : List GlyphId) (b : Buffer)
    → machine_run on table (context_from false goes_on held_actionable held_act (held glyphs fresh)) b ≡ insertion_run on table glyphs b
unfolding machine_run insertion_run
insertion_is_driven on table glyphs b =
    sym (ap outcome_of (whole_is_seen on (class_of table) (entry_of table) (λ (e : Entry). e.new_state) goes_on
    actionable (act glyphs) held_actionable held_act (λ h. h.registers) (λ h. h.glyphs ≡ glyphs)
    (λ e h p n good. refl)
    (λ e h d good. rw good refl)
    (λ e h d good. good)
    (start false b (held glyphs fresh)) refl))
