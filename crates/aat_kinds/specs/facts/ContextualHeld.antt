-- The laws of the contextual act, over the classes and lookups that a context holds, and what it keeps.
use Rattle.std.proofs.Common.{◌≤◌, ◌∙◌, arith}
use Rattle.aat_run.specs.Laws.{Bounded, FitsWhereFresh, KeepsClusterOrder, KeepsFit, KeepsPlace, KeepsSettings, Lengthens, MakesNoPositions, PassesFit, Pays}
use Rattle.aat_kinds.specs.Contextual.{IsHeldFresh, held_act, held_fit}
use Rattle.aat_kinds.specs.facts.ContextualLaws as laws
use Rattle.aat_kinds.specs.facts.OrderHolds.{contextual_kept}

pub fits_where_fresh : FitsWhereFresh IsHeldFresh held_fit
fits_where_fresh h same n = rw same (laws.fits_fresh n)

pub keeps_fit : KeepsFit held_act held_fit
keeps_fit e h b fit below = laws.keeps_fit h.classes h.lookups e h.registers b fit below

pub passes_fit : PassesFit held_fit
passes_fit h p n fit below = fit

pub pays : Pays held_act held_fit
pays e h b fit = laws.pays h.classes h.lookups e h.registers b fit

pub bounded : Bounded held_act held_fit
bounded e h b fit = laws.bounded h.classes h.lookups e h.registers b fit

pub lengthens : Lengthens held_act held_fit
lengthens e h b fit = laws.lengthens h.classes h.lookups e h.registers b fit

pub makes_no_positions : MakesNoPositions held_act held_fit
makes_no_positions e h b fit none = laws.keeps_positions h.classes h.lookups e h.registers b fit ∙ none

pub keeps_settings : KeepsSettings held_act held_fit
keeps_settings e h b fit = laws.keeps_settings h.classes h.lookups e h.registers b fit

pub keeps_place : KeepsPlace held_act held_fit
keeps_place = record {
  length = λ e h b fit. laws.keeps_length h.classes h.lookups e h.registers b fit;
  cursor = λ e h b fit. laws.keeps_cursor h.classes h.lookups e h.registers b fit;
  positions = λ e h b fit. laws.keeps_positions h.classes h.lookups e h.registers b fit;
}

pub keeps_order : KeepsClusterOrder held_act held_fit
keeps_order = record {
  rising = λ e h b fit level ordered. (contextual_kept (λ x y. x ≤ y) (λ x y same. omega (arith, same)) h.classes h.lookups e h.registers b).ordered level ordered;
  falling = λ e h b fit level ordered. (contextual_kept (λ x y. y ≤ x) (λ x y same. omega (arith, same)) h.classes h.lookups e h.registers b).ordered level ordered;
  clusters = λ e h b fit. (contextual_kept (λ x y. x ≤ y) (λ x y same. omega (arith, same)) h.classes h.lookups e h.registers b).from;
}
