-- The laws of the anchor act, over the points that a driver holds.
use Rattle.std.proofs.Common.{ℕ, List, Option}
use Rattle.aat_kerning_tables.specs.AnchorPoints.{Points}
use Rattle.aat_run.specs.Laws.{KeepsFit, PassesFit}
use Rattle.aat_kerning_machines.specs.Anchors.{held_act, held_fit, held_fresh}
use Rattle.aat_kerning_machines.specs.KerningLaws.{ChangesPositionsAlone, IsLawfulDriver}
use Rattle.aat_kerning_machines.specs.KerningMachine.{driver_from, has_action}
use Rattle.aat_kerning_machines.specs.facts.AnchorLaws as laws

pub keeps_fit : (pairs : List (ℕ × ℕ)) → KeepsFit (held_act pairs) held_fit
keeps_fit pairs e h b fit below = laws.anchors_keep_fit h.points pairs e h.mark b fit below

pub passes_fit : PassesFit held_fit
passes_fit h p n fit below = fit

pub positions_alone : (pairs : List (ℕ × ℕ)) → ChangesPositionsAlone (held_act pairs) held_fit
positions_alone pairs e h b fit = laws.anchors_keep_place h.points pairs e h.mark b fit

pub held_is_lawful :
    (points : Option Points) (pairs : List (ℕ × ℕ))
    → IsLawfulDriver (driver_from has_action (held_act pairs) (held_fresh points)) held_fit
held_is_lawful points pairs = record {
  fresh = λ n. tt;
  passes_fit = passes_fit;
  keeps_fit = keeps_fit pairs;
  keeps_place = positions_alone pairs;
}
