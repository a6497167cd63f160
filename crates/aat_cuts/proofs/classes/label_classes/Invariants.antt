use Rattle.std.proofs.Common.{◌≡◌, ℕ, true, take}
use Rattle.std.specs.List.{All}
use Rattle.aat_cuts.specs.Labels.{AreLabels}
use Rattle.aat_cuts.specs.Reached.{is_labelled}
use Rattle.aat_cuts.specs.inside.Steps.{AreListed, AreOfGlyphs}
use Rattle.aat_cuts.proofs.classes.label_classes.Given as goal

abbrev pub invariant-loop-pair : goal.invariant-loop-pair
invariant-loop-pair g l = record {
  labels : AreLabels l.labels;
  kept : (k : ℕ) → is_labelled l.initial.labels k ≡ true → is_labelled l.labels k ≡ true;
  listed : All (AreListed l.table l.labels) (take l.pair-index l.pairs);
  sound : AreOfGlyphs l.table l.initial.labels → AreOfGlyphs l.table l.labels;
}
