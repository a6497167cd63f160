use Rattle.std.proofs.Common.{ℕ, List, take, subst}
use Rattle.std.specs.List.{All}
use Rattle.std.proofs.lemmas.List.{take_all}
use Rattle.std.proofs.lemmas.List.Elements.{All-more, All-weaker}
use Rattle.aat_cuts.specs.inside.Steps.{AreListed}
use Rattle.aat_cuts.proofs.classes.label_classes.Goals as goal

pub loop-pair-preserved : goal.loop-pair-preserved
loop-pair-preserved g c =
    let before = c.loop-pair.invariant in
    let here = c.label_class.ensures in
    let table = c.args.table.now in
    let old = c.loop-pair.labels in
    let new = c.label_class.new.labels in
    record {
      labels = here.labels;
      kept = λ k is. here.kept k (before.kept k is);
      listed = All-more (AreListed table new) c.args.pairs.now c.loop-pair.pair-index _ c.loop-pair-test.true (All-weaker (AreListed table old) (AreListed table new) (λ pair listed k is. here.kept k (listed k is)) (take c.loop-pair.pair-index c.args.pairs.now) before.listed) here.here;
      sound = λ first. here.sound (before.sound first);
    }

pub returns-clause-listed : goal.returns-clause-listed
returns-clause-listed g c =
    subst (λ (xs : List (ℕ × ℕ)). All (AreListed c.args.table.now c.loop-pair.labels) xs) (take_all c.loop-pair.pair-index c.args.pairs.now c.loop-pair-test.false) c.loop-pair.invariant.listed
