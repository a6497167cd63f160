use Rattle.std.proofs.Common.{List, subst, arith}
use Rattle.std.specs.List.{All}
use Rattle.std.proofs.lemmas.List.{take_all}
use Rattle.aat_cuts.specs.inside.Waiting.{IsMetOrWaits}
use Rattle.aat_cuts.specs.declared.labels.Edge.{Edge}
use Rattle.aat_cuts.proofs.Raised.{met_more}
use Rattle.aat_cuts.proofs.least.raise_each.Goals as goal

pub loop-edge-preserved : goal.loop-edge-preserved
loop-edge-preserved c =
    let before = c.loop-edge.invariant in
    let here = c.in_ok-raise.ensures in
    record {
      labels = here.labels;
      met = met_more c.args.edges.now c.loop-edge.edge-index c.loop-edge-test.true _ c.loop-edge.labels c.loop-edge.waiting.items c.raise.new.labels c.raise.new.waiting.items here.kept before.met here.met;
      looks = λ edges. omega (arith, before.looks edges, here.looks edges);
      least = λ label met below. here.least label (met c.loop-edge.edge-index _ c.loop-edge-test.true) (before.least label met below);
    }

pub returns-clause-met : goal.returns-clause-met
returns-clause-met c =
    subst (λ (xs : List Edge). All (IsMetOrWaits c.loop-edge.labels c.loop-edge.waiting.items) xs) (take_all c.loop-edge.edge-index c.args.edges.now c.loop-edge-test.false) c.loop-edge.invariant.met
