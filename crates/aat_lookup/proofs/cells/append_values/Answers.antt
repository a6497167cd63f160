use Rattle.std.proofs.Common.{◌+◌, ℕ, ◌∙◌, length, None, arith}
use Rattle.std.proofs.lemmas.Grind.{common_steps}
use Rattle.aat_lookup.specs.Keys.{first, value_in}
use Rattle.aat_lookup.specs.facts.Filling.{filled_more, kept_more}
use Rattle.aat_lookup.specs.facts.Walks.{below_higher}
use Rattle.aat_lookup.proofs.cells.append_values.Goals as goal

pub loop-place-preserved : goal.loop-place-preserved
loop-place-preserved g c =
    let cells = c.loop-place.cells.items in
    let pushed = c.in_ok-push.ensures.items in
    let base = length c.args.cells.now.items in
    let value = c.value_here.result in
    let values = λ (k : ℕ). value_in c.args.pairs.now (c.args.lowest + k) in
    record {
      long = grind (arith, common_steps);
      kept = λ k lt. kept_more None base cells c.push.new.self.items value pushed k (omega (arith, c.loop-place.invariant.long)) ∙ c.loop-place.invariant.kept k lt;
      values = filled_more None base cells c.push.new.self.items value pushed values c.loop-place.place c.loop-place.invariant.long c.value_here.ensures c.loop-place.invariant.values;
      passed = below_higher first c.args.pairs.now c.walk_to-at.result (c.args.lowest + c.loop-place.place) (c.args.lowest + (c.loop-place.place + 1)) c.walk_to-at.ensures.below (omega arith);
    }
