use Rattle.std.proofs.Common.{ℕ, ◌+◌, ◌*◌, arith}
use Rattle.std.proofs.lemmas.Grind.{common_steps}
use Rattle.aat_kerning_tables.specs.Pairs.{key_of_pair}
use Rattle.aat_lookup.specs.inside.Walks.{Parts}
use Rattle.aat_lookup.specs.facts.Filling.{holds_more}
use Rattle.aat_lookup.specs.facts.Walks.{below_higher}
use Rattle.aat_kerning_tables.proofs.lefts.starts_from.Goals as goal

pub loop-place-preserved : goal.loop-place-preserved
loop-place-preserved g c =
    let pairs = c.args.pairs.now in
    let lowest = c.args.lowest in
    let n = c.loop-place.place in
    let at = c.walk_to-at.result in
    let here = c.walk_to-at.ensures in
    record {
      long = grind (arith, common_steps);
      begin = holds_more 0 c.loop-place.starts.items c.push.new.self.items at c.in_ok-push.ensures.items n c.loop-place.invariant.long (λ (k : ℕ) (place : ℕ). Parts key_of_pair pairs place ((lowest + k) * 65536)) c.loop-place.invariant.begin (here.within, here.below, here.above);
      passed = below_higher key_of_pair pairs at ((lowest + n) * 65536) ((lowest + (n + 1)) * 65536) here.below (omega arith);
    }
