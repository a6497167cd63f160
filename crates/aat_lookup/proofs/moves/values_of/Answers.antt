use Rattle.std.proofs.Common.{ℕ, get_or, ap, sym, arith}
use Rattle.std.proofs.lemmas.Grind.{common_steps}
use Rattle.aat_lookup.proofs.MovesWritten.{written}
use Rattle.aat_lookup.proofs.moves.values_of.Goals as goal

pub loop-place-preserved : goal.loop-place-preserved
loop-place-preserved g c =
    let pairs = c.args.pairs.now in
    let n = c.loop-place.place in
    record {
      long = grind (arith, common_steps);
      each = λ k lt. written c.loop-place.values.items n (get_or pairs n (0, 0)).1 0 (get_or pairs k (0, 0)).1 k (omega (arith, c.loop-place.invariant.long)) (λ e. ap (λ (j : ℕ). (get_or pairs j (0, 0)).1) (sym e)) (λ ne. c.loop-place.invariant.each k (omega arith));
    }
