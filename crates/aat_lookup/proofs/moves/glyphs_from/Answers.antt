use Rattle.std.proofs.Common.{ℕ, ◌+◌, ap, sym, arith}
use Rattle.std.proofs.lemmas.Grind.{common_steps}
use Rattle.aat_lookup.proofs.MovesWritten.{written}
use Rattle.aat_lookup.proofs.moves.glyphs_from.Goals as goal

pub loop-place-preserved : goal.loop-place-preserved
loop-place-preserved g c =
    let n = c.loop-place.place in
    let lowest = c.args.lowest in
    record {
      long = grind (arith, common_steps);
      each = λ k lt. written c.loop-place.glyphs.items n (lowest + n) 0 (lowest + k) k (omega (arith, c.loop-place.invariant.long)) (λ e. ap (λ (j : ℕ). lowest + j) (sym e)) (λ ne. c.loop-place.invariant.each k (omega arith));
    }
