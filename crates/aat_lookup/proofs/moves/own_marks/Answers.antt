use Rattle.std.proofs.Common.{ℕ, ◌==◌, get_or, false, ap, sym, arith}
use Rattle.std.proofs.lemmas.Grind.{common_steps}
use Rattle.aat_lookup.proofs.MovesWritten.{written}
use Rattle.aat_lookup.proofs.moves.own_marks.Goals as goal

pub loop-place-preserved : goal.loop-place-preserved
loop-place-preserved g c =
    let pairs = c.args.pairs.now in
    let n = c.loop-place.place in
    let own = λ (j : ℕ). (get_or pairs j (0, 0)).1 == (get_or pairs j (0, 0)).0 in
    record {
      long = grind (arith, common_steps);
      each = λ k lt. written c.loop-place.marks.items n (own n) false (own k) k (omega (arith, c.loop-place.invariant.long)) (λ e. ap own (sym e)) (λ ne. c.loop-place.invariant.each k (omega arith));
    }
