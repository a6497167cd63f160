use Rattle.std.proofs.Common.{ℕ, ◌+◌, ◌-◌, ◌∙◌, Option, get_or, take, unwrap_or, ap, sym, arith}
use Rattle.std.proofs.lemmas.Grind.{common_steps}
use Rattle.aat_lookup.specs.Keys.{value_in}
use Rattle.aat_lookup.proofs.FullSpans.{value_here}
use Rattle.aat_lookup.proofs.MovesWritten.{value_new, value_old, written}
use Rattle.aat_lookup.proofs.class_array.class_cells.Goals as goal

pub loop-i-preserved : goal.loop-i-preserved
loop-i-preserved g c =
    let pairs = c.args.pairs.now in
    let lowest = c.args.lowest in
    let missing = c.args.missing in
    let i = c.loop-i.i in
    let lt = c.loop-i-test.true in
    let x = get_or pairs i (0, 0) in
    let inside = c.requires.within i (0, 0) lt in
    let new = value_new pairs c.requires.rising i (0, 0) lt in
    let old = value_old pairs c.requires.rising i (0, 0) lt in
    record {
      long = grind (arith, common_steps);
      classes = λ k below.
          let glyph = lowest + k in
          written c.loop-i.cells.items (x.0 - lowest) x.1 0 (unwrap_or (value_in (take (i + 1) pairs) glyph) missing) k (omega (arith, inside, c.loop-i.invariant.long)) (λ e. sym (ap (λ (v : Option ℕ). unwrap_or v missing) (new glyph (omega (arith, inside, e))))) (λ ne. c.loop-i.invariant.classes k below ∙ sym (ap (λ (v : Option ℕ). unwrap_or v missing) (old glyph (λ e. ne (omega (arith, inside, e))))));
    }

pub returns-then-count-pairs-clause-classes : goal.returns-then-count-pairs-clause-classes
returns-then-count-pairs-clause-classes g c = λ k lt.
    let full = c.if-count-pairs.true in
    let here = value_here c.args.pairs.now c.requires.rising c.args.lowest c.args.count c.requires.within full k (omega (arith, full, lt)) in
    c.in_ok-values.ensures.each k (omega (arith, full, lt)) ∙ sym (ap (λ (v : Option ℕ). unwrap_or v c.args.missing) here)
