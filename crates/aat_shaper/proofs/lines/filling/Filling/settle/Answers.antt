use Rattle.std.proofs.Common.{◌≡◌, ◌<◌, ◌+◌, ◌-◌, ℕ, arith, subst, sym}
use Rattle.std.proofs.lemmas.Bool.{not-false, not-true}
use Rattle.aat_shaper.specs.Lines.{drawn_alone, stop_at, width_of}
use Rattle.aat_shaper.specs.inside.Filling.{IsFull, IsTried, paragraph_of}
use Rattle.aat_shaper.proofs.lines.filling.Filling.settle.Goals as goal

pub loop-line-init : goal.loop-line-init
loop-line-init g c =
    let f = c.args.self.now in
    let line = c.in_ok-line.line in
    let tried = c.in_ok-line.ensures.tried in
    record {
      shaper = c.try_line.ensures.shaper;
      tried =
          subst (λ (j : ℕ). IsTried f c.args.first j c.try_line.new.shaper.glyphs line) (sym tried.last) tried;
      from = omega (arith, tried.last, c.requires.order);
      up_to = omega (arith, tried.last);
      full = subst (λ (j : ℕ). IsFull (paragraph_of f) c.args.first j) (sym tried.last) c.requires.full;
    }

pub loop-line-preserved : goal.loop-line-preserved
loop-line-preserved g c =
    let f = c.args.self.now in
    let p = paragraph_of f in
    let first = c.args.first in
    let before = c.loop-line.line.last in
    let line = c.in_ok-line-2.line in
    let tried = c.in_ok-line-2.ensures.tried in
    let behind : before ≡ before - 1 + 1 = omega (arith, c.loop-line-test.true) in
    let full : IsFull p first (before - 1) = λ unforced within.
    subst (λ (j : ℕ). f.width < width_of p (stop_at f.stops.now j).hang (drawn_alone p first j)) behind
    (c.loop-line.invariant.tried.wide (not-true c.loop-line.line.fits c.if-not-line.true))
    in
    record {
      shaper = c.try_line-in-loop-line.ensures.shaper;
      tried =
          subst (λ (j : ℕ). IsTried f first j c.try_line-in-loop-line.new.shaper.glyphs line) (sym tried.last) tried;
      from = omega (arith, tried.last, c.loop-line-test.true);
      up_to = omega (arith, tried.last, c.loop-line.invariant.up_to);
      full = subst (λ (j : ℕ). IsFull p first j) (sym tried.last) full;
    }

pub returns-else-not-line-clause-fits : goal.returns-else-not-line-clause-fits
returns-else-not-line-clause-fits g c = λ low. not-false c.loop-line.line.fits c.if-not-line.false
