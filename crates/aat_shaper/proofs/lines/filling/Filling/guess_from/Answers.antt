use borrow.Author.Count.{below_more}
use Rattle.std.proofs.Common.{◌≡◌, ◌∙◌, ℕ, ◌<◌, ◌≤◌, ap, arith, false, length, sym}
use Rattle.aat_shaper.proofs.Stops.{stop_read}
use Rattle.aat_shaper.specs.Lines.{stop_at}
use Rattle.aat_shaper.specs.declared.lines.LineStop.{LineStop}
use Rattle.aat_shaper.proofs.lines.filling.Filling.guess_from.Goals as goal

pub loop-last-preserved : goal.loop-last-preserved
loop-last-preserved c =
    let row = c.args.self.now.stops.now in
    let last = c.loop-last.last in
    let low : last < length row = omega (arith, c.loop-last-test.true) in
    let here : (stop_at row last).is_forced ≡ false =
    ap (λ (s : LineStop). s.is_forced) (sym (stop_read row last low)) ∙ c.if-self-last.false
    in
    record {
      unforced = λ i from below.
          below_more (λ (k : ℕ). c.args.first ≤ k → (stop_at row k).is_forced ≡ false) last
          (λ k lt le. c.loop-last.invariant.unforced k le lt) (λ le. here) i below from;
      line = c.summed_up_to-next.ensures;
    }
