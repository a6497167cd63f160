use Rattle.std.proofs.Common.{◌∙◌, ◌<◌, Option, arith, sym, subst, ℕ}
use Rattle.std.specs.Prelude.{IfSome}
use Rattle.aat_shaped_text.proofs.PairsTold.{left_low}
use Rattle.aat_shaped_text.proofs.pair_places.leaves_open.Goals as goal

pub info-requires-in-Some : goal.info-requires-in-Some
info-requires-in-Some g c =
    let low = subst (λ (o : Option ℕ). IfSome o (λ i. i < c.args.place)) (sym c.requires.found ∙ c.in-Some.is)
    (left_low c.args.skips c.args.buffer.now.line c.args.place) in
    omega (arith, low, c.requires.inside)
