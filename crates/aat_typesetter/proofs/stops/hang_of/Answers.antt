use Rattle.std.proofs.Common.{◌≡◌, ◌∙◌, arith, length, sym}
use Rattle.aat_typesetter.proofs.Hanging.{none_left, other_ends}
use Rattle.aat_typesetter.proofs.stops.hang_of.Goals as goal

pub returns-then-not-is_space : goal.returns-then-not-is_space
returns-then-not-is_space c =
    other_ends c.args.space c.loop-count.hang c.args.text.now c.loop-count.count _ c.loop-count-test.true
    (sym c.is_space.ensures ∙ c.if-not-is_space.true) c.loop-count.invariant

pub returns : goal.returns
returns c =
    let end : c.loop-count.count ≡ length c.args.text.now = omega arith in
    none_left c.args.space c.loop-count.hang c.args.text.now c.loop-count.count end c.loop-count.invariant
