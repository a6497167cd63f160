use Rattle.std.proofs.Common.{◌∙◌, Bool, ap, sym}
use Rattle.std.specs.Bool.{then_some}
use Rattle.std.specs.Option.{option_or}
use Rattle.aat_shaped_text.proofs.PairsTold.{left_skipped, left_solid}
use Rattle.aat_shaped_text.proofs.pair_places.left_behind.Goals as goal

pub returns-then-is_solid : goal.returns-then-is_solid
returns-then-is_solid g c =
    let place = c.args.place in
    c.then_some-own.ensures
    ∙ (ap (λ (m : Bool). then_some m place) c.meets.ensures
    ∙ left_solid c.args.skips c.args.buffer.now.line place c.info.result.now c.info.ensures.read (sym c.is_solid.ensures ∙ c.if-is_solid.true))

pub returns : goal.returns
returns g c =
    let place = c.args.place in
    c.or.ensures
    ∙ (ap (option_or c.args.left) (c.then_some-own.ensures ∙ ap (λ (m : Bool). then_some m place) c.meets.ensures)
    ∙ left_skipped c.args.skips c.args.buffer.now.line place c.info.result.now c.args.left c.info.ensures.read
    (sym c.is_solid.ensures ∙ c.if-is_solid.false) c.requires.found)
