use Rattle.std.proofs.Common.{◌∙◌, ◌&&◌, Bool, ap, sym}
use Rattle.aat_kerning_machines.specs.Runs.{config}
use Rattle.aat_cut_kinds.specs.KerningClosing.{is_none_or, rests_if_over}
use Rattle.aat_cut_kinds.proofs.kerning_turns.is_harmless.Goals as goal

pub returns-then-goes_as_from_start : goal.returns-then-goes_as_from_start
returns-then-goes_as_from_start g c = λ t n.
    let k = g.D.TouchingDriver.touching t n in
    let table = c.args.telling.now.run.state_table.now in
    let here = config c.args.buffer.now c.args.driver.now c.args.at in
    c.rests_if_over.ensures t n
    ∙ (ap (λ o. is_none_or o (λ z. k.rests_at_end z c.args.driver.now)) (ap (λ x. x.end) c.requires)
    ∙ ap (λ (x : Bool). x && rests_if_over k table here) (c.if-goes_as_from_start.ensures t n))

pub returns-else-goes_as_from_start : goal.returns-else-goes_as_from_start
returns-else-goes_as_from_start g c = λ t n.
    let k = g.D.TouchingDriver.touching t n in
    let table = c.args.telling.now.run.state_table.now in
    let here = config c.args.buffer.now c.args.driver.now c.args.at in
    let off = c.if-goes_as_from_start.ensures t n in
    c.goes_as_from_start.ensures t n ∙ (sym off ∙ ap (λ (x : Bool). x && rests_if_over k table here) off)
