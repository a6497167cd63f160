use Rattle.std.proofs.Common.{◌∙◌, ap, sym, rules, arith}
use Rattle.std.proofs.lemmas.Result.{err_from_is_err_and}
use Rattle.aat_read_outlines.specs.Components.{component_at, components_from}
use Rattle.aat_read_outlines.proofs.ComponentSteps.{still_last, still_missing, still_more}
use Rattle.aat_read_outlines.proofs.components.components_of.Goals as goal

pub returns-in_err-flags-clause-read : goal.returns-in_err-flags-clause-read
returns-in_err-flags-clause-read g c =
    let p = err_from_is_err_and c.from_residual.result c.from_residual.ensures.1 in
    let glyph = c.args.glyph.now in
    let was = c.loop-done in
    let all = components_from glyph 10 c.args.limit in
    rw (p.1, p.2)
    (still_missing glyph was.components.items was.place c.args.limit was._done c.loop-done-test.true all was.invariant.rest c.in_err-flags.field-0.0 (sym c.in_err-flags.ensures.flags))

pub returns-then-not-has-clause-read : goal.returns-then-not-has-clause-read
returns-then-not-has-clause-read g c =
    let glyph = c.args.glyph.now in
    let was = c.loop-done in
    let all = components_from glyph 10 c.args.limit in
    let component = c.component_at.ensures ∙ ap (λ b. component_at b was.place c.in_ok-flags.flags) c.bytes-bytes.ensures in
    still_last glyph was.components.items was.place c.args.limit was._done c.loop-done-test.true all was.invariant.rest c.in_ok-flags.flags c.component_at.result c.push.new.self.items (sym c.in_ok-flags.ensures.flags) component c.in_ok-push.ensures.items (sym c.if-not-has.ensures)

pub loop-done-preserved : goal.loop-done-preserved
loop-done-preserved g c =
    let glyph = c.args.glyph.now in
    let was = c.loop-done in
    let all = components_from glyph 10 c.args.limit in
    let component = c.component_at.ensures ∙ ap (λ b. component_at b was.place c.in_ok-flags.flags) c.bytes-bytes.ensures in
    record {
      inside = omega (arith, c.in_ok-flags.ensures.whole, c.component_size-place.ensures.size);
      few = search rules;
      rest = still_more glyph was.components.items was.place c.args.limit was._done c.loop-done-test.true all was.invariant.rest c.in_ok-flags.flags c.component_at.result c.push.new.self.items (sym c.in_ok-flags.ensures.flags) component c.in_ok-push.ensures.items c.component_size-place.result c.component_size-place.ensures.size (sym c.if-not-has.ensures);
    }
