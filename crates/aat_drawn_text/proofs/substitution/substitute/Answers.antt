use Rattle.std.proofs.Common.{◌≡◌, ◌∙◌, ap, subst, sym, IfErr, OnOk}
use Rattle.std.specs.Option.{option_copied}
use Rattle.aat_buffer.specs.Buffer.{Buffer}
use Rattle.aat_run.specs.Driven.{IsRefusal}
use Rattle.aat_run.specs.Laws.{HasOrderOf}
use Rattle.aat_drawn_text.specs.inside.TextLine.{substituted_so}
use Rattle.aat_drawn_text.proofs.TextLines.{bare_is}
use Rattle.aat_drawn_text.proofs.substitution.substitute.Goals as goal

pub returns-clause-order : goal.returns-clause-order
returns-clause-order g c =
    let own : c.buffer.inside.buffer ≡ c.args.buffer.now =
    sym (bare_is (option_copied c.buffer.inside.placed_by) c.buffer.inside.buffer (ap (λ (b : Buffer). b.positions) c.buffer.view_is ∙ c.requires.bare))
    ∙ c.buffer.view_is in
    subst (λ (b : Buffer). OnOk c.substitute_buffer.result (HasOrderOf b c.substitute_buffer.new.buffer)) own c.substitute_buffer.ensures.order

pub returns-clause-reason : goal.returns-clause-reason
returns-clause-reason g c =
    let own : c.buffer.inside.buffer ≡ c.args.buffer.now =
    sym (bare_is (option_copied c.buffer.inside.placed_by) c.buffer.inside.buffer (ap (λ (b : Buffer). b.positions) c.buffer.view_is ∙ c.requires.bare))
    ∙ c.buffer.view_is in
    subst
    (λ (b : Buffer). IfErr c.substitute_buffer.result (IsRefusal b (substituted_so c.args.closes c.args.face.now (option_copied c.args.map) b)))
    own c.substitute_buffer.ensures.reason
