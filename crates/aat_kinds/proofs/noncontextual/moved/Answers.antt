use Rattle.std.proofs.Common.{◌∙◌, ap, arith}
use Rattle.aat_font.specs.Face.{glyph_classes_of}
use Rattle.aat_kinds.specs.Values.{with_answer}
use Rattle.aat_kinds.proofs.Moved.{answered_is}
use Rattle.aat_kinds.proofs.noncontextual.moved.Goals as goal

pub returns-clause-replaced : goal.returns-clause-replaced
returns-clause-replaced c on lookup is_on told =
    let classes = glyph_classes_of c.args.face.now in
    c.with_answer.ensures.answer
    ∙ ap (λ v. with_answer classes v c.args.glyph) c.value-value.ensures
    ∙ answered_is on classes lookup c.args.moves c.args.glyph is_on told (omega (arith, c.requires.id))
