use Rattle.std.proofs.Common.{◌∙◌, ap, sym, w32}
use Rattle.std.proofs.lemmas.Bool.{cond-true}
use Rattle.std.proofs.lemmas.Int.{to_z-of_z}
use Rattle.aat_glyph.specs.placement.TrackedLines.{begins, widened}
use Rattle.aat_glyph.proofs.placement.tracked_line.tracked_at.Goals as goal

pub returns-then-begins : goal.returns-then-begins
returns-then-begins c =
    let d = c.args.direction in
    let q = c.args.position in
    c.widened.ensures
    ∙ (ap (λ n. widened d n q) (to_z-of_z w32 c.args.value c.ranges.value)
    ∙ sym (cond-true (begins c.args.last c.args.cluster) (widened d c.args.value q) q (sym c.begins.ensures ∙ c.if-begins.true)))
