use Rattle.std.proofs.Common.{◌≡◌, ◌∙◌, ap, sym, arith, ◌-◌, ◌+◌}
use Rattle.std.specs.Prelude.{slice_range}
use Rattle.aat_buffer.specs.Buffer.{with_line}
use Rattle.aat_buffer.specs.facts.Clusters.{three_parts}
use Rattle.aat_kinds.proofs.Parts.{covered}
use Rattle.aat_kinds.proofs.rearrangement_span.move_middle.Goals as goal

pub returns-else-left-right-clause-after : goal.returns-else-left-right-clause-after
returns-else-left-right-clause-after g c =
    let b = c.args.buffer.now in
    let s = c.args.start + c.args.left in
    let e = c.args.end - c.args.right in
    let same_start : s ≡ c.args.start + c.args.right = omega arith in
    let same_end : e ≡ c.args.end - c.args.left = omega arith in
    sym (ap (with_line b) (ap (λ n. covered b.line n (c.args.end - c.args.left) (slice_range b.line s e)) (sym same_start)
    ∙ (ap (λ n. covered b.line s n (slice_range b.line s e)) (sym same_end) ∙ three_parts s e b.line (omega arith))))
