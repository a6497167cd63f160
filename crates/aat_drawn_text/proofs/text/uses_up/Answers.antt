use Rattle.std.proofs.Common.{rules, ◌∙◌, ap, not, pos, Bool, ℤ}
use Rattle.std.specs.Prelude.{int_lt}
use Rattle.std.specs.Int.{w32}
use Rattle.std.specs.Int.RustNames.{FitsSigned}
use Rattle.std.proofs.lemmas.Int.{to_z-of_z}
use Rattle.aat_drawn_text.proofs.text.uses_up.Goals as goal

pub returns : goal.returns
returns g c =
    let z = c.max_ops.result in
    let fits : FitsSigned w32 z = search rules in
    ap (λ (t : Bool). not t) c.is_positive.ensures
    ∙ (ap (λ (y : ℤ). not (int_lt (pos 0) y)) (to_z-of_z w32 z fits)
    ∙ ap (λ (y : ℤ). not (int_lt (pos 0) y)) c.max_ops.ensures)
