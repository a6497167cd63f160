use Rattle.std.proofs.Common.{rules, ◌≡◌, ◌∙◌, ap, ℤ}
use Rattle.std.specs.Prelude.{◌-ℤ◌}
use Rattle.std.specs.Int.{w16, w32}
use Rattle.std.specs.Int.RustNames.{FitsSigned}
use Rattle.std.proofs.lemmas.Int.{to_z-of_z}
use mir.Val.{of_z, to_z}
use Rattle.aat_glyph.specs.Directions.{is_horizontal}
use Rattle.aat_kerning.specs.PairKerning.{half}
use Rattle.aat_kerning_machines.specs.Positions.{with_advance, with_shift}
use Rattle.aat_kerning.proofs.InStream.{in_stream_by}
use Rattle.aat_kerning.proofs.pair_kerning.kern_in_stream.Goals as goal

pub returns : goal.returns
returns g c =
    let v = c.args.value in
    let h = c.is_horizontal-is_horizontal.result in
    let value : to_z w16 (of_z w16 v) ≡ v = to_z-of_z w16 v c.ranges.value in
    let half_fits : FitsSigned w32 c.half_of-half.result = search rules in
    let rest_fits : FitsSigned w32 c.rest_of-rest.result = search rules in
    let first : to_z w32 (of_z w32 c.half_of-half.result) ≡ half v =
    to_z-of_z w32 c.half_of-half.result half_fits ∙ c.half_of-half.ensures ∙ ap half value in
    let rest : to_z w32 (of_z w32 c.rest_of-rest.result) ≡ v -ℤ half v =
    to_z-of_z w32 c.rest_of-rest.result rest_fits ∙ c.rest_of-rest.ensures ∙ ap (λ (k : ℤ). k -ℤ half k) value in
    in_stream_by c.args.left c.args.right v c.args.buffer.now h c.pos_mut-position.result.now c.pos_mut-position-2.result.now
    c.with_advance.result c.with_advance-2.result c.with_shift.result
    (c.is_horizontal-is_horizontal.ensures ∙ ap is_horizontal c.direction.ensures)
    c.pos_mut-position.ensures.read (c.with_advance.ensures ∙ ap (λ k. with_advance h k c.pos_mut-position.result.now) first)
    c.pos_mut-position-2.ensures.read (c.with_advance-2.ensures ∙ ap (λ k. with_advance h k c.pos_mut-position-2.result.now) rest)
    (◌∙◌ {b = with_shift h (to_z w32 (of_z w32 c.rest_of-rest.result)) c.with_advance-2.result} c.with_shift.ensures (ap (λ k. with_shift h k c.with_advance-2.result) rest))
