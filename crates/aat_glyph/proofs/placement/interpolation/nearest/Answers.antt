use Rattle.std.proofs.Common.{◌∙◌, ap, rules, SFits, w64, to_z, of_z}
use Rattle.std.specs.Prelude.{◌+ℤ◌}
use Rattle.std.specs.Int.{int_div_euclid}
use Rattle.std.proofs.lemmas.Int.{to_z-of_z}
use Rattle.aat_glyph.proofs.placement.Bounds.{sum_fits}
use Rattle.aat_glyph.proofs.placement.interpolation.nearest.Goals as goal

pub returns : goal.returns
returns c =
    let n = c.args.number in
    let d = c.args.by in
    let fits-twice : SFits w64 c.twice.result = search rules in
    let fits-by : SFits w64 c.twice-2.result = search rules in
    let fits-result : SFits w64 c.div_euclid.result = search rules in
    let number = to_z-of_z w64 n c.ranges.number in
    let by = to_z-of_z w64 d c.ranges.by in
    let twice = to_z-of_z w64 c.twice.result fits-twice ∙ (c.twice.ensures.value ∙ ap (λ z. z +ℤ z) number) in
    let double = to_z-of_z w64 c.twice-2.result fits-by ∙ (c.twice-2.ensures.value ∙ ap (λ z. z +ℤ z) by) in
    let sum = ap (λ z. to_z w64 (of_z w64 (z +ℤ to_z w64 (of_z w64 d)))) twice
    ∙ (ap (λ z. to_z w64 (of_z w64 (n +ℤ n +ℤ z))) by
    ∙ to_z-of_z w64 (n +ℤ n +ℤ d) (sum_fits n d c.requires.bounded c.requires.small)) in
    to_z-of_z w64 c.div_euclid.result fits-result
    ∙ (c.div_euclid.ensures
    ∙ (ap (λ z. int_div_euclid z (to_z w64 (of_z w64 c.twice-2.result))) sum ∙ ap (int_div_euclid (n +ℤ n +ℤ d)) double))
