use Rattle.std.proofs.Common.{◌∙◌, ap, rules, sym, SFits, w16, w32, w64, to_z, of_z}
use Rattle.std.specs.Prelude.{◌*ℤ◌, pos}
use Rattle.std.proofs.lemmas.Int.{to_z-of_z}
use Rattle.aat_glyph.proofs.placement.Interpolated.{both_are, from_16, from_32, from_unsigned, interpolated_is, no_distance}
use Rattle.aat_glyph.proofs.placement.interpolation.interpolated.Goals as goal

pub rounded-requires-clause-some : goal.rounded-requires-clause-some
rounded-requires-clause-some c =
    λ e.
    let fits : SFits w64 c.distance-span.result = search rules in
    no_distance c.args.from c.args.to (λ same. c.if-from-to.false (ap (of_z w32) same))
    (sym (both_are _ _ _ _ (from_32 c.args.to c.ranges.to) (from_32 c.args.from c.ranges.from))
    ∙ (sym c.distance-span.ensures.value ∙ (sym (to_z-of_z w64 c.distance-span.result fits) ∙ e)))

pub returns : goal.returns
returns c =
    let fits-span : SFits w64 c.distance-span.result = search rules in
    let fits-way : SFits w64 c.distance-way.result = search rules in
    let fits-rise : SFits w64 c.rise.result = search rules in
    let fits-level : SFits w64 c.product-level.result = search rules in
    let fits-climb : SFits w64 c.product-climb.result = search rules in
    let fits-sum : SFits w64 c.sum.result = search rules in
    let fits-rounded : SFits w64 c.rounded.result = search rules in
    let span = to_z-of_z w64 c.distance-span.result fits-span
    ∙ (c.distance-span.ensures.value
    ∙ both_are _ _ _ _ (from_32 c.args.to c.ranges.to) (from_32 c.args.from c.ranges.from)) in
    let way = to_z-of_z w64 c.distance-way.result fits-way
    ∙ (c.distance-way.ensures.value
    ∙ both_are _ _ _ _ (from_unsigned c.args.size c.ranges.size.fits) (from_32 c.args.from c.ranges.from)) in
    let rise = to_z-of_z w64 c.rise.result fits-rise
    ∙ (c.rise.ensures.value
    ∙ both_are _ _ _ _ (to_z-of_z w16 c.args.high c.ranges.high) (to_z-of_z w16 c.args.low c.ranges.low)) in
    let level = to_z-of_z w64 c.product-level.result fits-level
    ∙ (c.product-level.ensures.value
    ∙ ap (λ n. n *ℤ to_z w64 (of_z w64 c.distance-span.result)) (from_16 c.args.low c.ranges.low)) in
    let climb = to_z-of_z w64 c.product-climb.result fits-climb ∙ c.product-climb.ensures.value in
    let total = to_z-of_z w64 c.sum.result fits-sum ∙ c.sum.ensures.value in
    to_z-of_z w64 c.rounded.result fits-rounded
    ∙ (c.rounded.ensures
    ∙ interpolated_is c.args.from c.args.to c.args.low c.args.high (pos c.args.size) _ _ _ _ _ _
    (λ same. c.if-from-to.false (ap (of_z w32) same)) span way rise level climb total)
