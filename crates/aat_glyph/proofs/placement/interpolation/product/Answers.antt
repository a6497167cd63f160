use Rattle.std.proofs.Common.{◌≤◌, ◌^◌, subst, sym}
use Rattle.std.specs.Prelude.{◌*ℤ◌, unsigned_abs}
use Rattle.std.proofs.lemmas.Int.{unsigned_abs-mul}
use Rattle.std.proofs.lemmas.Nat.{mul-le}
use Rattle.aat_glyph.specs.placement.inside.Within.{IsWithin}
use Rattle.aat_glyph.proofs.placement.Bounds.{abs_within, product_is, within_abs}
use Rattle.aat_glyph.proofs.placement.interpolation.product.Goals as goal

pub returns-clause-value : goal.returns-clause-value
returns-clause-value c = product_is c.args.a c.args.b c.ranges.a c.ranges.b c.requires.small c.requires.large

pub returns-clause-within : goal.returns-clause-within
returns-clause-within c =
    let a = c.args.a in
    let b = c.args.b in
    let same = product_is a b c.ranges.a c.ranges.b c.requires.small c.requires.large in
    let low : unsigned_abs (a *ℤ b) ≤ 2 ^ 49 =
    subst (λ n. n ≤ 2 ^ 49) (sym (unsigned_abs-mul a b))
    (mul-le (unsigned_abs a) (unsigned_abs b) (2 ^ 16) (2 ^ 33) (abs_within (2 ^ 16) a c.requires.small) (abs_within (2 ^ 33) b c.requires.large)) in
    subst (λ z. IsWithin (2 ^ 49) z) (sym same) (within_abs (2 ^ 49) (a *ℤ b) low)
