use Rattle.std.proofs.Common.{◌≡◌, ℕ, ◌<◌, ◌≤◌, List, ap, arith, get_or, length, subst, sym}
use Rattle.aat_read_outlines.specs.Components.{placed}
use Rattle.aat_read_outlines.proofs.Contours.{ends_inside, joined_count, joined_divides}
use Rattle.aat_read_outlines.proofs.outline.Outline.joined.Goals as goal

pub append_ends-requires-clause-inside : goal.append_ends-requires-clause-inside
append_ends-requires-clause-inside g c =
    let ends = c.inner.inside.ends.items in
    let count = length c.inner.inside.points.items in
    subst (λ (es : List ℕ). (k : ℕ) → k < length es → get_or es k 0 ≤ 65536) (sym c.deref-2.ensures.value)
    (ends_inside ends count c.inner.invariant.divided c.inner.invariant.few)

pub invariant_of-result : goal.invariant_of-result
invariant_of-result g c =
    let points = c.self.inside.points.items in
    let inner = c.inner.inside.points.items in
    let counted = joined_count (placed c.args.component) points inner c.deref.result.now c.append_placed.new.points.items c.deref.ensures.value c.in_ok-append_placed.ensures in
    let count : c.len-count.result ≡ length points = omega (arith, c.len-count.ensures, c.self.inside.points.ok.0) in
    let divided = joined_divides c.self.inside.ends.items c.inner.inside.ends.items c.deref-2.result.now c.append_ends.new.ends.items (length points) (length inner) c.len-count.result (length c.append_placed.new.points.items) c.self.invariant.divided c.inner.invariant.divided count c.deref-2.ensures.value c.in_ok-append_ends.ensures counted in
    record { divided = divided; few = omega (arith, counted) }
