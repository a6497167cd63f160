use Rattle.std.proofs.Common.{◌≡◌, ℕ, ◌+◌, ◌-◌, ◌<◌, ◌≤◌, sym, ap, ◌∙◌, subst, arith}
use Rattle.aat_read_lookup.specs.declared.segment.Segment.{Segment}
use Rattle.aat_read_lookup.specs.inside.Ends.{ends_with}
use Rattle.aat_read_lookup.proofs.SingleUnits.{first_is, glyph_at, single_glyphs, single_span}
use Rattle.aat_read_lookup.proofs.Spans.{HasEnds, ends_few, ends_more, pairs_to, span_is}
use Rattle.aat_read_lookup.proofs.units.Units.span.Goals as goal

pub loop-i-preserved : goal.loop-i-preserved
loop-i-preserved c =
    let bytes = c.args.bytes.now in
    let has = ends_more bytes c.args.self c.loop-i.i c.loop-i.ends c.loop-i.invariant.0 in
    let same = c.ends_with-ends.ensures ∙ ap (λ (s : Segment). ends_with c.loop-i.ends s) c.segment.ensures.is in
    let few = ends_few c.loop-i.ends c.segment.result c.loop-i.invariant.1 c.segment.ensures.fits.glyphs in (
      subst (λ (ends : ℕ × ℕ). HasEnds (pairs_to bytes c.args.self (c.loop-i.i + 1)) ends) (sym same) has,
      subst (λ (ends : ℕ × ℕ). ends.1 ≤ 65536) (sym c.ends_with-ends.ensures) few,
    )

pub overflow_sub-ends : goal.overflow_sub-ends
overflow_sub-ends c =
    let bytes = c.args.bytes.now in
    let all : c.loop-i.i ≡ c.args.self.count = omega arith in
    let has = subst (λ (n : ℕ). HasEnds (pairs_to bytes c.args.self n) c.loop-i.ends) all c.loop-i.invariant.0 in
    let span = span_is bytes c.args.self c.loop-i.ends c.requires.some has in
    omega (arith, span.0)

pub returns-clause-is : goal.returns-clause-is
returns-clause-is c =
    let bytes = c.args.bytes.now in
    let all : c.loop-i.i ≡ c.args.self.count = omega arith in
    let has = subst (λ (n : ℕ). HasEnds (pairs_to bytes c.args.self n) c.loop-i.ends) all c.loop-i.invariant.0 in
    let span = span_is bytes c.args.self c.loop-i.ends c.requires.some has in
    omega (arith, span.1, c.saturating_sub.ensures)

pub returns-then-are_singles-clause-is : goal.returns-then-are_singles-clause-is
returns-then-are_singles-clause-is c =
    let bytes = c.args.bytes.now in
    let units = c.args.self in
    let single = c.are_singles.ensures.single c.if-are_singles.true in
    let rise = c.requires.rise (c.are_singles.ensures.rise c.if-are_singles.true) in
    let some : 0 < units.count = omega (arith, c.requires.some, single_glyphs bytes units single rise) in
    let low : c.unit-lowest.result.first ≡ glyph_at bytes units 0 = ap (λ (s : Segment). s.first) c.unit-lowest.ensures.is ∙ first_is bytes units single 0 in
    let high : c.unit-highest.result.first ≡ glyph_at bytes units (units.count - 1) = ap (λ (s : Segment). s.first) c.unit-highest.ensures.is ∙ first_is bytes units single (units.count - 1) in
    omega (arith, low, high, single_span bytes units single rise some)
