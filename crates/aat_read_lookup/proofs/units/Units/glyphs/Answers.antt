use Rattle.std.proofs.Common.{◌≡◌, ℕ, ◌+◌, map, refl, arith, ◌∙◌, sym, zero-add}
use Rattle.std.specs.List.{range_with_len, sum_by}
use Rattle.aat_read_lookup.specs.declared.segment.Segment.{Segment}
use Rattle.std.proofs.lemmas.List.FromFn.{sum_by-map-range_with_len_more}
use Rattle.aat_read_lookup.specs.Layouts.{segment_of}
use Rattle.aat_read_lookup.proofs.SingleUnits.{single_glyphs}
use Rattle.aat_read_lookup.proofs.units.Units.glyphs.Goals as goal

pub loop-i-preserved : goal.loop-i-preserved
loop-i-preserved c =
    let count : Segment → ℕ = λ segment. segment.count in
    let segment = segment_of c.args.bytes.now c.args.self in
    let same : c.loop-i.glyphs + c.segment-glyphs.result.count ≡ sum_by count (map segment (range_with_len 0 c.loop-i.i)) + count (segment c.loop-i.i) =
    rw (c.segment-glyphs.ensures.is, c.loop-i.invariant.0) refl in (
      same ∙ sym (sum_by-map-range_with_len_more count segment 0 c.loop-i.i c.loop-i.i (zero-add c.loop-i.i)),
      omega (arith, c.loop-i.invariant.1, c.segment-glyphs.ensures.fits.glyphs),
    )

pub returns-then-are_singles-clause-is : goal.returns-then-are_singles-clause-is
returns-then-are_singles-clause-is c =
    let facts = c.are_singles.ensures in
    let is = c.if-are_singles.true in
    single_glyphs c.args.bytes.now c.args.self (facts.single is) (c.requires.rise (facts.rise is))
