use Rattle.std.proofs.Common.{◌≡◌, ℕ, ◌+◌, map, refl, arith, ◌∙◌, sym, zero-add}
use Rattle.std.specs.List.{range_with_len, sum_by}
use Rattle.aat_read_lookup.specs.declared.segment.Segment.{Segment}
use Rattle.std.proofs.lemmas.List.FromFn.{sum_by-map-range_with_len_more}
use Rattle.aat_read_lookup.specs.Layouts.{unit_at}
use Rattle.aat_read_lookup.proofs.units.Units.named_glyphs.Goals as goal

pub loop-i-preserved : goal.loop-i-preserved
loop-i-preserved c =
    let count : Segment → ℕ = λ segment. segment.count in
    let segment = unit_at c.args.bytes.now c.args.self in
    let same : c.loop-i.glyphs + c.unit-glyphs.result.count ≡ sum_by count (map segment (range_with_len 0 c.loop-i.i)) + count (segment c.loop-i.i) =
    rw (c.unit-glyphs.ensures.is, c.loop-i.invariant.0) refl in (
      same ∙ sym (sum_by-map-range_with_len_more count segment 0 c.loop-i.i c.loop-i.i (zero-add c.loop-i.i)),
      omega (arith, c.loop-i.invariant.1, c.unit-glyphs.ensures.glyphs),
    )
