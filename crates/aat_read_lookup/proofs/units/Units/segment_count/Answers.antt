use Rattle.std.proofs.Common.{ap, ◌∙◌, arith}
use Rattle.aat_read_lookup.specs.Kept.{kept_count}
use Rattle.aat_read_lookup.specs.declared.kept.Keep.TheVariants.{Value}
use Rattle.aat_read_lookup.proofs.KeptCounts.{kept_more}
use Rattle.aat_read_lookup.proofs.SingleUnits.{single_segments}
use Rattle.aat_read_lookup.proofs.units.Units.segment_count.Goals as goal

pub loop-i-preserved : goal.loop-i-preserved
loop-i-preserved c =
    let more = kept_more c.args.bytes.now Value c.args.self c.loop-i.i in
    let here = c.kept_count-count.ensures.is ∙ ap kept_count c.segment.ensures.is in (
      omega (arith, more, here, c.loop-i.invariant.0),
      omega (arith, c.loop-i.invariant.1, c.kept_count-count.ensures.few, c.segment.ensures.fits.glyphs),
    )

pub returns-then-are_singles-clause-is : goal.returns-then-are_singles-clause-is
returns-then-are_singles-clause-is c =
    let facts = c.are_singles.ensures in
    let is = c.if-are_singles.true in
    single_segments c.args.bytes.now c.args.self (facts.single is) (c.requires.rise (facts.rise is))
