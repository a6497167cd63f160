use Rattle.std.proofs.Common.{sym, ◌∙◌}
use Rattle.aat_read_lookup.proofs.Spans.{no_size, units_size}
use Rattle.aat_read_lookup.proofs.units.Units.pairs_size.Goals as goal

pub returns-then-glyphs-eq0 : goal.returns-then-glyphs-eq0
returns-then-glyphs-eq0 c =
    sym (no_size c.args.bytes.now c.args.self (sym c.glyphs-glyphs.ensures.is ∙ c.if-glyphs-eq0.true))

pub returns : goal.returns
returns c =
    let sized = units_size c.args.bytes.now c.args.self in
    rw (c.size_of_pairs.ensures, c.glyphs-glyphs.ensures.is, c.span.ensures.is) (sym sized)
