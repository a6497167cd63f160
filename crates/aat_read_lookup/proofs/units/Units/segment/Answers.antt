use Rattle.std.proofs.Common.{sym, ap, ◌∙◌, subst}
use Rattle.aat_read_lookup.specs.Segments.{part_of}
use Rattle.aat_read_lookup.specs.declared.segment.Segment.{Segment}
use Rattle.aat_read_lookup.specs.inside.Sound.{Fits}
use Rattle.aat_read_lookup.proofs.RisingUnits.{segment_whole}
use Rattle.aat_read_lookup.proofs.SoundUnits.{segment_fits}
use Rattle.aat_read_lookup.proofs.units.Units.segment.Goals as goal

pub returns-clause-fits : goal.returns-clause-fits
returns-clause-fits c =
    let glyphs = c.glyphs_found-first.ensures.is in
    let part = c.part.ensures ∙ ap (λ (u : Segment). part_of u c.glyphs_found-first.result) c.unit-2.ensures.is
    ∙ ap (part_of _) glyphs in
    subst (Fits c.args.bytes.now) (sym part) (segment_fits c.args.bytes.now c.args.self c.requires.sound c.args.i c.requires.below)

pub returns-then-rise-clause-is : goal.returns-then-rise-clause-is
returns-then-rise-clause-is c =
    let rise = c.requires.rise c.if-rise.true in
    c.unit.ensures.is ∙ sym (segment_whole c.args.bytes.now c.args.self rise c.args.i c.requires.below)

pub returns-then-rise-clause-fits : goal.returns-then-rise-clause-fits
returns-then-rise-clause-fits c =
    let rise = c.requires.rise c.if-rise.true in
    let whole = c.unit.ensures.is ∙ sym (segment_whole c.args.bytes.now c.args.self rise c.args.i c.requires.below) in
    subst (Fits c.args.bytes.now) (sym whole) (segment_fits c.args.bytes.now c.args.self c.requires.sound c.args.i c.requires.below)
