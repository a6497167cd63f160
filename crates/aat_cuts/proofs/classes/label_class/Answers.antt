use Rattle.std.proofs.Common.{ap, sym, unwrap_or, arith}
use Rattle.aat_cuts.proofs.GlyphClasses.{sound_still}
use Rattle.aat_cuts.proofs.classes.label_class.Goals as goal

pub returns-in-Some-clause-sound : goal.returns-in-Some-clause-sound
returns-in-Some-clause-sound g c before =
    sound_still c.args.labels.now c.in-Some.class (omega arith) c.args.table.now (c.args.glyph, ap (λ o. unwrap_or o 1) (sym c.in-Some.ensures)) before
