use Rattle.aat_characters.specs.Decomposed.{has_glyph}
use Rattle.aat_characters.proofs.kept.KnownWritings.writing.Goals as goal

pub returns-clause-known : goal.returns-clause-known
returns-clause-known c = c.keep.ensures (has_glyph c.args.face.now) c.writing_of-writing.ensures c.requires
