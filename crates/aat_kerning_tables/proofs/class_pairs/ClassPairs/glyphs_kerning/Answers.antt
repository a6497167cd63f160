use Rattle.std.proofs.Common.{rules}
use Rattle.aat_kerning_tables.proofs.class_pairs.ClassPairs.glyphs_kerning.Goals as goal

-- answered here, so that a wrong body is refused sooner
pub returns-then-not-kerns_at : goal.returns-then-not-kerns_at
returns-then-not-kerns_at g c = search rules

pub returns : goal.returns
returns g c = search rules
