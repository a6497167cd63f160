use Rattle.std.proofs.Common.{rules}
use Rattle.aat_kerning_tables.proofs.pairs.Pairs.glyphs_kerning.Goals as goal

-- answered here, so that a wrong body is refused sooner
pub returns : goal.returns
returns g c = search rules
