use Rattle.std.proofs.Common.{rules}
use Rattle.aat_kerning.specs.PairKerning.{kerned}
use Rattle.aat_kerning.proofs.pair_kerning.kern_pair.Goals as goal

-- answered here, so that a wrong body is refused sooner
pub returns : goal.returns
unfolding kerned
returns g c = search rules
