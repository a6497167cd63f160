use Rattle.std.proofs.Common.{rules}
use Rattle.aat_kerning.proofs.kerx.takes_turned_line.Goals as goal

-- answered here, so that a wrong body is refused sooner
pub returns-then-not-is_of_kerx_pairs : goal.returns-then-not-is_of_kerx_pairs
returns-then-not-is_of_kerx_pairs c = search rules
