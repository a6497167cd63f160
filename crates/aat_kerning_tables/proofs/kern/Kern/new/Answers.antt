use Rattle.std.proofs.Common.{rules}
use Rattle.aat_kerning_tables.proofs.kern.Kern.new.Goals as goal

-- answered here, so that a wrong body is refused sooner
pub invariant_of-result : goal.invariant_of-result
invariant_of-result c = search rules

pub returns-clause-few : goal.returns-clause-few
returns-clause-few c = search rules
