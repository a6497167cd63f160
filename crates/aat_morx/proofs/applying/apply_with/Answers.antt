use Rattle.std.proofs.Common.{rules}
use Rattle.aat_morx.proofs.applying.apply_with.Goals as goal

-- answered here, so that a wrong body is refused sooner
pub returns-in-Ok-Some-clause-substituted : goal.returns-in-Ok-Some-clause-substituted
returns-in-Ok-Some-clause-substituted g c = search rules

pub returns-in-Ok-None-clause-without_table : goal.returns-in-Ok-None-clause-without_table
returns-in-Ok-None-clause-without_table g c = search rules

pub returns-in-Ok-None-clause-substituted : goal.returns-in-Ok-None-clause-substituted
returns-in-Ok-None-clause-substituted g c = search rules

pub returns-in-Ok-None-clause-known : goal.returns-in-Ok-None-clause-known
returns-in-Ok-None-clause-known g c = search rules

pub returns-in-Ok-None-clause-within : goal.returns-in-Ok-None-clause-within
returns-in-Ok-None-clause-within g c = search rules

pub returns-in-Ok-None-clause-order : goal.returns-in-Ok-None-clause-order
returns-in-Ok-None-clause-order g c = search rules

pub returns-in-Err-clause-reason : goal.returns-in-Err-clause-reason
returns-in-Err-clause-reason g c = search rules
