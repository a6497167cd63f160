use Rattle.std.proofs.Common.{refl}
use Rattle.aat_kinds.specs.Kinds.{noncontextual_run}
use Rattle.aat_morx.specs.Substitution.{subtable_run}
use Rattle.aat_morx.proofs.worked.substitution_examples.Goals as goal

pub returns-clause-row_2 : goal.returns-clause-row_2
unfolding subtable_run noncontextual_run
returns-clause-row_2 c = refl

pub returns-clause-row_6 : goal.returns-clause-row_6
unfolding subtable_run noncontextual_run
returns-clause-row_6 c = refl

pub returns-clause-off : goal.returns-clause-off
unfolding subtable_run noncontextual_run
returns-clause-off c = refl

pub returns-clause-vertical : goal.returns-clause-vertical
unfolding subtable_run noncontextual_run
returns-clause-vertical c = refl

pub returns-clause-always_on : goal.returns-clause-always_on
unfolding subtable_run noncontextual_run
returns-clause-always_on c = refl

pub returns-clause-properties : goal.returns-clause-properties
unfolding subtable_run noncontextual_run
returns-clause-properties c = refl
