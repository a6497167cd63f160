use Rattle.std.proofs.Common.{rules}
use Rattle.aat_kerning_machines.specs.KerningMachine.{looked_ahead}
use Rattle.aat_kerning_machines.proofs.kerning_turns.look_ahead.Goals as goal

-- answered here, so that a wrong body is refused sooner
pub returns-then-not-has_next-clause-turn : goal.returns-then-not-has_next-clause-turn
unfolding looked_ahead
returns-then-not-has_next-clause-turn g c = search rules
