use Rattle.aat_closing.specs.facts.ChainsSteady.{chains_leave_parts_about}
use Rattle.aat_closing.proofs.laws.chains_leave_parts.Goals as goal

pub returns : goal.returns
returns c = chains_leave_parts_about
