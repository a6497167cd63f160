use Rattle.aat_closing.specs.facts.ChainsErased.{chains_alike}
use Rattle.aat_closing.proofs.laws.closing_chains_flag_alone.Goals as goal

pub returns : goal.returns
returns c = chains_alike
