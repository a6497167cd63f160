use Rattle.aat_closing.specs.facts.LimitedTells.{chains_tell_of_limited_parts_about}
use Rattle.aat_closing.proofs.laws.chains_tell_of_limited_parts.Goals as goal

pub returns : goal.returns
returns c = chains_tell_of_limited_parts_about
