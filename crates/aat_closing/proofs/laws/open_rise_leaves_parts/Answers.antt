use Rattle.aat_closing.specs.facts.AllKinds.{kinds_at_rise}
use Rattle.aat_closing.proofs.laws.open_rise_leaves_parts.Goals as goal

pub returns : goal.returns
returns c = kinds_at_rise
