use Rattle.aat_closing.specs.facts.AllKinds.{kinds_at_fall}
use Rattle.aat_closing.proofs.laws.open_fall_leaves_parts.Goals as goal

pub returns : goal.returns
returns c = kinds_at_fall
