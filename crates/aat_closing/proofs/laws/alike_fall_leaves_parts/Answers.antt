use Rattle.aat_closing.specs.facts.OrderedSteady.{kinds_about_fall}
use Rattle.aat_closing.proofs.laws.alike_fall_leaves_parts.Goals as goal

pub returns : goal.returns
returns c = kinds_about_fall
