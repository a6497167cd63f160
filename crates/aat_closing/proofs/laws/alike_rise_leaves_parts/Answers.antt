use Rattle.aat_closing.specs.facts.OrderedSteady.{kinds_about_rise}
use Rattle.aat_closing.proofs.laws.alike_rise_leaves_parts.Goals as goal

pub returns : goal.returns
returns c = kinds_about_rise
