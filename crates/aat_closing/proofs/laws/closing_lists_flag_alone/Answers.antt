use Rattle.aat_closing.specs.facts.ErasedLists.{lists_alike}
use Rattle.aat_closing.proofs.laws.closing_lists_flag_alone.Goals as goal

pub returns : goal.returns
returns c = lists_alike
