use Rattle.aat_closing.specs.facts.OrderedSteady.{lists_leave_parts_about}
use Rattle.aat_closing.proofs.laws.subtables_leave_parts.Goals as goal

pub returns : goal.returns
returns c = lists_leave_parts_about
