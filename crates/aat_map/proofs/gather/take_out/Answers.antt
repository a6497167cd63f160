use Rattle.std.proofs.Common.{rules}
use Rattle.aat_map.proofs.GatherLemmas.{taken_out, none_taken_out}
use Rattle.aat_map.proofs.gather.take_out.Goals as goal

-- answered here, so that a wrong body is refused sooner
pub returns-then-at-len : goal.returns-then-at-len
returns-then-at-len g c = search (rules, taken_out, none_taken_out)

pub returns-else-at-len : goal.returns-else-at-len
returns-else-at-len g c = search (rules, taken_out, none_taken_out)
