use Rattle.std.proofs.Common.{rules}
use Rattle.aat_map.proofs.builder.hb_aat_map_builder_t.add_feature.Goals as goal

-- answered here, so that a wrong body is refused sooner
pub returns-then-added-clause-ok : goal.returns-then-added-clause-ok
returns-then-added-clause-ok g c = search rules

pub returns-else-added-clause-ok : goal.returns-else-added-clause-ok
returns-else-added-clause-ok g c = search rules
