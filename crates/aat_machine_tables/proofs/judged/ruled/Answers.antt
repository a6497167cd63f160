use Rattle.std.proofs.Common.{arith}
use Rattle.aat_lookup.specs.facts.Search.{found_there}
use Rattle.aat_machine_tables.specs.Table.{rule_key}
use Rattle.aat_machine_tables.proofs.judged.ruled.Goals as goal

pub returns-then-is_of : goal.returns-then-is_of
returns-then-is_of g c =
    found_there rule_key c.args.rules.now c.requires _ _ c.index-rules-place.result (omega arith) c.index-rules-place.is (c.is_of.ensures c.if-is_of.true)
