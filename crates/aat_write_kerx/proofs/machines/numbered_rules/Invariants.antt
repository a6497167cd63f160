use Rattle.std.proofs.Common.{◌≡◌, map, take}
use Rattle.aat_write_kerx.specs.inside.Plain.{numbered_rule}
use Rattle.aat_write_kerx.proofs.machines.numbered_rules.Given as goal

abbrev pub invariant-loop-rule : goal.invariant-loop-rule
invariant-loop-rule l = l.out.items ≡ map (numbered_rule l.counts_bytes) (take l.rule-index l.rules)
