use Rattle.std.proofs.Common.{◌≤◌, length, arith}
use Rattle.aat_machine_tables.proofs.Faultless.{faultless_more, no_fault}
use Rattle.aat_machine_tables.proofs.state_table.are_faultless.Goals as goal

pub loop-i-preserved : goal.loop-i-preserved
loop-i-preserved g c =
    faultless_more c.args.class_count c.args.rules.now c.loop-i.i c.loop-i.lowest _ c.index-rules-i.result (omega arith) c.index-rules-i.is c.loop-i.invariant (omega arith) (omega arith) (omega (arith, c.key-key.ensures))

pub returns : goal.returns
returns g c =
    let past : length c.args.rules.now ≤ c.loop-i.i = omega (arith, c.loop-i-test.false) in
    λ _. no_fault c.args.class_count c.args.rules.now c.loop-i.i c.loop-i.lowest past c.loop-i.invariant
