use Rattle.std.proofs.Common.{length, ap, arith}
use Rattle.aat_write_kerx.proofs.PlainMachines.{has_plain, numbered_written}
use Rattle.aat_write_kerx.proofs.machines.write_with_rules.Goals as goal

pub with_number-requires-clause-near : goal.with_number-requires-clause-near
with_number-requires-clause-near c =
    let has = has_plain c.args.counts_bytes c.args.machine.now c.in_ok-plain.plain.items c.in_ok-plain.ensures.is in
    omega (arith, has.few, has.short, has.long, ap length c.deref.ensures.value)

pub with_number-requires-clause-header : goal.with_number-requires-clause-header
with_number-requires-clause-header c =
    let has = has_plain c.args.counts_bytes c.args.machine.now c.in_ok-plain.plain.items c.in_ok-plain.ensures.is in
    omega (arith, has.long, ap length c.requires.rules, ap length c.deref.ensures.value)

pub returns : goal.returns
returns c =
    numbered_written c.args.counts_bytes c.args.machine.now c.in_ok-plain.plain.items c.args.flags c.class_count.result
    (length c.args.rules.now) c.deref.result.now c.in_ok-written.written.items c.in_ok-plain.ensures.is
    c.class_count.ensures (ap length c.requires.rules) c.deref.ensures.value c.in_ok-written.ensures
