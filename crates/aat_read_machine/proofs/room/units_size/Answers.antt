use Rattle.std.proofs.Common.{◌+◌, ◌*◌, arith}
use Rattle.aat_read_machine.specs.Room.{unit_size}
use Rattle.aat_bytes.specs.facts.Ranges.{sum_more}
use Rattle.aat_read_machine.proofs.room.units_size.Goals as goal

pub loop-i-preserved : goal.loop-i-preserved
loop-i-preserved c =
    let more = sum_more (λ i. unit_size c.args.bytes.now (c.args.place + c.args.size * i)) c.loop-i.i in
    let small = c.unit_size-total.ensures.small in
    let before = c.loop-i.invariant.small in
    record {
      total = omega (arith, c.loop-i.invariant.total, c.unit_size-total.ensures.is, more);
      small = omega (arith, small, before);
    }
