use Rattle.std.proofs.Common.{◌∙◌, arith, ◌-◌}
use Rattle.aat_kinds.proofs.Ligating.{taken_more, taken_stops, taken_none}
use Rattle.aat_kinds.proofs.ligature.Components.ligate.Goals as goal

pub returns-in-None-clause-act : goal.returns-in-None-clause-act
returns-in-None-clause-act g c =
    let l = c.loop-left in
    taken_stops c.args.subtable.now c.args.first c.args.self.now c.args.buffer.now l.left (l.left - 1) l.action l.sum l.self c.take_in.new.self l.buffer c.take_in.new.buffer
    (omega arith) (c.take_in.ensures.stops c.in-None.is) l.invariant.done

pub loop-left-preserved : goal.loop-left-preserved
loop-left-preserved g c =
    let l = c.loop-left in
    record {
      done = taken_more c.args.subtable.now c.args.first c.args.self.now c.args.buffer.now l.left (l.left - 1) l.action l.sum c.in-Some.more l.self c.take_in.new.self l.buffer c.take_in.new.buffer
          (omega arith) c.in-Some.ensures.goes_on l.invariant.done;
      slots = c.in-Some.ensures.slots ∙ l.invariant.slots;
      fewer = omega arith;
      held = omega arith;
      sum = omega (arith, c.in-Some.ensures.more);
      actions = omega arith;
      count = c.in-Some.ensures.count ∙ l.invariant.count;
      successful = c.in-Some.ensures.successful ∙ l.invariant.successful;
      small = c.in-Some.ensures.ids;
    }

pub returns-clause-act : goal.returns-clause-act
returns-clause-act g c =
    let l = c.loop-left in
    taken_none c.args.subtable.now c.args.first c.args.self.now c.args.buffer.now l.left l.action l.sum l.self c.truncate.new.self l.buffer (omega arith) c.truncate.ensures l.invariant.done
