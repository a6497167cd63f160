use Rattle.std.proofs.Common.{◌∙◌, ◌-◌, sym, arith}
use Rattle.aat_closing.specs.facts.PushedComponents.{in_order_more, in_order_none, in_order_not}
use Rattle.aat_closing.proofs.ligature.Pushed.are_in_order.Goals as goal

pub returns-then-component : goal.returns-then-component
returns-then-component g c =
    let l = c.loop-left in
    sym (in_order_not c.args.self.now l.i l.left (omega arith) (omega (arith, c.component.ensures, c.component-in-loop-left.ensures))) ∙ l.invariant.same

pub loop-left-preserved : goal.loop-left-preserved
loop-left-preserved g c =
    let l = c.loop-left in
    record {
      same = sym (in_order_more c.args.self.now l.i l.left (l.left - 1) (omega arith) (omega (arith, c.component.ensures, c.component-in-loop-left.ensures))) ∙ l.invariant.same;
      ends = omega arith;
    }

pub returns : goal.returns
returns g c = let l = c.loop-left in sym (in_order_none c.args.self.now l.i l.left (omega arith)) ∙ l.invariant.same
