use Rattle.std.proofs.Common.{rules, ◌≡◌, ◌+◌, ◌∙◌, ap, arith, length}
use Rattle.std.specs.Int.{w16}
use Rattle.std.specs.Int.RustNames.{FitsSigned}
use Rattle.std.proofs.lemmas.Int.{to_z-of_z}
use mir.Val.{of_z, to_z}
use Rattle.aat_kerning_machines.specs.Stack.{popped}
use Rattle.aat_kerning_machines.specs.inside.StackValues.{value_at}
use Rattle.aat_kerning_machines.proofs.Popping.{popped_none, popped_missing, popped_last, popped_on, placed_after}
use Rattle.aat_kerning_machines.proofs.stack_values.ValueList.give_all.Goals as goal

pub returns-in_default-at : goal.returns-in_default-at
returns-in_default-at g c =
    let s = c.args.self.now in
    let l = c.loop-place in
    let value = value_at s.ends_at_missing s.values.now s.step in
    let whole = popped s.is_cross_stream s.kern_mask value s.step c.args.stack.now c.args.first c.args.buffer.now in
    popped_missing s.is_cross_stream s.kern_mask value s.step l.stack l.index l.buffer whole l.invariant.done
    c.in-Some.place c.pop.new.self c.in-Some.ensures c.in_default-at.ensures

pub returns-then-give : goal.returns-then-give
returns-then-give g c =
    let s = c.args.self.now in
    let l = c.loop-place in
    let value = value_at s.ends_at_missing s.values.now s.step in
    let whole = popped s.is_cross_stream s.kern_mask value s.step c.args.stack.now c.args.first c.args.buffer.now in
    let v = c.in-Some-at.value in
    let fits : FitsSigned w16 v = search rules in
    popped_last s.is_cross_stream s.kern_mask value s.step l.stack l.index l.buffer whole l.invariant.done
    c.in-Some.place c.pop.new.self c.in-Some.ensures (to_z w16 (of_z w16 v)) v c.give.new.buffer (to_z-of_z w16 v fits)
    c.in-Some-at.ensures c.give.ensures.given c.if-give.ensures.ends

pub loop-place-preserved : goal.loop-place-preserved
loop-place-preserved g c =
    let s = c.args.self.now in
    let l = c.loop-place in
    let value = value_at s.ends_at_missing s.values.now s.step in
    let whole = popped s.is_cross_stream s.kern_mask value s.step c.args.stack.now c.args.first c.args.buffer.now in
    let v = c.in-Some-at.value in
    let fits : FitsSigned w16 v = search rules in
    let count : length l.stack ≡ length c.pop.new.self + 1 = ap length c.in-Some.ensures ∙ omega arith in
    record {
      done = popped_on s.is_cross_stream s.kern_mask value s.step l.stack l.index l.buffer whole l.invariant.done
          c.in-Some.place c.pop.new.self c.in-Some.ensures (to_z w16 (of_z w16 v)) v c.give.new.buffer
          (to_z-of_z w16 v fits) c.in-Some-at.ensures c.give.ensures.given c.if-give.ensures.ends;
      placed = placed_after s.is_cross_stream s.kern_mask (to_z w16 (of_z w16 v)) c.in-Some.place l.buffer
          c.give.new.buffer l.invariant.placed c.give.ensures.given;
      below = omega arith;
    }

pub returns : goal.returns
returns g c =
    let s = c.args.self.now in
    let l = c.loop-place in
    let value = value_at s.ends_at_missing s.values.now s.step in
    let whole = popped s.is_cross_stream s.kern_mask value s.step c.args.stack.now c.args.first c.args.buffer.now in
    popped_none s.is_cross_stream s.kern_mask value s.step l.stack l.index l.buffer whole l.invariant.done
    c.pop.new.self c.in_default.ensures.0 c.in_default.ensures.1
