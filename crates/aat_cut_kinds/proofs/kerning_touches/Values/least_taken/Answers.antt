use Rattle.std.proofs.Common.{rules, ◌≡◌, ◌+◌, ◌∙◌, ◌&&◌, ap, sym, arith, length, nat_lt, true, false, Bool}
use Rattle.std.proofs.lemmas.Bool.Decides.{nat_tests}
use Rattle.std.specs.Int.{w16}
use Rattle.std.specs.Int.RustNames.{FitsSigned}
use Rattle.std.proofs.lemmas.Int.{to_z-of_z}
use mir.Val.{of_z, to_z}
use Rattle.aat_kerning_machines.specs.Stack.{is_odd}
use Rattle.aat_kerning_machines.specs.inside.StackValues.{value_at}
use Rattle.aat_cut_kinds.proofs.Taking.{take_none, take_missing, take_last, take_on}
use Rattle.aat_cut_kinds.proofs.kerning_touches.Values.least_taken.Goals as goal
use Rattle.aat_cut_kinds.proofs.kerning_touches.Values.least_taken.Goals.{else-is_odd-via-then-is_odd+else-place-len, else-is_odd-via-else-is_odd}

pub returns-in_default-at : goal.returns-in_default-at
returns-in_default-at c =
    let s = c.args.self.now in
    let l = c.loop-place in
    let value = value_at s.ends_at_missing s.values.now s.step in
    let left = take_missing value s.step c.args.len l.stack l.index l.least c.in-Some.place c.pop.new.self c.in-Some.ensures c.in_default-at.ensures in
    c.min-least.ensures ∙ (sym left ∙ l.invariant.least)

pub returns-then-place-len : goal.returns-then-place-len
returns-then-place-len c =
    let s = c.args.self.now in
    let l = c.loop-place in
    let value = value_at s.ends_at_missing s.values.now s.step in
    let v = c.in-Some-at.value in
    let fits : FitsSigned w16 v = search rules in
    let u = to_z w16 (of_z w16 v) in
    let below = c.if-place-len.true in
    let odd : is_odd u ≡ true = sym c.if-is_odd.ensures in
    let inside : nat_lt c.in-Some.place c.args.len ≡ true = grind (arith, nat_tests, below) in
    let last : (is_odd u && nat_lt c.in-Some.place c.args.len) ≡ true = rw odd inside in
    let left = take_last value s.step c.args.len l.stack l.index l.least c.in-Some.place c.pop.new.self c.in-Some.ensures u v (to_z-of_z w16 v fits) c.in-Some-at.ensures last in
    c.min-least.ensures ∙ (sym left ∙ l.invariant.least)

with_false : (a : Bool) → (a && false) ≡ false
with_false true = search rules
with_false false = search rules

pub loop-place-preserved : goal.loop-place-preserved
loop-place-preserved c =
    let s = c.args.self.now in
    let l = c.loop-place in
    let value = value_at s.ends_at_missing s.values.now s.step in
    let v = c.in-Some-at.value in
    let fits : FitsSigned w16 v = search rules in
    let u = to_z w16 (of_z w16 v) in
    let on : (is_odd u && nat_lt c.in-Some.place c.args.len) ≡ false =
    elim c.else-is_odd.branch [
      | else-is_odd-via-then-is_odd+else-place-len w ↦ (
          let past = w.if-place-len.false in
          let off : nat_lt c.in-Some.place c.args.len ≡ false = grind (arith, nat_tests, past) in
          rw off (with_false (is_odd u)))
      | else-is_odd-via-else-is_odd w ↦ (let even : is_odd u ≡ false = sym w.if-is_odd.ensures in rw even (search rules))
    ] in
    let left = take_on value s.step c.args.len l.stack l.index l.least c.in-Some.place c.pop.new.self c.in-Some.ensures u v (to_z-of_z w16 v fits) c.in-Some-at.ensures on in
    let count : length l.stack ≡ length c.pop.new.self + 1 = ap length c.in-Some.ensures ∙ omega arith in
    record {
      least = rw c.min-least.ensures (sym left ∙ l.invariant.least);
      below = omega arith;
    }

pub returns : goal.returns
returns c =
    let s = c.args.self.now in
    let l = c.loop-place in
    let value = value_at s.ends_at_missing s.values.now s.step in
    let left = take_none value s.step c.args.len l.stack l.index l.least c.in_default.ensures.0 in
    sym left ∙ l.invariant.least
