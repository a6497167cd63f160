use Rattle.std.proofs.Common.{◌≡◌, ◌∙◌, ◌-◌, true, false, ap, arith}
use Rattle.aat_kinds.specs.Ligature.{component}
use Rattle.aat_closing.specs.Closing.{are_in_order}
use Rattle.aat_closing.specs.facts.PushedComponents.{all_held, few_held, few_slots, overwritten}
use Rattle.aat_closing.proofs.ligature.Pushed.oldest_of_newest.Goals as goal
use Rattle.aat_closing.proofs.ligature.Pushed.oldest_of_newest.Goals.{then-count-m-via-then-count-m, then-count-m-via-else-count-m+then-m, then-count-m-via-else-count-m+else-m+then-not-are_in_order}

pub returns-then-count-m : goal.returns-then-count-m
returns-then-count-m g c =
    let r = c.args.self.now in
    let m = c.args.m in
    let count = c.count-count.ensures.count in
    let slots = c.count-count.ensures.slots in
    elim c.then-count-m.branch [
      | then-count-m-via-then-count-m w ↦ few_held r m (omega (arith, count, w.if-count-m.true))
      | then-count-m-via-else-count-m+then-m w ↦ few_slots r m (omega (arith, slots, w.if-m.true))
      | then-count-m-via-else-count-m+else-m+then-not-are_in_order w ↦
          let out : are_in_order r (r.count - m) (m - 1) ≡ false = cc (count, w.are_in_order.ensures, w.if-not-are_in_order.true) in overwritten r m out
    ]

pub returns : goal.returns
returns g c =
    let r = c.args.self.now in
    let m = c.args.m in
    let count = c.count-count.ensures.count in
    let slots = c.count-count.ensures.slots in
    let ordered : are_in_order r (r.count - m) (m - 1) ≡ true = cc (count, c.are_in_order.ensures, c.if-not-are_in_order.false) in
    c.component.ensures ∙ (ap (λ n. component r (n - m)) count ∙ all_held r m (omega (arith, count)) (omega (arith, slots)) ordered)
