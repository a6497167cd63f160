use Rattle.std.proofs.Common.{◌≡◌, ◌+◌, ◌*◌, ◌≤◌, [], List, ℕ, length, sum, ap, ◌∙◌, subst, arith}
use Rattle.std.specs.List.{All}
use Rattle.std.proofs.lemmas.List.{length_push, nil_from_length}
use Rattle.std.proofs.lemmas.List.Elements.{All-weaker}
use Rattle.aat_cuts.specs.Labels.{IsMet, label_in}
use Rattle.aat_cuts.specs.inside.Waiting.{IsMetOrWaits, count_waiting}
use Rattle.aat_cuts.proofs.Counted.{label_sum_most, looks_more, looks_most}
use Rattle.aat_cuts.proofs.Raised.{labels_sum, met_by}
use Rattle.aat_cuts.proofs.least.settle.Goals as goal

pub raise_to-requires-clause-met : goal.raise_to-requires-clause-met
raise_to-requires-clause-met c =
    subst (λ (waiting : List ℕ). All (IsMetOrWaits c.loop-state.labels waiting) c.args.edges.now) c.in-Some.ensures.items c.loop-state.invariant.met

pub loop-state-init : goal.loop-state-init
loop-state-init c =
    let here = c.in_ok-raise_each.ensures in
    record {
      labels = here.labels;
      met = here.met;
      looks = omega (arith, here.looks c.args.edges.now, ap (count_waiting c.args.edges.now) c.new-waiting.ensures.items);
      least = here.least;
    }

pub overflow_add-looks : goal.overflow_add-looks
overflow_add-looks c =
    let l = c.loop-state in
    let most : l.looks + c.in_ok-count.count ≤ 66 * length c.args.edges.now = looks_most c.args.edges.now l.labels l.waiting.items c.pop.new.self.items l.looks c.in_ok-count.count c.in-Some.state l.invariant.looks c.in-Some.ensures.items c.in_ok-count.ensures.count l.invariant.labels in
    omega arith

pub loop-state-smaller : goal.loop-state-smaller
loop-state-smaller c =
    let here = c.in_ok-count.ensures in
    let long : length c.loop-state.waiting.items ≡ length c.pop.new.self.items + 1 = ap length c.in-Some.ensures.items ∙ length_push c.pop.new.self.items c.in-Some.state in
    let was : sum c.loop-state.labels ≤ 65536 * 65 = labels_sum c.loop-state.labels c.loop-state.invariant.labels in
    let most : sum c.raise_to.new.labels ≤ 65536 * 65 = labels_sum c.raise_to.new.labels here.labels in
    omega (arith, long, was, most, here.paid)

pub loop-state-preserved : goal.loop-state-preserved
loop-state-preserved c =
    let here = c.in_ok-count.ensures in
    record {
      labels = here.labels;
      met = here.met;
      looks = looks_more c.args.edges.now c.loop-state.labels c.loop-state.waiting.items c.pop.new.self.items c.loop-state.looks c.in_ok-count.count c.in-Some.state c.loop-state.invariant.looks c.in-Some.ensures.items here.count c.raise_to.new.labels c.raise_to.new.waiting.items here.looks;
      least = λ label met below. here.least label met (c.loop-state.invariant.least label met below);
    }

pub returns-clause-looks : goal.returns-clause-looks
returns-clause-looks c =
    let l = c.loop-state in
    omega (arith, l.invariant.looks, label_sum_most c.args.edges.now l.labels l.invariant.labels)

pub returns-clause-met : goal.returns-clause-met
returns-clause-met c =
    let none : c.loop-state.waiting.items ≡ [] = nil_from_length c.loop-state.waiting.items (omega (arith, c.in_default.ensures.cases.0)) in
    let labels = c.loop-state.labels in
    let waiting = c.loop-state.waiting.items in
    All-weaker (IsMetOrWaits labels waiting) (IsMet (label_in labels)) (λ e. met_by labels waiting e none) c.args.edges.now c.loop-state.invariant.met
