use Rattle.std.proofs.Common.{◌≡◌, ◌+◌, ◌-◌, ◌<◌, ℕ, get_or, length, take, ap, subst, ◌∙◌, arith}
use Rattle.aat_cuts.specs.inside.Waiting.{IsLinkTo, count_to}
use Rattle.aat_cuts.specs.declared.labels.Edge.{Edge}
use Rattle.aat_cuts.specs.declared.labels.Asked.TheVariants.{Nothing}
use Rattle.aat_cuts.proofs.Counted.{count_all, count_more}
use Rattle.aat_cuts.proofs.Linked.{link_of_edge, link_of_state, met_past_all, met_past_first, met_past_more}
use Rattle.aat_cuts.proofs.least.raise_to.Goals as goal

pub loop-link-init : goal.loop-link-init
loop-link-init c =
    let links = c.args.links.now in
    let edges = c.args.edges.now in
    let link = c.index-link.result.now in
    let d : Edge = record { from = 0; to = 0; asked = Nothing } in
    let to : IsLinkTo edges (length edges) c.args.state link = link_of_state edges links.last.items links.before.items c.requires.links c.args.state link (omega arith) c.index-link.ensures in
    record {
      labels = c.requires.labels;
      within = omega (arith, to.within);
      last = to.last;
      met = met_past_first edges c.args.state c.args.labels.now c.args.waiting.now.items link to c.requires.met;
      paid = omega arith;
      looks = λ some. omega arith;
      count = omega (arith, count_all edges c.args.state d link to);
      least = λ label met below. below;
    }

pub loop-link-preserved : goal.loop-link-preserved
loop-link-preserved c =
    let links = c.args.links.now in
    let edges = c.args.edges.now in
    let l = c.loop-link in
    let here = c.in_ok-raise.ensures in
    let place = l.link - 1 in
    let next = c.index-link-in-loop-link.result.now in
    let d : Edge = record { from = 0; to = 0; asked = Nothing } in
    let within : place < length edges = omega (arith, l.invariant.within) in
    let at : (get_or edges place d).to ≡ c.args.state = l.invariant.last place d (omega arith) in
    let to : IsLinkTo edges place (get_or edges place d).to next = link_of_edge edges links.last.items links.before.items c.requires.links place next d within c.index-link-in-loop-link.ensures in
    let to_state : IsLinkTo edges place c.args.state next = subst (λ (s : ℕ). IsLinkTo edges place s next) at to in
    let more : count_to (take l.link edges) c.args.state ≡ count_to (take next edges) c.args.state + 1 = count_more edges c.args.state d place next l.link within at to_state (omega arith) in
    record {
      labels = here.labels;
      within = omega (arith, to.within, l.invariant.within);
      last = λ i e is. to.last i e is ∙ at;
      met = met_past_more edges c.args.state place next d within at to l.labels l.waiting.items c.raise.new.labels c.raise.new.waiting.items here.kept here.met l.link (omega arith) l.invariant.met;
      paid = omega (arith, here.paid, l.invariant.paid);
      looks = λ some. omega (arith, here.looks some, l.invariant.looks some);
      count = omega (arith, l.invariant.count, more);
      least = λ label met below. here.least label (met place d within) (l.invariant.least label met below);
    }

pub loop-link-smaller : goal.loop-link-smaller
loop-link-smaller c =
    let links = c.args.links.now in
    let edges = c.args.edges.now in
    let place = c.loop-link.link - 1 in
    let next = c.index-link-in-loop-link.result.now in
    let d : Edge = record { from = 0; to = 0; asked = Nothing } in
    let within : place < length edges = omega (arith, c.loop-link.invariant.within) in
    let to : IsLinkTo edges place (get_or edges place d).to next = link_of_edge edges links.last.items links.before.items c.requires.links place next d within c.index-link-in-loop-link.ensures in
    omega (arith, to.within)

pub returns-clause-count : goal.returns-clause-count
returns-clause-count c =
    let none : c.loop-link.link ≡ 0 = omega arith in
    omega (arith, c.loop-link.invariant.count, ap (λ (n : ℕ). count_to (take n c.args.edges.now) c.args.state) none)

pub returns-clause-met : goal.returns-clause-met
returns-clause-met c =
    met_past_all c.args.edges.now c.args.state c.loop-link.labels c.loop-link.waiting.items c.loop-link.link (omega arith) c.loop-link.invariant.met
