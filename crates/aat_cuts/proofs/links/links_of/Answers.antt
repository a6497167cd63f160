use Rattle.std.proofs.Common.{◌≡◌, ◌<◌, ◌++◌, ◌∷◌, [], ℕ, get_or, length, ap, ◌∙◌, subst, arith}
use Rattle.std.proofs.lemmas.List.{get_or_read}
use Rattle.aat_cuts.specs.inside.Waiting.{AreLinks}
use Rattle.aat_cuts.specs.declared.labels.Edge.{Edge}
use Rattle.aat_cuts.specs.declared.labels.Asked.TheVariants.{Nothing}
use Rattle.aat_cuts.proofs.Linked.{links_more, none_linked}
use Rattle.aat_cuts.proofs.links.links_of.Goals as goal

pub loop-place-init : goal.loop-place-init
loop-place-init c =
    none_linked c.args.edges.now c.in_ok-last.last.items c.new-before.result.items c.in_ok-last.ensures.long c.in_ok-last.ensures.none c.new-before.ensures.items

pub loop-place-preserved : goal.loop-place-preserved
loop-place-preserved c =
    let l = c.loop-place in
    let d : Edge = record { from = 0; to = 0; asked = Nothing } in
    let to = (get_or c.args.edges.now l.place d).to in
    let below : to < 65536 = omega arith in
    let high : to < length l.last.items = omega (arith, l.invariant.states, below) in
    let is : c.index.result.now ≡ get_or l.last.items to 0 = get_or_read l.last.items to c.index.result.now high c.index.ensures 0 in
    let pushed : c.push.new.self.items ≡ l.before.items ++ get_or l.last.items to 0 ∷ [] = c.in_ok-push.ensures.items ∙ ap (λ (k : ℕ). l.before.items ++ k ∷ []) is in
    links_more c.args.edges.now l.place d (omega arith) l.last.items l.before.items c.push.new.self.items l.invariant below pushed

pub returns : goal.returns
returns c =
    let all : c.loop-place.place ≡ length c.args.edges.now = omega arith in
    subst (λ (n : ℕ). AreLinks c.args.edges.now n c.loop-place.last.items c.loop-place.before.items) all c.loop-place.invariant
