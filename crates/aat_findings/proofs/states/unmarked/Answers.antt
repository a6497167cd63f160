use Rattle.std.proofs.Common.{◌≡◌, ◌+◌, ◌<◌, ℕ, List, true, refl, subst, sym, arith}
use Rattle.aat_findings.specs.Reached.{AreExactly}
use Rattle.aat_findings.specs.inside.Marks.{is_unmarked}
use Rattle.aat_findings.proofs.Exactly.{exactly_more, exactly_none}
use Rattle.aat_findings.proofs.states.unmarked.Goals as goal

pub loop-state-init : goal.loop-state-init
loop-state-init c = exactly_none (is_unmarked c.args.marks.now) c.new-states.result.items c.new-states.ensures.items

pub loop-state-preserved : goal.loop-state-preserved
loop-state-preserved c =
    let marks = c.args.marks.now in
    let state = c.loop-state.state in
    subst (λ (l : List ℕ). AreExactly (λ m. (m < state + 1) × (is_unmarked marks m ≡ true)) l) (sym c.in_ok-push_where.ensures) (exactly_more (is_unmarked marks) state c.loop-state.states.items (is_unmarked marks state) refl c.loop-state.invariant)

pub returns : goal.returns
returns c =
    let all : c.loop-state.state ≡ c.args.count = omega arith in
    subst (λ (n : ℕ). AreExactly (λ s. (s < n) × (is_unmarked c.args.marks.now s ≡ true)) c.loop-state.states.items) all c.loop-state.invariant
