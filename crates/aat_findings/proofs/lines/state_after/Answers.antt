use Rattle.std.proofs.Common.{◌≡◌, ◌+◌, ◌∙◌, ℕ, Some, drop, get_or, sym, ap}
use Rattle.std.specs.Option.{option_and_then}
use Rattle.aat_findings.specs.Reached.{next_state, state_after}
use Rattle.aat_findings.proofs.Reaching.{after_step}
use Rattle.aat_findings.proofs.lines.state_after.Goals as goal

pub loop-class-preserved : goal.loop-class-preserved
loop-class-preserved g c =
    let table = c.args.table.now in
    let line = c.args.line.now in
    let place = c.loop-class.class-index in
    let state = c.loop-class.state in
    let is : next_state table state (get_or line place 0) ≡ Some c.in-Some.next = sym {b = next_state table state (get_or line place 0)} c.in-Some.ensures in
    c.loop-class.invariant ∙ after_step table line place c.loop-class-test.true state ∙ ap (option_and_then (λ (t : ℕ). state_after table t (drop (place + 1) line))) is
