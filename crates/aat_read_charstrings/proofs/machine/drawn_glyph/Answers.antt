use Rattle.std.proofs.Common.{◌∙◌, ap, sym, Option, Result, Ok, Err}
use Rattle.std.proofs.lemmas.Result.{err_from_is_err_and}
use Rattle.aat_bytes.specs.Faults.{after}
use Rattle.aat_bytes.specs.declared.error.Fault.{Fault}
use Rattle.aat_read_charstrings.specs.Machines.{Execution, drawn_glyph, ended, turned}
use Rattle.aat_read_charstrings.specs.declared.machine.TheConstants.{TURN_LIMIT}
use Rattle.aat_read_charstrings.proofs.Refusals.{refused_by}
use Rattle.aat_read_charstrings.proofs.RunSteps.{run_continues, run_ends, run_fails, run_out}
use Rattle.aat_read_charstrings.proofs.machine.drawn_glyph.Goals as goal

pub returns-in_err-turn : goal.returns-in_err-turn
unfolding drawn_glyph
returns-in_err-turn g c =
    let a = c.args in
    let l = c.loop-turn in
    let p = err_from_is_err_and c.from_residual.result c.from_residual.ensures.1 in
    let turn = turned a.program.now in
    rw (p.1, p.2)
    (refused_by (turn l.machine) (drawn_glyph a.program.now a.at)
    (λ fault fails. ap (λ (r : Result (Option Execution) Fault). after r (ended a.at.start)) (run_fails turn (λ (m : Execution). m.is_done) l.machine TURN_LIMIT l._turn c.loop-turn-test.true _ l.invariant fault fails))
    c.in_err-turn.field-0.0 c.in_err-turn.ensures)

pub returns-then-machine : goal.returns-then-machine
unfolding drawn_glyph
returns-then-machine g c =
    let a = c.args in
    let l = c.loop-turn in
    let turn = turned a.program.now in
    ap (λ (r : Result (Option Execution) Fault). after r (ended a.at.start)) (run_ends turn (λ (m : Execution). m.is_done) l.machine TURN_LIMIT l._turn c.loop-turn-test.true _ l.invariant c.turn.new.self c.in_ok-turn.ensures (sym (ap (λ (m : Execution). m.is_done) c.machine.view_is) ∙ c.if-machine.true))
    ∙ ap Ok (sym c.into_segments.ensures)

pub loop-turn-preserved : goal.loop-turn-preserved
loop-turn-preserved g c =
    let l = c.loop-turn in
    run_continues (turned c.args.program.now) (λ (m : Execution). m.is_done) l.machine TURN_LIMIT l._turn c.loop-turn-test.true _ l.invariant c.turn.new.self c.in_ok-turn.ensures (sym (ap (λ (m : Execution). m.is_done) c.machine.view_is) ∙ c.if-machine.false)

pub returns : goal.returns
unfolding drawn_glyph
returns g c =
    let a = c.args in
    let l = c.loop-turn in
    ap (λ (r : Result (Option Execution) Fault). after r (ended a.at.start)) (run_out (turned a.program.now) (λ (m : Execution). m.is_done) l.machine TURN_LIMIT l._turn c.loop-turn-test.false _ l.invariant)
    ∙ ap Err (sym c.past.ensures)
