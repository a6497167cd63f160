use Rattle.std.proofs.Common.{ap, sym, Option, Result, Ok}
use Rattle.std.proofs.lemmas.Result.{err_from_is_err_and}
use Rattle.aat_bytes.specs.Faults.{after}
use Rattle.aat_bytes.specs.declared.error.Fault.{Fault}
use Rattle.aat_read_charstrings.specs.Dicts.{entry_of, operands_at, stepped_on}
use Rattle.aat_read_charstrings.specs.declared.dict.DictState.{DictState}
use Rattle.aat_read_charstrings.specs.declared.dict.Operands.{Operands}
use Rattle.aat_read_charstrings.proofs.RunSteps.{run_continues, run_ends, run_fails, run_out}
use Rattle.aat_read_charstrings.proofs.dict.entry_of.Goals as goal

-- the operands of what is read last
abbrev operands_in : Result (Option DictState) Fault → Result (Option Operands) Fault
operands_in r = after r (λ last. Ok (operands_at last))

pub returns-in_err-state : goal.returns-in_err-state
unfolding entry_of
returns-in_err-state c =
    let a = c.args in
    let l = c.loop-turn in
    let p = err_from_is_err_and c.from_residual.result c.from_residual.ensures.1 in
    let turn = stepped_on a.bytes.now a.dict.end a.key in
    rw (p.1, p.2)
    (sym (ap operands_in (run_fails turn (λ (s : DictState). s.is_done) l.state a.dict.end l._turn c.loop-turn-test.true _ l.invariant c.in_err-state.field-0.0 (sym c.in_err-state.ensures))))

pub returns-then-state : goal.returns-then-state
unfolding entry_of
returns-then-state c =
    let a = c.args in
    let l = c.loop-turn in
    let turn = stepped_on a.bytes.now a.dict.end a.key in
    sym (ap operands_in (run_ends turn (λ (s : DictState). s.is_done) l.state a.dict.end l._turn c.loop-turn-test.true _ l.invariant c.in_ok-state.state (sym c.in_ok-state.ensures) c.if-state.true))

pub loop-turn-preserved : goal.loop-turn-preserved
loop-turn-preserved c =
    let a = c.args in
    let l = c.loop-turn in
    let turn = stepped_on a.bytes.now a.dict.end a.key in
    run_continues turn (λ (s : DictState). s.is_done) l.state a.dict.end l._turn c.loop-turn-test.true _ l.invariant c.in_ok-state.state (sym c.in_ok-state.ensures) c.if-state.false

pub returns : goal.returns
unfolding entry_of
returns c =
    let a = c.args in
    let l = c.loop-turn in
    let turn = stepped_on a.bytes.now a.dict.end a.key in
    sym (ap operands_in (run_out turn (λ (s : DictState). s.is_done) l.state a.dict.end l._turn c.loop-turn-test.false _ l.invariant))
