use Rattle.std.proofs.Common.{◌≡◌, true, rules}
use Rattle.std.proofs.lemmas.Result.{err_from_is_err_and}
use Rattle.aat_kinds.specs.Kinds.{sizes_of}
use Rattle.aat_layout.proofs.Isolating.{isolated_by_run}
use Rattle.aat_layout.proofs.Refusing.{reason_of_run, left_by_run}
use Rattle.aat_layout.specs.Planned.{substitution_with}
use Rattle.aat_layout.proofs.aat_layout.hb_aat_layout_substitute_with.Goals as goal

pub returns-in_err-turns-clause-reason : goal.returns-in_err-turns-clause-reason
returns-in_err-turns-clause-reason g c =
    let p = err_from_is_err_and c.from_residual-in_err-turns.result c.from_residual-in_err-turns.ensures.1 in
    let good : c.args.buffer.now.successful ≡ true = search rules in
    rw (p.1, p.2) (reason_of_run (sizes_of g.row.SLOTS g.row.LONGEST c.args.face.now) c.args.plan.now c.args.face.now c.args.buffer.now _ good c.in_ok-map.ensures.fits (rw c.in_ok-map.ensures.ok at (rw c.as_ref.ensures.value at c.in_err-turns.ensures.reason)))

pub returns-in_err-turns-clause-left : goal.returns-in_err-turns-clause-left
returns-in_err-turns-clause-left g c =
    let p = err_from_is_err_and c.from_residual-in_err-turns.result c.from_residual-in_err-turns.ensures.1 in
    rw (p.1, p.2) (left_by_run (sizes_of g.row.SLOTS g.row.LONGEST c.args.face.now) c.args.plan.now c.args.face.now c.args.buffer.now c.run_table.new.buffer _ c.in_ok-map.ensures.fits (rw c.in_ok-map.ensures.ok at (rw c.as_ref.ensures.value at c.in_err-turns.ensures.reason)) c.in_err-turns.ensures.refused)

pub returns-clause-isolation : goal.returns-clause-isolation
returns-clause-isolation g c =
    let ran : record { buffer = c.run_table.new.buffer; turns = c.unwrap_or.result } ≡ substitution_with (sizes_of g.row.SLOTS g.row.LONGEST c.args.face.now) c.args.plan.now c.args.face.now c.args.buffer.now = search rules in
    isolated_by_run (sizes_of g.row.SLOTS g.row.LONGEST c.args.face.now) c.requires.slots c.args.plan.now c.args.face.now c.args.buffer.now c.run_table.new.buffer c.unwrap_or.result ran
