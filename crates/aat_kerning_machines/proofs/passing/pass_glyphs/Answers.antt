use Rattle.std.proofs.Common.{◌≡◌, ◌∙◌, refl, ◌+◌, arith}
use Rattle.aat_kerning_machines.specs.KerningMachine.{kerning_turn}
use Rattle.aat_kerning_machines.specs.Runs.{machine_over, act_over}
use Rattle.aat_run.specs.Context.{first_config}
use Rattle.aat_kerning_machines.proofs.Coming.{come_first}
use Rattle.aat_kerning_machines.proofs.Passed.{entry_behind, passed_all, passed_from}
use Rattle.aat_kerning_machines.proofs.passing.pass_glyphs.Goals as goal

pub returns-then-count-gt0-clause-come : goal.returns-then-count-gt0-clause-come
returns-then-count-gt0-clause-come g c pays_first =
    let d = g.D.StateTableDriver in
    let laws = g.met.D.StateTableDriver in
    let run = c.args.run.now in
    let is_cross = run.has_cross_stream in
    let kern_mask = run.plan.now.kern_mask in
    let act = act_over run d.actionable d.act in
    let b = c.args.buffer.now in
    let r = c.args.driver.now in
    let turns = c.args.run_state.now.turns in
    let count = c.passed_count-count.result.0 in
    let from = record (first_config b r) { turns = turns } in
    let m = machine_over run d.actionable d.act pays_first in
    let glyphs = passed_from d.resting run.state_table.now b count c.from_cursor.result.now c.from_cursor.ensures c.passed_count-count.ensures.within c.if-count-gt0.true c.passed_count-count.ensures.passed in
    let stands = come_first (kerning_turn m) d.fits from c.requires.fit in
    rw (c.pass.ensures.passed, c.requires.start)
    (passed_all pays_first run.state_table.now d.actionable act d.resting (laws.rests_alone run.table.now is_cross kern_mask run.tuple_count) c.requires.end
    d.fits (laws.positions_alone run.table.now is_cross kern_mask run.tuple_count) (laws.keeps_fit run.table.now is_cross kern_mask run.tuple_count) laws.passes_fit from
    count b r turns c.if-count-gt0.true stands glyphs.0 glyphs.1)

pub returns-then-count-gt0-clause-entry : goal.returns-then-count-gt0-clause-entry
returns-then-count-gt0-clause-entry g c =
    let table = c.args.run.now.state_table.now in
    let b = c.args.buffer.now in
    let d = c.pass.new.buffer in
    let behind = entry_behind table b d c.passed_count-count.result.0 c.from_cursor.result.now c.from_cursor.ensures c.pass.ensures.line c.pass.ensures.cursor in
    rw c.requires.start (c.passed_count-count.ensures.entry ∙ behind)

pub returns-else-count-gt0-clause-entry : goal.returns-else-count-gt0-clause-entry
returns-else-count-gt0-clause-entry g c =
    let table = c.args.run.now.state_table.now in
    let b = c.args.buffer.now in
    let here : b.cursor ≡ b.cursor + c.passed_count-count.result.0 = omega (arith, c.if-count-gt0.false) in
    let behind = entry_behind table b b c.passed_count-count.result.0 c.from_cursor.result.now c.from_cursor.ensures refl here in
    rw c.requires.start (c.passed_count-count.ensures.entry ∙ behind)
