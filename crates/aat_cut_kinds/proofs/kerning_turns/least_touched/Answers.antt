use Rattle.std.proofs.Common.{◌∙◌, ℕ, ap, length, true}
use Rattle.aat_kerning_machines.specs.Runs.{config}
use Rattle.aat_cut_kinds.specs.inside.OpenRuns.{least_of}
use Rattle.aat_cut_kinds.proofs.Touches.{apart_taken, found_end}
use Rattle.aat_cut_kinds.proofs.kerning_turns.least_touched.Goals as goal

pub returns : goal.returns
returns g c = λ q below.
    let run = c.args.telling.now.run in
    let k = g.D.TouchingDriver.touching run.table.now run.tuple_count in
    let table = run.state_table.now in
    let here = config c.args.buffer.now c.args.driver.now c.args.at in
    let e = c.in-Some.entry in
    let d = c.args.driver.now in
    apart_taken k table here c.args.found.now c.requires e c.in-Some.is c.least_touched.result q
    (found_end k table here c.args.found.now c.requires c.is_some.result c.is_turn_taken.result true c.is_some.ensures c.is_turn_taken.ensures
    c.if-not-is_turn_taken.false)
    (c.least_touched.ensures
    ∙ (ap (λ (p : ℕ). least_of (k.touched e d p c.len.result) p) c.backtrack_len-cursor.ensures.place
    ∙ ap (λ (n : ℕ). least_of (k.touched e d here.buffer.cursor n) here.buffer.cursor) c.len.ensures.count)) below
