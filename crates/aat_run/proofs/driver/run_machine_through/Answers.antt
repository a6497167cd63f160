use Rattle.std.proofs.Common.{ap, arith, ◌∙◌, ℕ, length, subst, sym, List, All}
use Rattle.aat_buffer.specs.Buffer.{Buffer, Is16Bit}
use Rattle.aat_glyph.specs.declared.glyph.hb_glyph_info_t.{hb_glyph_info_t}
use Rattle.aat_run.specs.Driven.{context_from}
use Rattle.aat_run.specs.Outcome.{Outcome}
use Rattle.aat_run.specs.Ranges.{is_driven_on}
use Rattle.aat_run.specs.facts.Settings.{refused_behind}
use Rattle.aat_run.specs.facts.DrivenRuns.{run_is_bounded, run_keeps_settings, run_positions}
use Rattle.aat_run.proofs.Ran.{begun_line, begun_settings, ran, refused_run, never_refused}
use Rattle.aat_run.proofs.driver.run_machine_through.Goals as goal

pub returns-in-Ok-clause-bounded : goal.returns-in-Ok-clause-bounded
returns-in-Ok-clause-bounded g c =
    let context = g.C.driver_context_t in
    let laws = g.met.C.driver_context_t in
    let on = is_driven_on c.args.ranges.now c.args.feature_flags in
    let x = context_from context.stays_in_place context.advances context.actionable context.act c.args.context.now in
    let done = ran on c.args.machine.now x c.args.buffer.now c.begin.new.buffer c.take_turns.new.buffer c.sync.new.self c.in-Ok.outcome.turns c.in_place.result c.in_place.ensures c.begin.ensures c.in-Ok.ensures.run c.sync.ensures in
    rw done (run_is_bounded on c.args.machine.now x context.fits laws.keeps_fit laws.passes_fit laws.pays c.args.buffer.now c.requires.fit laws.bounded laws.lengthens)

pub returns-in-Ok-clause-settings : goal.returns-in-Ok-clause-settings
returns-in-Ok-clause-settings g c =
    let context = g.C.driver_context_t in
    let laws = g.met.C.driver_context_t in
    let on = is_driven_on c.args.ranges.now c.args.feature_flags in
    let x = context_from context.stays_in_place context.advances context.actionable context.act c.args.context.now in
    let done = ran on c.args.machine.now x c.args.buffer.now c.begin.new.buffer c.take_turns.new.buffer c.sync.new.self c.in-Ok.outcome.turns c.in_place.result c.in_place.ensures c.begin.ensures c.in-Ok.ensures.run c.sync.ensures in
    rw (ap (λ (o : Outcome). o.buffer) done)
    (run_keeps_settings on c.args.machine.now x context.fits laws.keeps_fit laws.passes_fit laws.pays c.args.buffer.now c.requires.fit laws.keeps_settings)

pub returns-in-Ok-clause-positions : goal.returns-in-Ok-clause-positions
returns-in-Ok-clause-positions g c =
    let context = g.C.driver_context_t in
    let laws = g.met.C.driver_context_t in
    let on = is_driven_on c.args.ranges.now c.args.feature_flags in
    let x = context_from context.stays_in_place context.advances context.actionable context.act c.args.context.now in
    let done = ran on c.args.machine.now x c.args.buffer.now c.begin.new.buffer c.take_turns.new.buffer c.sync.new.self c.in-Ok.outcome.turns c.in_place.result c.in_place.ensures c.begin.ensures c.in-Ok.ensures.run c.sync.ensures in
    ap (λ (o : Outcome). o.buffer.positions) done
    ∙ run_positions on c.args.machine.now x context.fits laws.keeps_fit laws.passes_fit laws.pays c.args.buffer.now c.requires.fit laws.makes_no_positions laws.keeps_place

pub returns-in-Err-clause-in_place : goal.returns-in-Err-clause-in_place
returns-in-Err-clause-in_place g c place =
    let context = g.C.driver_context_t in
    let laws = g.met.C.driver_context_t in
    let on = is_driven_on c.args.ranges.now c.args.feature_flags in
    let x = context_from context.stays_in_place context.advances context.actionable context.act c.args.context.now in
    absurd (never_refused on c.args.machine.now x context.fits laws.keeps_fit laws.passes_fit laws.pays (laws.keeps_place place).length c.args.buffer.now c.requires.fit
    (omega (arith, c.max_len-most.ensures.most, c.max_len-most.ensures.within)) c.begin.new.buffer c.in_place.result c.begin.ensures c.in-Err.error c.in-Err.ensures.reason)

pub returns-in-Err-clause-kept : goal.returns-in-Err-clause-kept
returns-in-Err-clause-kept g c kept =
    let context = g.C.driver_context_t in
    let laws = g.met.C.driver_context_t in
    let on = is_driven_on c.args.ranges.now c.args.feature_flags in
    let x = context_from context.stays_in_place context.advances context.actionable context.act c.args.context.now in
    absurd (never_refused on c.args.machine.now x context.fits laws.keeps_fit laws.passes_fit laws.pays (laws.keeps_count kept) c.args.buffer.now c.requires.fit
    (omega (arith, c.max_len-most.ensures.most, c.max_len-most.ensures.within)) c.begin.new.buffer c.in_place.result c.begin.ensures c.in-Err.error c.in-Err.ensures.reason)

pub take_turns-requires-clause-others : goal.take_turns-requires-clause-others
take_turns-requires-clause-others g c = c.requires.others

pub take_turns-requires-clause-gapless : goal.take_turns-requires-clause-gapless
take_turns-requires-clause-gapless g c = c.requires.gapless

pub take_turns-requires-clause-front : goal.take_turns-requires-clause-front
take_turns-requires-clause-front g c = ap (λ (b : Buffer). b.cursor) c.begin.ensures

pub take_turns-requires-clause-fit : goal.take_turns-requires-clause-fit
take_turns-requires-clause-fit g c = subst (λ (gs : List hb_glyph_info_t). g.C.driver_context_t.fits c.args.context.now 0 (length gs)) (sym (begun_line c.args.buffer.now c.begin.new.buffer c.in_place.result c.begin.ensures)) c.requires.fit

pub take_turns-requires-clause-ids : goal.take_turns-requires-clause-ids
take_turns-requires-clause-ids g c = subst (All Is16Bit) (sym (begun_line c.args.buffer.now c.begin.new.buffer c.in_place.result c.begin.ensures)) c.requires.ids

pub returns-in-Ok-clause-run : goal.returns-in-Ok-clause-run
returns-in-Ok-clause-run g c =
    let context = g.C.driver_context_t in
    let on = is_driven_on c.args.ranges.now c.args.feature_flags in
    let x = context_from context.stays_in_place context.advances context.actionable context.act c.args.context.now in
    ran on c.args.machine.now x c.args.buffer.now c.begin.new.buffer c.take_turns.new.buffer c.sync.new.self c.in-Ok.outcome.turns c.in_place.result c.in_place.ensures c.begin.ensures c.in-Ok.ensures.run c.sync.ensures

pub returns-in-Err-clause-reason : goal.returns-in-Err-clause-reason
returns-in-Err-clause-reason g c =
    let context = g.C.driver_context_t in
    let on = is_driven_on c.args.ranges.now c.args.feature_flags in
    let x = context_from context.stays_in_place context.advances context.actionable context.act c.args.context.now in
    refused_run on c.args.machine.now x c.args.buffer.now c.begin.new.buffer c.in_place.result c.in_place.ensures c.begin.ensures c.in-Err.error c.in-Err.ensures.reason

pub returns-in-Err-clause-refused : goal.returns-in-Err-clause-refused
returns-in-Err-clause-refused g c = refused_behind c.args.buffer.now c.begin.new.buffer c.take_turns.new.buffer (begun_settings c.args.buffer.now c.begin.new.buffer c.in_place.result c.begin.ensures) c.in-Err.ensures.refused
