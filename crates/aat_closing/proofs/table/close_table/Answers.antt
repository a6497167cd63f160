use Rattle.std.proofs.Common.{◌≡◌, ◌∙◌, ◌<◌, ◌≤◌, ap, sym, false, length, arith, rules}
use Rattle.std.proofs.lemmas.Grind.{common_steps}
use Rattle.std.specs.Option.{option_copied}
use Rattle.std.proofs.lemmas.Result.{err_from_is_err_and}
use Rattle.aat_buffer.specs.Buffer.{Buffer}
use Rattle.aat_machine_tables.specs.Chains.{subtable_count}
use Rattle.aat_font.specs.Face.{chains_in, tables_of}
use Rattle.aat_kinds.specs.Kinds.{sizes_of}
use Rattle.aat_map.specs.Map.{lists_for}
use Rattle.aat_map.specs.SwitchedChains.{switched_by}
use Rattle.aat_morx.proofs.Prepared.{prepared_ids, prepared_within}
use Rattle.aat_morx.proofs.Room.{order_of_prepared}
use Rattle.aat_morx.specs.Kept.{has_insertion}
use Rattle.aat_run.proofs.FewTurns.{few_operations, few_turns}
use Rattle.aat_run.specs.Budget.{operations_left}
use Rattle.aat_run.specs.declared.error.AatError.TheVariants.{TooLong}
use Rattle.aat_closing.proofs.AppliedCut.{applied_cut}
use Rattle.aat_closing.proofs.ClosingRoom.{closed_too_long, none_closed_refused, number_of_closed, order_of_closed}
use Rattle.aat_closing.proofs.table.close_table.Goals as goal

pub close_chains-requires-clause-ids : goal.close_chains-requires-clause-ids
close_chains-requires-clause-ids g c = rw c.prepare.ensures (prepared_ids c.args.buffer.now c.requires.ids)

pub returns-in_ok-close_chains-in-Some-clause-few : goal.returns-in_ok-close_chains-in-Some-clause-few
returns-in_ok-close_chains-in-Some-clause-few g c =
    let b = c.prepare.new.buffer in
    let short : length b.line ≤ 1073741823 = grind (arith, common_steps) in
    let budget : b.max_ops ≡ c.max_ops-budget.result = ap (λ (d : Buffer). d.max_ops) c.prepare.ensures ∙ sym c.max_ops-budget.ensures in
    let spent : operations_left b.max_ops < 2147483648 = rw budget (few_operations c.max_ops-budget.result c.max_ops-budget.type_inv) in
    few_turns c.in_ok-close_chains-in-Some.field-0.turns (subtable_count c.chains.result.now) (length b.line) b.max_ops c.in_ok-close_chains-in-Some.ensures.within.counted c.chains.ensures.few short spent

pub returns-in-None-clause-within : goal.returns-in-None-clause-within
returns-in-None-clause-within g c = rw c.prepare.ensures (prepared_within c.args.buffer.now c.requires.ids)

pub returns-in-None-clause-order : goal.returns-in-None-clause-order
returns-in-None-clause-order g c =
    order_of_prepared (sizes_of g.row.SLOTS g.row.LONGEST c.args.face.now) c.args.buffer.now c.prepare.new.buffer c.requires.slots c.prepare.ensures

pub returns-in_ok-close_chains-in-Some-clause-order : goal.returns-in_ok-close_chains-in-Some-clause-order
returns-in_ok-close_chains-in-Some-clause-order g c =
    let o = c.in_ok-close_chains-in-Some.field-0 in
    order_of_closed (sizes_of g.row.SLOTS g.row.LONGEST c.args.face.now) c.chains.result.now (lists_for (option_copied c.args.map) c.chains.result.now) c.args.buffer.now c.prepare.new.buffer c.close_chains.new.buffer
    o c.requires.slots c.prepare.ensures c.in_ok-close_chains-in-Some.ensures.run

pub returns-in_ok-close_chains-in-Some-clause-number : goal.returns-in_ok-close_chains-in-Some-clause-number
returns-in_ok-close_chains-in-Some-clause-number g c = λ none.
    let o = c.in_ok-close_chains-in-Some.field-0 in
    let same : c.chains.result.now ≡ chains_in (tables_of c.args.face.now).morx = search rules in
    number_of_closed (sizes_of g.row.SLOTS g.row.LONGEST c.args.face.now) c.chains.result.now (lists_for (option_copied c.args.map) c.chains.result.now) c.args.buffer.now c.prepare.new.buffer c.close_chains.new.buffer
    o c.requires.slots c.prepare.ensures c.in_ok-close_chains-in-Some.ensures.run (ap has_insertion same ∙ none)

pub returns-in_err-close_chains-in-Some-clause-room : goal.returns-in_err-close_chains-in-Some-clause-room
returns-in_err-close_chains-in-Some-clause-room g c = λ too_long.
    let p = err_from_is_err_and c.from_residual.result c.from_residual.ensures.1 in
    let error : c.in_err-close_chains-in-Some.field-0.0 ≡ TooLong = cc (p.1, p.2, too_long) in
    closed_too_long (sizes_of g.row.SLOTS g.row.LONGEST c.args.face.now) (switched_by c.chains.result.now (lists_for (option_copied c.args.map) c.chains.result.now)) c.args.buffer.now c.prepare.new.buffer c.prepare.ensures
    c.in_err-close_chains-in-Some.field-0.0 c.requires.slots error c.in_err-close_chains-in-Some.ensures.reason

pub returns-in_err-close_chains-in-Some-clause-without_insertion : goal.returns-in_err-close_chains-in-Some-clause-without_insertion
returns-in_err-close_chains-in-Some-clause-without_insertion g c = λ none.
    let b = c.args.buffer.now in
    let same : c.chains.result.now ≡ chains_in (tables_of c.args.face.now).morx = search rules in
    let few : has_insertion c.chains.result.now ≡ false = ap has_insertion same ∙ none in
    let within : length b.line ≤ b.max_len = omega (arith, c.len-length.ensures.count, c.len-length.ensures.within) in
    absurd (none_closed_refused (sizes_of g.row.SLOTS g.row.LONGEST c.args.face.now) c.chains.result.now (lists_for (option_copied c.args.map) c.chains.result.now) b c.prepare.new.buffer c.in_err-close_chains-in-Some.field-0.0 c.requires.slots few within c.prepare.ensures c.in_err-close_chains-in-Some.ensures.reason)

pub returns-in_ok-close_chains-in-Some-clause-cut : goal.returns-in_ok-close_chains-in-Some-clause-cut
returns-in_ok-close_chains-in-Some-clause-cut g c = λ through.
    applied_cut (sizes_of g.row.SLOTS g.row.LONGEST c.args.face.now) c.args.face.now (option_copied c.args.map) c.args.buffer.now c.close_chains.new.buffer
    c.in_ok-close_chains-in-Some.field-0 c.requires.slots (search rules) through
