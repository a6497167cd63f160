use Rattle.std.proofs.Common.{sym, ◌∙◌}
use Rattle.aat_read_kern.proofs.Closing.{all_indexed, all_whole}
use Rattle.aat_read_kern.proofs.byte_machine.ByteMachine.whole_rows.Goals as goal

pub missing_entry-requires-clause-indexed : goal.missing_entry-requires-clause-indexed
missing_entry-requires-clause-indexed c =
    all_indexed c.args.bytes.now c.args.self c.rows-rows.result (sym c.missing_index.ensures.first ∙ c.in_default.is)

pub entry_place-place-requires-clause-indexed : goal.entry_place-place-requires-clause-indexed
entry_place-place-requires-clause-indexed c =
    all_indexed c.args.bytes.now c.args.self c.rows-rows.result (sym c.missing_index.ensures.first ∙ c.in_default.is) c.in-Some-missing_entry.cell c.in-Some-missing_entry.ensures.below

pub returns-clause-indexed : goal.returns-clause-indexed
returns-clause-indexed c =
    all_indexed c.args.bytes.now c.args.self c.rows-rows.result (sym c.missing_index.ensures.first ∙ c.in_default.is)

pub returns-clause-whole : goal.returns-clause-whole
returns-clause-whole c =
    all_whole c.args.bytes.now c.args.self c.rows-rows.result (sym c.missing_entry.ensures.first ∙ c.in_default-missing_entry.is)
