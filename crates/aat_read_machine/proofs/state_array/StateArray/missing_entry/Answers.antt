use Rattle.std.proofs.Common.{sym, ◌∙◌}
use Rattle.aat_read_machine.proofs.Walks.{none_of_reach}
use Rattle.aat_read_machine.proofs.state_array.StateArray.missing_entry.Goals as goal

pub returns-then-has_entries-clause-first : goal.returns-then-has_entries-clause-first
returns-then-has_entries-clause-first c =
    sym (none_of_reach c.args.self.now c.args.cells c.args.entries c.requires.named (sym c.has_entries.ensures ∙ c.if-has_entries.true))
