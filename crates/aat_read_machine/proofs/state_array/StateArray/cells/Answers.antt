use Rattle.std.proofs.Common.{◌*◌, sym, ◌∙◌}
use Rattle.aat_read_machine.proofs.Counting.{none_missing}
use Rattle.aat_read_machine.proofs.state_array.StateArray.cells.Goals as goal

pub returns-in-None-clause-whole : goal.returns-in-None-clause-whole
returns-in-None-clause-whole c =
    none_missing c.args.self.now (c.in_ok-walk.walk.count * c.self.inside.class_count) (sym c.missing_entry.ensures.first ∙ c.in-None.is)
