use Rattle.std.proofs.Common.{ap, ◌∙◌}
use Rattle.std.specs.Prelude.{max}
use Rattle.aat_read_machine.proofs.Walks.{one_more}
use Rattle.aat_read_machine.proofs.state_array.StateArray.walk_on.Goals as goal

pub returns-clause-walk : goal.returns-clause-walk
returns-clause-walk c =
    let counted = c.max-count.ensures ∙ ap (λ n. max c.args.walk.count n) c.entry_states.ensures.named in
    one_more c.args.self.now c.args.cell c.index-index.result c.args.walk c.requires.indexed c.requires.walk c.index-index.ensures
    c.max-count.result c.max-reach.result c.passed_states-passed.result
    c.requires.below c.index-index.type_inv (rw c.entry_states.ensures.named at c.entry_states.ensures.few) counted c.max-reach.ensures
    c.passed_states-passed.ensures.names c.passed_states-passed.ensures.within
