use Rattle.std.proofs.Common.{List, subst}
use Rattle.aat_font.specs.Wakers.{AreChainWakers}
use Rattle.aat_machine_tables.specs.declared.morx.Chain.{Chain}
use Rattle.aat_font.proofs.morx.Morx.new.Goals as goal

pub invariant_of-result-clause-awake : goal.invariant_of-result-clause-awake
invariant_of-result-clause-awake c =
    subst (λ (chains : List Chain). AreChainWakers chains c.words_where_memory-wakers.result.blocks.items) c.deref.ensures.value c.words_where_memory-wakers.ensures
