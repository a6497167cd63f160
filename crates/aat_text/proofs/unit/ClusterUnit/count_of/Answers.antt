use Rattle.std.proofs.lemmas.Iterator.{YieldsList-from_chars}
use Rattle.std.proofs.lemmas.Iterator.Consumers.{count_from_yields_List}
use Rattle.aat_text.proofs.unit.ClusterUnit.count_of.Goals as goal

pub returns-in-Characters-clause-value : goal.returns-in-Characters-clause-value
returns-in-Characters-clause-value c =
    rw c.in-Characters.is (count_from_yields_List _ _ c.count.ensures.ran (YieldsList-from_chars c.args.piece.now c.utf8.piece cc))
