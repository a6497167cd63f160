use Rattle.aat_kerning_tables.proofs.lefts.Lefts.pairs_of.Goals as goal

pub pairs_from-requires-clause-starts : goal.pairs_from-requires-clause-starts
pairs_from-requires-clause-starts g c = rw c.deref.ensures.value c.requires.starts
