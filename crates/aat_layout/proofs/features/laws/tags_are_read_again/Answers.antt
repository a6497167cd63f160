use Rattle.aat_layout.proofs.TagLaws.{texts_are_written_again}
use Rattle.aat_layout.proofs.features.laws.tags_are_read_again.Goals as goal

pub returns-clause-texts : goal.returns-clause-texts
returns-clause-texts c = texts_are_written_again
