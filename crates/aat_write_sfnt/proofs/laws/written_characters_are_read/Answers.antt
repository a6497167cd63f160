use Rattle.aat_write_sfnt.proofs.CharactersAgain.{written_characters_are_read}
use Rattle.aat_write_sfnt.proofs.laws.written_characters_are_read.Goals as goal

pub returns : goal.returns
returns c = written_characters_are_read
