use Rattle.aat_text.proofs.EndsRise.{line_ends_rise}
use Rattle.aat_text.proofs.laws.line_ends_rise.Goals as goal

pub returns : goal.returns
returns c = line_ends_rise
