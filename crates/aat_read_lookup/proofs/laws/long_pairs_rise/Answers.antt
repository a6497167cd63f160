use Rattle.aat_read_lookup.proofs.SizeBounds.{long_pairs_rise}
use Rattle.aat_read_lookup.proofs.laws.long_pairs_rise.Goals as goal

pub returns : goal.returns
returns c = long_pairs_rise
