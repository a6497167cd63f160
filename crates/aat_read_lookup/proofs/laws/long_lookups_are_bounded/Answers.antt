use Rattle.aat_read_lookup.proofs.SizeBounds.{long_bytes_are_inside, long_lookups_are_bounded}
use Rattle.aat_read_lookup.proofs.laws.long_lookups_are_bounded.Goals as goal

pub returns-clause-memory : goal.returns-clause-memory
returns-clause-memory c = long_lookups_are_bounded

pub returns-clause-bytes : goal.returns-clause-bytes
returns-clause-bytes c = long_bytes_are_inside
