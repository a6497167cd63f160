use Rattle.aat_read_lookup.proofs.FoundUnits.{values_are_those_found}
use Rattle.aat_read_lookup.proofs.Values.{values_are_those_of_segments}
use Rattle.aat_read_lookup.proofs.laws.values_are_those_of_segments.Goals as goal

pub returns-clause-segments : goal.returns-clause-segments
returns-clause-segments c = values_are_those_of_segments

pub returns-clause-units : goal.returns-clause-units
returns-clause-units c = values_are_those_found
