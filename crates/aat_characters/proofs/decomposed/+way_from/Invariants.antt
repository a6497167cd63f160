use Rattle.std.proofs.Common.{◌-◌, length}
use Rattle.aat_characters.proofs.decomposed.+way_from.Given as goal

abbrev pub decreases-way_from : goal.decreases-way_from
decreases-way_from l = length l.parts.now - l.at
