use Rattle.std.proofs.Common.{◌-◌}
use Rattle.aat_bytes.specs.facts.FoundKeys.{Narrows}
use Rattle.aat_read_lookup.proofs.SoundUnits.{behind, low}
use Rattle.aat_read_lookup.proofs.units.Units.glyphs_found.Given as goal

abbrev pub invariant-way : goal.invariant-way
invariant-way l = Narrows (low l.bytes l.self) (behind l.bytes l.self) l.self.count 65536 l.wanted l.from l.to l.first l.end

abbrev pub decreases-way : goal.decreases-way
decreases-way l = l.to - l.from
