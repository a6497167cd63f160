use Rattle.std.proofs.Common.{◌≡◌, ◌+◌, ◌*◌, length}
use Rattle.aat_kerning_tables.specs.Pairs.{key_of_pair}
use Rattle.aat_kerning_tables.specs.inside.Lefts.{BeginAt}
use Rattle.aat_lookup.specs.inside.Walks.{AreBelow}
use Rattle.aat_kerning_tables.proofs.lefts.starts_from.Given as goal

abbrev pub invariant-loop-place : goal.invariant-loop-place
invariant-loop-place g l = record {
  long : length l.starts.items ≡ l.place;
  begin : BeginAt l.fn.lowest l.starts.items l.place l.fn.pairs;
  passed : AreBelow key_of_pair l.fn.pairs l.at ((l.fn.lowest + l.place) * 65536);
}
