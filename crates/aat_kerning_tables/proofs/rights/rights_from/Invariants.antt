use Rattle.std.proofs.Common.{◌≡◌, length}
use Rattle.aat_kerning_tables.specs.inside.Rights.{TellWords}
use Rattle.aat_kerning_tables.proofs.rights.rights_from.Given as goal

abbrev pub invariant-loop-place : goal.invariant-loop-place
invariant-loop-place g l = record {
  long : length l.words.items ≡ l.place;
  told : TellWords l.fn.lowest l.words.items l.place l.fn.pairs;
}
