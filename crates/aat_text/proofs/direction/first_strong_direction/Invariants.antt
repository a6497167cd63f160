use Rattle.std.proofs.Common.{◌≡◌}
use Rattle.std.specs.Str.{IsUtf8}
use Rattle.std.specs.Str.Iter.{chars_rest}
use Rattle.aat_text.specs.Strong.{first_strong_direction}
use Rattle.aat_text.proofs.direction.first_strong_direction.Given as goal

abbrev pub invariant-loop-character : goal.invariant-loop-character
invariant-loop-character l = record {
  text : IsUtf8 (chars_rest l.character-iterator);
  left : first_strong_direction (chars_rest l.character-iterator) ≡ first_strong_direction l.fn.text;
}
