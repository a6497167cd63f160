use Rattle.std.proofs.Common.{◌≡◌}
use Rattle.std.specs.Str.{IsUtf8}
use Rattle.std.specs.Str.Iter.{chars_rest}
use Rattle.aat_characters.specs.Scripts.{text_script}
use Rattle.aat_characters.proofs.script.text_script.Given as goal

abbrev pub invariant-loop-character : goal.invariant-loop-character
invariant-loop-character l = record {
  text : IsUtf8 (chars_rest l.character-iterator);
  left : text_script (chars_rest l.character-iterator) ≡ text_script l.fn.text;
}
