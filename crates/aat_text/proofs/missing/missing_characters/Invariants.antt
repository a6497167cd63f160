use Rattle.std.proofs.Common.{◌≡◌, ◌++◌, ◌+◌, ◌≤◌, length}
use Rattle.std.specs.Str.{chars, IsUtf8}
use Rattle.std.specs.Str.Iter.{chars_rest}
use Rattle.aat_text.specs.Missing.{missing_characters}
use Rattle.aat_text.proofs.Placed.{missing_from}
use Rattle.aat_text.proofs.missing.missing_characters.Given as goal

abbrev pub invariant-loop-character : goal.invariant-loop-character
invariant-loop-character g l = record {
  text : IsUtf8 (chars_rest l.character-iterator);
  made : l.missing.items ++ missing_from l.fn.face l.fn.unit l.place (chars (chars_rest l.character-iterator))
      ≡ missing_characters l.fn.face l.fn.unit l.fn.text;
  room : l.place + length (chars_rest l.character-iterator) ≤ length l.fn.text;
}
