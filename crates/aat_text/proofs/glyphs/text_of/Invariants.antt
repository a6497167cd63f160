use Rattle.std.proofs.Common.{◌≡◌, ℕ, List, ◌++◌, ◌+◌, ◌≤◌, length}
use Rattle.std.specs.Str.{chars, IsUtf8}
use Rattle.std.specs.Str.Iter.{chars_rest}
use Rattle.aat_text.specs.TextGlyphs.{text_of}
use Rattle.aat_text.specs.inside.ClusterStarts.{IsBehind}
use Rattle.aat_text.specs.inside.KnownGlyphs.{AreKnown}
use Rattle.aat_text.proofs.Passed.{glyphs_behind}
use Rattle.aat_text.proofs.glyphs.text_of.Given as goal

abbrev pub invariant-loop-character : goal.invariant-loop-character
invariant-loop-character g l = record {
  known : AreKnown l.fn.face l.known;
  text : IsUtf8 (chars_rest l.character-iterator);
  made : (before : List ℕ) × IsBehind before l.before
      × (l.glyphs.items ++ glyphs_behind l.fn.face l.fn.unit before l.cluster l.place (chars (chars_rest l.character-iterator))
      ≡ text_of l.fn.face l.fn.unit l.fn.text);
  started : l.cluster ≤ l.place;
  room : l.place + length (chars_rest l.character-iterator) ≤ length l.fn.text;
}
