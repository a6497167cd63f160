use Rattle.std.proofs.Common.{◌≡◌, ◌++◌, ◌+◌, ◌≤◌, length, map}
use Rattle.std.specs.List.{flat_map}
use Rattle.std.specs.Str.{chars, IsUtf8}
use Rattle.std.specs.Str.Iter.{chars_rest}
use Rattle.aat_characters.specs.Decomposed.{has_glyph}
use Rattle.aat_characters.specs.PlacedCharacters.{placed}
use Rattle.aat_text.specs.Places.{width_in, with_places}
use Rattle.aat_text.specs.Prepared.{own_characters}
use Rattle.aat_text.specs.inside.KnownGlyphs.{AreKnown}
use Rattle.aat_text.specs.inside.Lone.{exchanged_glyphs, stand_apart}
use Rattle.aat_text.proofs.lone.put_lone_glyphs.Given as goal

abbrev pub invariant-loop-character : goal.invariant-loop-character
invariant-loop-character g l = record {
  known : AreKnown l.fn.face l.known;
  text : IsUtf8 (chars_rest l.character-iterator);
  apart : stand_apart (has_glyph l.fn.face) l.fn.direction (chars_rest l.character-iterator)
      ≡ stand_apart (has_glyph l.fn.face) l.fn.direction l.fn.text;
  made : l.glyphs.items ++ flat_map (exchanged_glyphs l.fn.face l.fn.direction) (map placed (with_places (width_in l.fn.unit) l.place (chars (chars_rest l.character-iterator))))
      ≡ flat_map (exchanged_glyphs l.fn.face l.fn.direction) (own_characters l.fn.unit l.fn.text);
  room : l.place + length (chars_rest l.character-iterator) ≤ length l.fn.text;
}
