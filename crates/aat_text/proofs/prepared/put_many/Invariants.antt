use Rattle.std.proofs.Common.{◌≡◌, ◌++◌, map, drop}
use Rattle.aat_text.specs.Prepared.{placed_glyph}
use Rattle.aat_text.specs.inside.KnownGlyphs.{AreKnownWhole}
use Rattle.aat_text.proofs.prepared.put_many.Given as goal

abbrev pub invariant-loop-character : goal.invariant-loop-character
invariant-loop-character g l = record {
  known : AreKnownWhole l.face l.known;
  made : l.glyphs.items ++ map (placed_glyph l.face) (drop l.character-index l.characters)
      ≡ l.initial.glyphs.items ++ map (placed_glyph l.face) l.characters;
}
