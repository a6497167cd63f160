use Rattle.std.proofs.Common.{◌≡◌, ◌++◌, drop}
use Rattle.std.specs.List.{flat_map}
use Rattle.aat_characters.specs.Decomposed.{decomposed_character, has_glyph}
use Rattle.aat_characters.proofs.decomposed.put_characters.Given as goal

abbrev pub invariant-loop-character : goal.invariant-loop-character
invariant-loop-character g l =
    l.out.items ++ flat_map (decomposed_character (has_glyph l.fn.face) l.fn.shortest) (drop l.character-index l.part)
    ≡ l.initial.out.items ++ flat_map (decomposed_character (has_glyph l.fn.face) l.fn.shortest) l.part
