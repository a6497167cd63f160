use Rattle.std.proofs.Common.{◌≡◌, ◌++◌, map, drop}
use Rattle.aat_characters.specs.PlacedCharacters.{at_place}
use Rattle.aat_characters.proofs.placed_character.put_moved.Given as goal

abbrev pub invariant-loop-character : goal.invariant-loop-character
invariant-loop-character g l =
    l.out.items ++ map (at_place l.place) (drop l.character-index l.characters) ≡ l.initial.out.items ++ map (at_place l.place) l.characters
