-- What only this crate's own calls say of the direction of a text.
use Rattle.std.specs.Prelude.{ℕ, Bool, List, if◌then◌else◌}
use Rattle.aat_characters.specs.Composed.{normalized}
use Rattle.aat_characters.specs.declared.placed_character.PlacedCharacter.{PlacedCharacter}
use Rattle.aat_glyph.specs.Directions.{is_backward, is_forward}
use Rattle.aat_glyph.specs.declared.glyph.Direction.{Direction}
use Rattle.aat_text.specs.Prepared.{placed_text, turned_text}
use Rattle.aat_text.specs.declared.clusters.ClusterLevel.{ClusterLevel}
use Rattle.aat_text.specs.declared.unit.ClusterUnit.{ClusterUnit}

-- whether a text that runs in a direction is shaped in the other one
abbrev pub is_turned_to : Direction → Direction → Bool
is_turned_to direction native = if is_forward direction then is_backward native else is_forward native

-- the characters of a text as they are shaped, where it is told whether it is turned
abbrev pub characters_when : (ℕ → Bool) → Bool → Direction → ClusterLevel → ClusterUnit → List ℕ → List PlacedCharacter
characters_when has turned direction level unit text =
    normalized has (if turned then turned_text has direction unit text else placed_text has direction level unit text)
