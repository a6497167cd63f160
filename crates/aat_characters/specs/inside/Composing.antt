-- What only this crate's own calls say of composing.
use Rattle.std.specs.Prelude.{ℕ, Bool, List, ◌++◌}
use Rattle.aat_characters.specs.Composed.{composed_from}
use Rattle.aat_characters.specs.declared.placed_character.PlacedCharacter.{PlacedCharacter}

-- characters that are composed, and what is made of a starter and those behind it
abbrev pub composed_behind : (ℕ → Bool) → List PlacedCharacter → PlacedCharacter → List PlacedCharacter → List PlacedCharacter → List PlacedCharacter
composed_behind has done starter between rest = done ++ composed_from has starter between rest
