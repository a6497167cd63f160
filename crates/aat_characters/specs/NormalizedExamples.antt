-- Worked examples of letters and marks that are composed, decomposed and put in order.
use Rattle.std.specs.Prelude.{◌≡◌, ℕ, Bool, ◌==◌, List, [], ◌∷◌, Some}
use Rattle.std.specs.List.{list_any}
use Rattle.aat_characters.specs.Composed.{normalized}
use Rattle.aat_characters.specs.PlacedCharacters.{placed}
use Rattle.aat_characters.specs.declared.placed_character.PlacedCharacter.{PlacedCharacter}

-- a character at a place
abbrev pub at : ℕ → ℕ → PlacedCharacter
at place character = placed (place, character)

-- the space, which stands for another one
abbrev pub space_for : ℕ → ℕ → PlacedCharacter
space_for place character = record { place = place; character = 0x20; space = Some character }

-- whether a font that has some characters has one
abbrev pub among : List ℕ → ℕ → Bool
among characters c = list_any (λ x. x == c) characters

-- a letter and its accent compose where the font has the composite, and come apart where it lacks it
abbrev pub AccentsCompose : Type 0
AccentsCompose =
    (normalized (among (0x65 ∷ 0x301 ∷ 0xE9 ∷ [])) (at 0 0x65 ∷ at 1 0x301 ∷ []) ≡ at 0 0xE9 ∷ [])
    × (normalized (among (0x65 ∷ 0x301 ∷ [])) (at 0 0x65 ∷ at 1 0x301 ∷ []) ≡ at 0 0x65 ∷ at 1 0x301 ∷ [])
    × (normalized (among (0x65 ∷ 0x301 ∷ [])) (at 0 0xE9 ∷ []) ≡ at 0 0x65 ∷ at 0 0x301 ∷ [])

-- a dot below goes before an accent, and takes its place
abbrev pub MarksAreOrdered : Type 0
MarksAreOrdered =
    normalized (among (0x61 ∷ 0x301 ∷ 0x323 ∷ [])) (at 0 0x61 ∷ at 1 0x301 ∷ at 3 0x323 ∷ [])
    ≡ at 0 0x61 ∷ at 1 0x323 ∷ at 1 0x301 ∷ []

-- an em space becomes a space, where the font lacks it, and a hyphen that does not break a hyphen; a letter with a
-- variation selector stays
abbrev pub OthersStandIn : Type 0
OthersStandIn =
    (normalized (among (0x20 ∷ 0x2010 ∷ [])) (at 0 0x2003 ∷ at 3 0x2011 ∷ []) ≡ space_for 0 0x2003 ∷ at 3 0x2010 ∷ [])
    × (normalized (among (0x20 ∷ 0x2003 ∷ [])) (at 0 0x2003 ∷ at 3 0xA0 ∷ []) ≡ at 0 0x2003 ∷ space_for 3 0xA0 ∷ [])
    × (normalized (among (0x2003 ∷ [])) (at 0 0x2001 ∷ at 3 0x3000 ∷ []) ≡ at 0 0x2003 ∷ at 3 0x3000 ∷ [])
    × (normalized (among (0x65 ∷ 0x301 ∷ [])) (at 0 0xE9 ∷ at 2 0xFE0F ∷ []) ≡ at 0 0xE9 ∷ at 2 0xFE0F ∷ [])
