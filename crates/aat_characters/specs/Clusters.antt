-- The clusters of a text as HarfBuzz has them, which stay whole where a text is turned.
use Rattle.std.specs.Prelude.{ℕ, ◌-◌, Bool, ◌&&◌, ◌||◌, ◌==◌, nat_le, List, [], ◌∷◌, drop, flat_map, length, map, reverse}
use Rattle.std.specs.List.{list_all, list_any}
use Rattle.ucd_emoji.specs.Binary.{is_extended_pictographic}
use Rattle.aat_characters.specs.Marks.{is_mark}
use Rattle.aat_characters.specs.Native.{is_regional_indicator}
use Rattle.aat_characters.specs.Parts.{parts_of}
use Rattle.aat_characters.specs.PlacedCharacters.{at_place}
use Rattle.aat_characters.specs.declared.placed_character.PlacedCharacter.{PlacedCharacter}

-- a zero width joiner
abbrev pub is_joiner : ℕ → Bool
is_joiner c = c == 0x200D

-- a character that continues each cluster: a mark, a modifier of emoji, a zero width joiner, a halfwidth voiced sound
-- mark of Katakana, and a tag
abbrev pub extends : ℕ → Bool
extends c =
    is_mark c || nat_le 0x1F3FB c && nat_le c 0x1F3FF || is_joiner c || nat_le 0xFF9E c && nat_le c 0xFF9F
    || nat_le 0xE0020 c && nat_le c 0xE007F

-- the last character of a cluster is a zero width joiner
abbrev pub ends_with_joiner : List PlacedCharacter → Bool
ends_with_joiner cluster = list_any (λ c. is_joiner c.character) (drop (length cluster - 1) cluster)

-- a cluster is the first half of a flag
abbrev pub is_half_flag : List PlacedCharacter → Bool
is_half_flag cluster = (length cluster == 1) && list_all (λ c. is_regional_indicator c.character) cluster

-- whether a character continues the cluster before it: so does also a pictograph behind a zero width joiner, and the
-- second half of a flag
abbrev pub continues : List PlacedCharacter → PlacedCharacter → Bool
continues cluster c =
    extends c.character || ends_with_joiner cluster && is_extended_pictographic c.character
    || is_half_flag cluster && is_regional_indicator c.character

-- the clusters of a text: each is one character and those that continue it
abbrev pub clusters_of : List PlacedCharacter → List (List PlacedCharacter)
clusters_of characters = parts_of continues characters

-- a cluster whose characters take the place of its first one
abbrev pub merged : List PlacedCharacter → List PlacedCharacter
merged [] = []
merged (c ∷ cs) = map (at_place c.place) (c ∷ cs)

-- the clusters of a text so, from the first to the last, and from the last to the first
abbrev pub merged_clusters : List PlacedCharacter → List PlacedCharacter
merged_clusters characters = flat_map merged (clusters_of characters)

abbrev pub turned_clusters : List PlacedCharacter → List PlacedCharacter
turned_clusters characters = flat_map merged (reverse (clusters_of characters))
