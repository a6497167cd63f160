-- Worked examples of the clusters of a text.
use Rattle.std.specs.Prelude.{◌≡◌, ℕ, List, [], ◌∷◌, map, zip, length}
use Rattle.std.specs.List.{range_with_len}
use Rattle.aat_characters.specs.Clusters.{clusters_of, merged_clusters, turned_clusters}
use Rattle.aat_characters.specs.NormalizedExamples.{at}
use Rattle.aat_characters.specs.declared.placed_character.PlacedCharacter.{PlacedCharacter}

-- characters that stand side by side
abbrev pub in_row : List ℕ → List PlacedCharacter
in_row characters = map (λ p. at p.0 p.1) (zip (range_with_len 0 (length characters)) characters)

-- how many characters each cluster has
abbrev pub sizes : List ℕ → List ℕ
sizes characters = map length (clusters_of (in_row characters))

-- a mark continues its letter, also a spacing one that Unicode's clusters leave alone, and one that begins a text is
-- alone; letters of Hangul stay apart, and so do the halves of a line break; a zero width non-joiner begins a cluster
abbrev pub MarksContinueLetters : Type 0
MarksContinueLetters =
    (sizes (0x65 ∷ 0x301 ∷ 0x323 ∷ 0x65 ∷ []) ≡ 3 ∷ 1 ∷ [])
    × (sizes (0x1019 ∷ 0x1038 ∷ []) ≡ 2 ∷ [])
    × (sizes (0x301 ∷ 0x65 ∷ []) ≡ 1 ∷ 1 ∷ [])
    × (sizes (0x1112 ∷ 0x1161 ∷ 0x11AB ∷ []) ≡ 1 ∷ 1 ∷ 1 ∷ [])
    × (sizes (0xD ∷ 0xA ∷ []) ≡ 1 ∷ 1 ∷ [])
    × (sizes (0x61 ∷ 0x200C ∷ 0x62 ∷ []) ≡ 1 ∷ 1 ∷ 1 ∷ [])
    × (sizes (0xFF76 ∷ 0xFF9E ∷ []) ≡ 2 ∷ [])

-- two regional indicators are a flag, and the third begins another one; a mark between two keeps them apart
abbrev pub FlagsArePairs : Type 0
FlagsArePairs =
    (sizes (0x1F1E9 ∷ 0x1F1EA ∷ 0x1F1EB ∷ []) ≡ 2 ∷ 1 ∷ [])
    × (sizes (0x1F1E9 ∷ 0x301 ∷ 0x1F1EA ∷ 0x1F1EB ∷ []) ≡ 2 ∷ 2 ∷ [])
    × (sizes (0x1F3F4 ∷ 0xE0067 ∷ 0xE0062 ∷ 0xE007F ∷ []) ≡ 4 ∷ [])

-- a family is one cluster, and so is a pictograph with the colour of its skin; a letter behind a joiner begins another
-- one
abbrev pub FamiliesAreWhole : Type 0
FamiliesAreWhole =
    (sizes (0x1F468 ∷ 0x200D ∷ 0x1F469 ∷ 0x200D ∷ 0x1F467 ∷ []) ≡ 5 ∷ [])
    × (sizes (0x1F44B ∷ 0x1F3FD ∷ 0x1F44B ∷ []) ≡ 2 ∷ 1 ∷ [])
    × (sizes (0x628 ∷ 0x200D ∷ 0x628 ∷ []) ≡ 2 ∷ 1 ∷ [])

-- a cluster has the place of its first character, and stays whole where a text is turned
abbrev pub ClustersStayWhole : Type 0
ClustersStayWhole =
    (merged_clusters (at 0 0x65 ∷ at 1 0x301 ∷ at 3 0x66 ∷ []) ≡ at 0 0x65 ∷ at 0 0x301 ∷ at 3 0x66 ∷ [])
    × (turned_clusters (at 0 0x65 ∷ at 1 0x301 ∷ at 3 0x66 ∷ []) ≡ at 3 0x66 ∷ at 0 0x65 ∷ at 0 0x301 ∷ [])
