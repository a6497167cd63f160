-- Places of a text, in its bytes or in its characters.
use Rattle.std.specs.Prelude.{ℕ, ◌+◌, List, [], ◌∷◌, length, true}
use Rattle.std.specs.Char.{len_utf8}
use Rattle.std.specs.Str.{chars}
use Rattle.unicode_segmentation.specs.Grapheme.{graphemes}
use Rattle.aat_text.specs.declared.unit.ClusterUnit.{ClusterUnit}
use Rattle.aat_text.specs.declared.unit.ClusterUnit.TheVariants.{Bytes, Characters}

-- how much a piece of a text counts
abbrev pub count_in : ClusterUnit → List ℕ → ℕ
count_in Bytes piece = length piece
count_in Characters piece = length (chars piece)

-- how much a character counts
abbrev pub width_in : ClusterUnit → ℕ → ℕ
width_in Bytes character = len_utf8 character
width_in Characters character = 1

-- each of some parts behind its place: the first one's, and then so much more as the parts before it count
abbrev pub with_places : {A : Type 0} → (A → ℕ) → ℕ → List A → List (ℕ × A)
with_places count place [] = []
with_places count place (part ∷ parts) = (place, part) ∷ with_places count (place + count part) parts

-- the extended grapheme clusters of a text behind their places
abbrev pub clusters : ClusterUnit → List ℕ → List (ℕ × List ℕ)
clusters unit text = with_places (count_in unit) 0 (graphemes true text)

-- the characters of a text behind their places
abbrev pub characters : ClusterUnit → List ℕ → List (ℕ × ℕ)
characters unit text = with_places (width_in unit) 0 (chars text)
