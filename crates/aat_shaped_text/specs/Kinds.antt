-- The kind of a character as a number, which its glyph has on a line. (HarfBuzz 12.3.2 keeps the combining class of a mark,
-- or the sort of a space, beside the properties of a glyph's character: the numbers are the shaper's own.)
use Rattle.std.specs.Prelude.{◌≡◌, ℕ, ◌+◌, ◌-◌, ◌<◌, nat_lt, List, [], ◌∷◌, slice_index_or, if◌then◌else◌}
use Rattle.aat_shaped_text.specs.declared.text.CharacterKind.{CharacterKind}
use Rattle.aat_shaped_text.specs.declared.text.CharacterKind.TheVariants.{Mark, Other, Space}
use Rattle.aat_shaped_text.specs.declared.text.SpaceWidth.{SpaceWidth}
use Rattle.aat_shaped_text.specs.declared.text.SpaceWidth.TheVariants.{Em, FifthOfEm, Figure, FourEighteenthsOfEm, FourthOfEm, HalfEm, Narrow, Punctuation, SixteenthOfEm, SixthOfEm, ThirdOfEm}

-- the number of a space's width
abbrev pub number_of_width : SpaceWidth → ℕ
number_of_width Em = 1
number_of_width HalfEm = 2
number_of_width ThirdOfEm = 3
number_of_width FourthOfEm = 4
number_of_width FifthOfEm = 5
number_of_width SixthOfEm = 6
number_of_width SixteenthOfEm = 7
number_of_width FourEighteenthsOfEm = 8
number_of_width Figure = 9
number_of_width Punctuation = 10
number_of_width Narrow = 11

-- the number of a kind: below 256 without a mark, and from there on the combining class of one
abbrev pub number_of_kind : CharacterKind → ℕ
number_of_kind Other = 0
number_of_kind (Space width) = number_of_width width
number_of_kind (Mark class) = 256 + class

-- the kinds without a mark, by their numbers
abbrev pub unmarked_kinds : List CharacterKind
unmarked_kinds =
    Other ∷ Space Em ∷ Space HalfEm ∷ Space ThirdOfEm ∷ Space FourthOfEm ∷ Space FifthOfEm ∷ Space SixthOfEm
    ∷ Space SixteenthOfEm ∷ Space FourEighteenthsOfEm ∷ Space Figure ∷ Space Punctuation ∷ Space Narrow ∷ []

-- the kind of a number, `Other` of one that no kind has
abbrev pub kind_of_number : ℕ → CharacterKind
kind_of_number n = if nat_lt n 256 then slice_index_or unmarked_kinds n Other else Mark (n - 256)
