-- Which characters each class has.
use Rattle.std.specs.Prelude.{ℕ, Bool}
use Rattle.std.specs.Char.{is_ascii_alphabetic, is_ascii_digit}
use Rattle.aat_layout.specs.features.Characters.{is_printable, is_space, is_tag_character}
use Rattle.aat_layout.specs.declared.features.characters.Class.{Class}
use Rattle.aat_layout.specs.declared.features.characters.Class.TheVariants.{Space, Digit, Letter, OfTag, Printable}

-- whether a character is of a class
abbrev pub is_of : Class → ℕ → Bool
is_of Space = is_space
is_of Digit = is_ascii_digit
is_of Letter = is_ascii_alphabetic
is_of OfTag = is_tag_character
is_of Printable = is_printable
