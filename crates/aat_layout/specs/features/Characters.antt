-- The characters of a text, by their codes, and runs of them.
use Rattle.std.specs.Prelude.{ℕ, ◌+◌, ◌==◌, ◌||◌, Bool, List, length, drop, take_while, Option, Some, None, nat_eq, if◌then◌else◌}
use Rattle.std.specs.Char.{is_ascii_alphanumeric}
use Rattle.std.specs.Int.{is_in_range}
use Rattle.std.specs.List.{starts_with}

-- a space, or one of the codes 9 to 13: tabs and ends of lines and pages
abbrev pub is_space : ℕ → Bool
is_space c = is_in_range 9 13 c || (c == 32)

-- a letter, a digit or an underscore
abbrev pub is_tag_character : ℕ → Bool
is_tag_character c = is_ascii_alphanumeric c || (c == 95)

-- a character that is printed, from the space up to the tilde
abbrev pub is_printable : ℕ → Bool
is_printable c = is_in_range 32 126 c

-- the characters from a place on that pass a test, up to the first that does not
unfoldable pub run : (ℕ → Bool) → List ℕ → ℕ → List ℕ
run test text place = take_while test (drop place text)

-- the place behind the spaces from a place on
unfoldable pub skipped : List ℕ → ℕ → ℕ
skipped text place = place + length (run is_space text place)

-- the place behind a word, where it stands at this place
unfoldable pub after : List ℕ → List ℕ → ℕ → Option ℕ
after word text place =
    if starts_with nat_eq (drop place text) word then Some (place + length word) else None

-- the place behind a word, where it comes next, with or without spaces before it
abbrev pub next : List ℕ → List ℕ → ℕ → Option ℕ
next word text place = after word text (skipped text place)
