-- Pairs by classes, as bytes. Apple's TrueType Reference Manual, "The 'kern' table", format 2.
use Rattle.std.specs.Prelude.{ℕ, ℤ, ◌+◌, ◌*◌, ◌-◌, ◌/◌, ◌^◌, List, [], ◌∷◌, ◌++◌, length, map, take, drop, Option, Some, None, option_map, Result, if◌then◌else◌, nat_lt, nat_le, ◌==◌, ◌||◌}
use Rattle.std.specs.Option.{option_or}
use Rattle.aat_kerning_tables.specs.Classes.{ClassValues}
use Rattle.aat_write_machine.specs.Words.{word_bytes}
use Rattle.aat_write_truetype.specs.kern.DenseClasses.{class_gap, first_glyph}
use Rattle.aat_write_truetype.specs.kern.KernWriteErrors.{unless_refused}
use Rattle.aat_write_truetype.specs.kern.PairBytes.{value_word}
use Rattle.aat_write_truetype.specs.declared.kern.error.KernWriteError.{KernWriteError}
use Rattle.aat_write_truetype.specs.declared.kern.error.KernWriteError.TheVariants.{ClassCount, TooLong, Class, Value}

-- where the right classes start, from the start of the subtable: behind its header of 8 bytes, one of 8 bytes, and the
-- left classes
abbrev pub right_offset : ℕ → ℕ
right_offset lefts = 20 + 2 * lefts

-- where the array starts, from the start of the subtable
abbrev pub array_offset : ℕ → ℕ → ℕ
array_offset lefts rights = right_offset lefts + 4 + 2 * rights

-- the offset of a left class: where its row starts, and 0 for class 0, which has none
abbrev pub left_word : ℕ → ℕ → ℕ → ℕ
left_word array row class = if class == 0 then 0 else array + (class - 1) * row

-- the offset of a right class, from the start of a row
abbrev pub right_word : ℕ → ℕ
right_word class = 2 * class

-- classes: the first glyph, the number of glyphs, and the offset of the class of each
abbrev pub class_words : (ℕ → ℕ) → List (ℕ × ℕ) → List ℕ
class_words word classes = (first_glyph classes ∷ length classes ∷ []) ++ map (λ pair. word pair.1) classes

-- the bytes of a row, and the offsets of the left classes, of the right classes and of the array
abbrev pub grid_words : ClassValues → List ℕ
grid_words p =
    2 * p.right_count ∷ 16 ∷ right_offset (length p.left) ∷ array_offset (length p.left) (length p.right) ∷ []

-- these numbers, the classes, and the rows of the array, which has none for class 0
abbrev pub classes_words : ClassValues → List ℕ
classes_words p =
    let array = array_offset (length p.left) (length p.right) in
    grid_words p
    ++ (class_words (left_word array (2 * p.right_count)) p.left
    ++ (class_words right_word p.right ++ map value_word (drop p.right_count p.values)))

-- the least left class whose offset has more than 16 bits
abbrev pub left_limit : ℕ → ℕ → ℕ
left_limit array row = (65535 - array) / row + 2

-- the first place, from one on, whose value is not 0
abbrev pub value_from : ℕ → List ℤ → Option ℕ
value_from place [] = None
value_from place (value ∷ values) =
    if value_word value == 0 then value_from (place + 1) values else Some place

-- the end of the values where they are fewer than two rows, or else the first value of class 0 that is not 0
abbrev pub wrong_value : ℕ → List ℤ → Option ℕ
wrong_value columns values =
    if nat_lt (length values) (2 * columns) then Some (length values) else value_from 0 (take columns values)

-- the first refusal of the classes and the values of a table whose array starts at an offset
abbrev pub lists_refusal : ClassValues → ℕ → Option KernWriteError
lists_refusal p array =
    option_or (option_map Class (class_gap (left_limit array (2 * p.right_count)) p.left))
    (option_or (option_map Class (class_gap p.right_count p.right))
    (option_map Value (wrong_value p.right_count p.values)))

-- the first refusal of pairs by classes
abbrev pub classes_refusal : ClassValues → Option KernWriteError
classes_refusal p =
    let array = array_offset (length p.left) (length p.right) in
    if (p.right_count == 0) || nat_lt 32767 p.right_count then Some ClassCount else
    if nat_lt 65535 array || nat_le (2 ^ 30) (length p.values) then Some TooLong else
    lists_refusal p array

-- the bytes of pairs by classes, or why they are not written
abbrev pub classes_written : ClassValues → Result (List ℕ) KernWriteError
classes_written p = unless_refused (classes_refusal p) (word_bytes (classes_words p))
