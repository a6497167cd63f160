-- English names as bytes. Apple's TrueType Reference Manual, "The 'name' table".
use Rattle.std.specs.Prelude.{ℕ, ◌+◌, ◌*◌, List, [], ◌∷◌, ◌++◌, length, Result, nat_lt, ◌||◌}
use Rattle.std.specs.List.{flat_map}
use Rattle.aat_lookup.specs.Keys.{first_fall}
use Rattle.aat_write_sfnt.specs.Records.{records}
use Rattle.aat_write_machine.specs.Words.{word_bytes}
use Rattle.aat_write_machine.specs.WriteErrors.{unless_refused}
use Rattle.aat_write_machine.specs.declared.write_error.WriteError.{WriteError}

-- a name: its number and the bytes of its text
pub record SfntName : Type 0 where
  pub name : ℕ
  pub text : List ℕ

-- names rise by their numbers
abbrev pub number_of : SfntName → ℕ
number_of name = name.name

-- the text of a name
abbrev pub text_of_name : SfntName → List ℕ
text_of_name name = name.text

-- the texts of names, one behind the other
abbrev pub text_bytes : List SfntName → List ℕ
text_bytes names = flat_map text_of_name names

-- a record: platform 3, encoding 1, language 0x409, number, and length and place of the text
abbrev pub name_record_words : ℕ → SfntName → List ℕ
name_record_words place name = 3 ∷ 1 ∷ 0x409 ∷ name.name ∷ length name.text ∷ place ∷ []

-- the records of names: the first text has place 0
abbrev pub name_records : List SfntName → List ℕ
name_records names = records text_of_name name_record_words 0 names

-- version 0, the number of names, the place of the texts, and the records
abbrev pub name_words : List SfntName → List ℕ
name_words names =
    (0 ∷ length names ∷ (6 + 12 * length names) ∷ []) ++ name_records names

-- the bytes of a table, or why it is not written: numbers that do not rise, more than 5,460 names, or longer texts
abbrev pub name_written : List SfntName → Result (List ℕ) WriteError
name_written names =
    unless_refused (first_fall number_of names)
    (nat_lt 5460 (length names) || nat_lt 65535 (length (text_bytes names)))
    (word_bytes (name_words names) ++ text_bytes names)
