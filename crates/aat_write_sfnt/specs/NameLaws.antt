-- English names that are written are found.
use Rattle.std.specs.Prelude.{◌≡◌, ℕ, ◌<◌, List, All, Some, Ok}
use Rattle.aat_read_sfnt.specs.Names.{names_of, text_of}
use Rattle.aat_read_sfnt.specs.declared.name.NameKey.{NameKey}
use Rattle.aat_write_sfnt.specs.NameTables.{SfntName, name_written}

-- the number of a name has 16 bits
abbrev pub HasNumber : SfntName → Type 0
HasNumber name = name.name < 65536

-- an English name of Windows, in Unicode
abbrev pub english : ℕ → NameKey
english name = record { platform = 3; encoding = 1; language = 0x409; name = name }

-- the table is read, and each name that was written has its text there
abbrev pub WrittenNamesAreFound : Type 0
WrittenNamesAreFound =
    (names : List SfntName) (bytes : List ℕ)
    → All HasNumber names
    → name_written names ≡ Ok bytes
    → (names_of bytes ≡ Ok bytes) × All (λ name. text_of bytes (english name.name) ≡ Some name.text) names
