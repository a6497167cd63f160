-- English names. Apple's TrueType Reference Manual, "The 'name' table".
use Rattle.std.specs.Prelude.{ℕ, List, Option, option_map}
use Rattle.std.specs.Option.{option_or}
use Rattle.aat_read_sfnt.specs.Names.{text_of}
use Rattle.aat_read_sfnt.specs.declared.name.NameKey.{NameKey}
use Rattle.aat_face.specs.declared.encoding.NameEncoding.{NameEncoding}
use Rattle.aat_face.specs.declared.encoding.NameEncoding.TheVariants.{Utf16, MacRoman}

-- a text and its encoding
pub record Text : Type 0 where
  pub encoding : NameEncoding
  pub bytes : List ℕ

-- a text in an encoding
abbrev pub text_in : NameEncoding → List ℕ → Text
text_in encoding bytes = record { encoding = encoding; bytes = bytes }

-- an English name of Windows, in Unicode
abbrev pub windows_name : ℕ → NameKey
windows_name name = record { platform = 3; encoding = 1; language = 0x409; name = name }

-- an English name of the Macintosh, in Roman
abbrev pub macintosh_name : ℕ → NameKey
macintosh_name name = record { platform = 1; encoding = 0; language = 0; name = name }

-- the English text of a name: that of Windows, else that of the Macintosh
abbrev pub english_text : List ℕ → ℕ → Option Text
english_text names name =
    option_or (option_map (text_in Utf16) (text_of names (windows_name name)))
    (option_map (text_in MacRoman) (text_of names (macintosh_name name)))
