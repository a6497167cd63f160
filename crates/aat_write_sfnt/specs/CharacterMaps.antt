-- The character map as words, in format 12. Apple's TrueType Reference Manual, "The 'cmap' table", format 12.
use Rattle.std.specs.Prelude.{ℕ, ◌+◌, ◌*◌, List, [], ◌∷◌, ◌++◌, length, Result, nat_lt}
use Rattle.std.specs.List.{flat_map}
use Rattle.aat_lookup.specs.Keys.{first_fall}
use Rattle.aat_write_sfnt.specs.declared.cmap.Mapping.{Mapping}
use Rattle.aat_write_machine.specs.Words.{long, word_bytes}
use Rattle.aat_write_machine.specs.WriteErrors.{unless_refused}
use Rattle.aat_write_machine.specs.declared.write_error.WriteError.{WriteError}

-- mappings rise by their characters
abbrev pub character_of : Mapping → ℕ
character_of mapping = mapping.character

-- a group of one character: the first, the last, and the glyph of the first
abbrev pub group_words : Mapping → List ℕ
group_words mapping = long mapping.character ++ (long mapping.character ++ (0 ∷ mapping.glyph ∷ []))

-- format 12, a length that counts from there, language 0, the number of groups, and the groups
abbrev pub subtable_words : List Mapping → List ℕ
subtable_words mappings =
    (12 ∷ 0 ∷ []) ++ (long (16 + 12 * length mappings)
    ++ ((0 ∷ 0 ∷ []) ++ (long (length mappings) ++ flat_map group_words mappings)))

-- version 0, and one record: platform 3, encoding 10, and the offset 12 of the subtable
abbrev pub cmap_words : List Mapping → List ℕ
cmap_words mappings = (0 ∷ 1 ∷ 3 ∷ 10 ∷ 0 ∷ 12 ∷ []) ++ subtable_words mappings

-- the bytes of a table, or why it is not written
abbrev pub cmap_written : List Mapping → Result (List ℕ) WriteError
cmap_written mappings =
    unless_refused (first_fall character_of mappings) (nat_lt 357913939 (length mappings))
    (word_bytes (cmap_words mappings))
