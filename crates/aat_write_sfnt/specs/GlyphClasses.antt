-- The glyph definition table as words.
use Rattle.std.specs.Prelude.{ℕ, List, [], ◌∷◌, ◌++◌, length, None, Result, nat_lt}
use Rattle.aat_write_machine.specs.Words.{word_bytes}
use Rattle.aat_write_machine.specs.WriteErrors.{unless_refused}
use Rattle.aat_write_machine.specs.declared.write_error.WriteError.{WriteError}

-- version 1.0, the offset 12 of the classes, and three that are missing; format 1, the first glyph 0, and the classes
abbrev pub gdef_words : List ℕ → List ℕ
gdef_words classes = (1 ∷ 0 ∷ 12 ∷ 0 ∷ 0 ∷ 0 ∷ 1 ∷ 0 ∷ length classes ∷ []) ++ classes

-- the bytes of a table, or why it is not written
abbrev pub gdef_written : List ℕ → Result (List ℕ) WriteError
gdef_written classes = unless_refused None (nat_lt 65535 (length classes)) (word_bytes (gdef_words classes))
