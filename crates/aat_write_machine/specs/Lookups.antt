-- Lookups as bytes, in format 6. Apple's TrueType Reference Manual, "Font Tables", section on lookup tables.
use Rattle.std.specs.Prelude.{ℕ, ◌+◌, List, [], ◌∷◌, ◌++◌, length, Result, nat_lt}
use Rattle.std.specs.List.{flat_map}
use Rattle.aat_lookup.specs.Keys.{first, first_fall}
use Rattle.aat_write_machine.specs.Words.{word_bytes}
use Rattle.aat_write_machine.specs.declared.write_error.WriteError.{WriteError}
use Rattle.aat_write_machine.specs.WriteErrors.{unless_refused}

-- a unit is a glyph and its value
abbrev pub pair_words : ℕ × ℕ → List ℕ
pair_words pair = pair.0 ∷ pair.1 ∷ []

-- a lookup: format 6, units of 4 bytes and their number, three numbers for a search, the units, and a terminator, which
-- is counted
abbrev pub lookup_words : List (ℕ × ℕ) → List ℕ
lookup_words pairs =
    (6 ∷ 4 ∷ (length pairs + 1) ∷ 0 ∷ 0 ∷ 0 ∷ []) ++ (flat_map pair_words pairs ++ (65535 ∷ 65535 ∷ []))

-- the bytes of a lookup, or why it is not written
abbrev pub lookup_written : List (ℕ × ℕ) → Result (List ℕ) WriteError
lookup_written pairs =
    unless_refused (first_fall first pairs) (nat_lt 65534 (length pairs)) (word_bytes (lookup_words pairs))
