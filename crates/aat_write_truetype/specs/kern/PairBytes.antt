-- Pairs that are listed, as bytes. Apple's TrueType Reference Manual, "The 'kern' table", format 0.
use Rattle.std.specs.Prelude.{ℕ, ℤ, List, [], ◌∷◌, ◌++◌, length, Result, Ok, Err, if◌then◌else◌, nat_lt}
use Rattle.std.specs.Int.{w16, cast_unsigned}
use Rattle.std.specs.List.{flat_map}
use Rattle.aat_write_machine.specs.Words.{word_bytes}
use Rattle.aat_write_truetype.specs.declared.kern.error.KernWriteError.{KernWriteError}
use Rattle.aat_write_truetype.specs.declared.kern.error.KernWriteError.TheVariants.{TooManyPairs}

-- a value as a number of 16 bits, in two's complement
abbrev pub value_word : ℤ → ℕ
value_word value = cast_unsigned w16 value

-- a pair: its left glyph, its right glyph and its value
abbrev pub pair_words : ℕ × ℕ × ℤ → List ℕ
pair_words pair = pair.0 ∷ pair.1 ∷ value_word pair.2 ∷ []

-- the number of the pairs, three numbers for a search, and the pairs
abbrev pub pairs_words : List (ℕ × ℕ × ℤ) → List ℕ
pairs_words pairs = (length pairs ∷ 0 ∷ 0 ∷ 0 ∷ []) ++ flat_map pair_words pairs

-- the bytes of pairs, or why they are not written
abbrev pub pairs_written : List (ℕ × ℕ × ℤ) → Result (List ℕ) KernWriteError
pairs_written pairs = if nat_lt 65535 (length pairs) then Err TooManyPairs else Ok (word_bytes (pairs_words pairs))
