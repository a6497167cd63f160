-- Horizontal metrics as words. Apple's TrueType Reference Manual, "The 'hhea' table" and "The 'hmtx' table".
use Rattle.std.specs.Prelude.{ℕ, List, [], ◌∷◌, ◌++◌, length, None, Result, nat_lt, replicate}
use Rattle.std.specs.List.{flat_map}
use Rattle.aat_write_machine.specs.Words.{word_bytes}
use Rattle.aat_write_machine.specs.WriteErrors.{unless_refused}
use Rattle.aat_write_machine.specs.declared.write_error.WriteError.{WriteError}

-- version 1.0, 15 words that are 0, and the number of long metrics
abbrev pub hhea_words : ℕ → List ℕ
hhea_words long_count = (1 ∷ 0 ∷ []) ++ (replicate 15 0 ++ (long_count ∷ []))

-- a long metric: the advance, and a bearing of 0
abbrev pub metric_words : ℕ → List ℕ
metric_words advance = advance ∷ 0 ∷ []

-- the bytes of metrics, or why they are not written
abbrev pub hmtx_written : List ℕ → Result (List ℕ) WriteError
hmtx_written advances =
    unless_refused None (nat_lt 65535 (length advances)) (word_bytes (flat_map metric_words advances))
