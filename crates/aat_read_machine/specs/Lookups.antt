-- How many lookups a contextual machine has. Apple's TrueType Reference Manual, "The 'morx' table", contextual glyph
-- substitution.
use Rattle.std.specs.Prelude.{ℕ, ◌+◌, max, if◌then◌else◌, ◌==◌}
use Rattle.std.specs.List.{fold, range_with_len}
use Rattle.aat_bytes.specs.Numbers.{be16}
use Rattle.aat_read_machine.specs.StateArray.{StateArray, entry_place}

-- how many lookups there are at least by an index; 0xFFFF names none
abbrev pub lookups_to : ℕ → ℕ
lookups_to index = if index == 65535 then 0 else index + 1

-- how many lookups there are at least by the entry of a cell, which has an index for the marked glyph and one for the
-- current glyph
abbrev pub lookups_named : StateArray → ℕ → ℕ
lookups_named m cell =
    max (lookups_to (be16 m.bytes (entry_place m cell + 4))) (lookups_to (be16 m.bytes (entry_place m cell + 6)))

-- the number of lookups is not stored: it is the least one that all entries fit
abbrev pub lookup_count : StateArray → ℕ → ℕ
lookup_count m cells = fold (λ most cell. max most (lookups_named m cell)) 0 (range_with_len 0 cells)
