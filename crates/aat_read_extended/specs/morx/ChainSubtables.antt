-- The subtables of a chain. Apple's TrueType Reference Manual, "The 'morx' table", metamorphosis subtables.
use Rattle.std.specs.Prelude.{ℕ, ◌+◌, ◌/◌, ◌%◌, List, take, Bool, Result, Ok, if◌then◌else◌, ◌==◌, ◌||◌, bit_and}
use Rattle.aat_bytes.specs.Faults.{after}
use Rattle.aat_bytes.specs.Numbers.{be32}
use Rattle.aat_bytes.specs.declared.error.Fault.{Fault}
use Rattle.aat_machine_tables.specs.declared.morx.Coverage.{Coverage}
use Rattle.aat_machine_tables.specs.declared.morx.Subtable.{Subtable}
use Rattle.aat_read_machine.specs.SubtableKinds.{subtable_kind_at}
use Rattle.aat_read_machine.specs.InTurn.{in_turn}
use Rattle.aat_read_extended.specs.morx.InTurn.{end_at}
use Rattle.aat_read_extended.specs.declared.morx.reach.Reach.{Reach}

-- the kind is the lowest byte of the coverage
abbrev pub kind_at : List ℕ → ℕ → ℕ
kind_at bytes place = be32 bytes (place + 4) % 256

-- for which text and in which order: the four highest bits of the coverage
abbrev pub coverage_at : List ℕ → ℕ → Coverage
coverage_at bytes place = record { 0 = bit_and (be32 bytes (place + 4) / 16777216) 240 }

-- the kinds that are known
abbrev pub is_known : ℕ → Bool
is_known kind = (kind == 0) || (kind == 1) || (kind == 2) || (kind == 4) || (kind == 5)

-- the feature flags: none of a kind that is not known
abbrev pub flags_at : List ℕ → ℕ → ℕ
flags_at bytes place = if is_known (kind_at bytes place) then be32 bytes (place + 8) else 0

-- the subtable at a place, for a font of so many glyphs, and where it ends: a header of 12 bytes, with its length,
-- coverage and feature flags, then what it does. It ends in its chain, and what it does may reach behind its end
unfoldable pub subtable_at : List ℕ → ℕ → Reach → ℕ → Result (Subtable × ℕ) Fault
subtable_at bytes glyph_count reach place =
    after (end_at (take reach.end bytes) place 12 0) (λ end.
    let used = take (end + reach.allowance) bytes in
    after (subtable_kind_at used (place + 12) (kind_at bytes place) glyph_count) (λ kind.
    Ok (record { kind = kind; coverage = coverage_at bytes place; feature_flags = flags_at bytes place }, end)))

-- so many subtables, of which the first starts at a place
abbrev pub subtables_at : List ℕ → ℕ → Reach → ℕ → ℕ → Result (List Subtable) Fault
subtables_at bytes glyph_count reach count start = in_turn (subtable_at bytes glyph_count reach) count start
