-- Format 12 of the character map: groups of 32 bits. Apple's TrueType Reference Manual, "The 'cmap' table", format 12.
use Rattle.std.specs.Prelude.{◌≤◌, ℕ, ◌+◌, ◌*◌, ◌-◌, List, length, Option, Some, None, Result, Ok, Err, if◌then◌else◌, nat_lt, ◌==◌, ◌||◌, option_and_then}
use Rattle.aat_bytes.specs.Bisection.{bisect}
use Rattle.aat_bytes.specs.Faults.{fault_at}
use Rattle.aat_bytes.specs.Numbers.{be32}
use Rattle.aat_bytes.specs.declared.error.Fault.{Fault}
use Rattle.aat_bytes.specs.declared.error.FaultKind.TheVariants.{PastEnd}
use Rattle.aat_bytes.specs.declared.tags.TheConstants.{CMAP}

-- a group has 12 bytes: its first character, its last one, and the glyph of the first one
abbrev pub start_char : List ℕ → ℕ → ℕ
start_char bytes i = be32 bytes (16 + 12 * i)

abbrev pub end_char : List ℕ → ℕ → ℕ
end_char bytes i = be32 bytes (20 + 12 * i)

abbrev pub start_glyph : List ℕ → ℕ → ℕ
start_glyph bytes i = be32 bytes (24 + 12 * i)

-- the groups stand inside
abbrev pub AreGroups : List ℕ → Type 0
AreGroups bytes = 16 + 12 * be32 bytes 12 ≤ length bytes

-- the subtable at the start of bytes, which stand at a place of the table: a header of 16 bytes, and all its groups. The
-- length that it names is not believed, as for HarfBuzz
unfoldable pub groups_at : List ℕ → ℕ → Result (List ℕ) Fault
groups_at bytes place =
    if nat_lt (length bytes) 16 then Err (fault_at CMAP PastEnd place) else
    if nat_lt (length bytes) (16 + 12 * be32 bytes 12) then Err (fault_at CMAP PastEnd (place + 16)) else Ok bytes

-- the group of a character: the one that a bisection finds, whether groups rise or not, as in HarfBuzz
abbrev pub group_of : List ℕ → ℕ → Option ℕ
group_of bytes character = bisect (start_char bytes) (end_char bytes) (be32 bytes 12) 0 (be32 bytes 12) character

-- a glyph of 16 bits that is not 0
abbrev pub known_glyph : ℕ → Option ℕ
known_glyph glyph = if (glyph == 0) || nat_lt 65535 glyph then None else Some glyph

-- the glyph of a character in a group that has it
abbrev pub glyph_in_group : List ℕ → ℕ → ℕ → Option ℕ
glyph_in_group bytes character i =
    known_glyph (start_glyph bytes i + (character - start_char bytes i))

-- the glyph of a character
abbrev pub group_glyph : List ℕ → ℕ → Option ℕ
group_glyph bytes character = option_and_then (glyph_in_group bytes character) (group_of bytes character)
