-- The kinds of subtables. Apple's TrueType Reference Manual, "The 'morx' table".
use Rattle.std.specs.Prelude.{ℕ, ◌+◌, List, length, Result, Ok, Err, if◌then◌else◌, nat_lt, ◌==◌}
use Rattle.aat_bytes.specs.Faults.{after, fault_at}
use Rattle.aat_bytes.specs.Numbers.{be16, be32}
use Rattle.aat_bytes.specs.declared.error.Fault.{Fault}
use Rattle.aat_bytes.specs.declared.error.FaultKind.TheVariants.{PastEnd}
use Rattle.aat_bytes.specs.declared.tags.TheConstants.{MORX}
use Rattle.aat_machine_tables.specs.Subtables.{InsertionTables, LigatureTables}
use Rattle.aat_read_machine.specs.Entries.{insertion_at}
use Rattle.aat_read_machine.specs.Lists.{glyphs_from, numbers16, numbers32}
use Rattle.aat_read_machine.specs.Machine.{machine_at}

-- where a list starts whose offset, from the subtable's place, stands so many bytes behind that place
abbrev pub list_place : List ℕ → ℕ → ℕ → ℕ
list_place bytes place at = place + be32 bytes (place + at)

-- where such a list starts, if it has an offset. For one with offset 0 HarfBuzz drops the table
abbrev pub list_at : List ℕ → ℕ → ℕ → Result ℕ Fault
list_at bytes place at =
    if be32 bytes (place + at) == 0 then Err (fault_at MORX PastEnd (place + at)) else Ok (list_place bytes place at)

-- ligature substitution: the machine, whose entries have the place of their first action, and lists of actions,
-- components and ligatures
unfoldable pub ligature_at : List ℕ → ℕ → ℕ → Result LigatureTables Fault
ligature_at bytes place glyph_count =
    if nat_lt (length bytes) (place + 28) then Err (fault_at MORX PastEnd place) else
    after (list_at bytes place 16) (λ actions.
    after (list_at bytes place 20) (λ components.
    after (list_at bytes place 24) (λ ligatures.
    after (machine_at 2 be16 MORX bytes place glyph_count) (λ state. Ok (record {
      state = state;
      actions = numbers32 bytes actions;
      components = numbers16 bytes components;
      ligatures = glyphs_from bytes ligatures;
    })))))

-- glyph insertion: the machine, and a list of glyphs
unfoldable pub insertion_tables_at : List ℕ → ℕ → ℕ → Result InsertionTables Fault
insertion_tables_at bytes place glyph_count =
    if nat_lt (length bytes) (place + 20) then Err (fault_at MORX PastEnd place) else
    after (list_at bytes place 16) (λ glyphs.
    after (machine_at 4 insertion_at MORX bytes place glyph_count) (λ state. Ok (record {
      state = state;
      glyphs = glyphs_from bytes glyphs;
    })))
