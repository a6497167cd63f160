-- The extended kerning table. Apple's TrueType Reference Manual, "The 'kerx' table".
use Rattle.std.specs.Prelude.{ℕ, List, Vec, length, Option, Some, None, Result, Ok, Err, if◌then◌else◌, nat_lt, ◌==◌, ◌||◌}
use Rattle.std.specs.List.{filter_map}
use Rattle.aat_bytes.specs.Faults.{after, fault_at}
use Rattle.aat_bytes.specs.Numbers.{be16, be32}
use Rattle.aat_bytes.specs.declared.error.Fault.{Fault}
use Rattle.aat_bytes.specs.declared.error.FaultKind.TheVariants.{PastEnd, UnknownFormat}
use Rattle.aat_bytes.specs.declared.tags.TheConstants.{KERX}
use Rattle.aat_kerning_tables.specs.declared.kerx.KerxSubtable.{KerxSubtable}
use Rattle.aat_read_machine.specs.InTurn.{in_turn}
use Rattle.aat_read_extended.specs.kerx.KerxSubtables.{KerxStart, subtable_at}
use Rattle.aat_read_pairs.specs.declared.left_out.LeftOutSubtable.{LeftOutSubtable}
use Rattle.aat_read_extended.specs.declared.kerx.subtables.SubtableRead.{SubtableRead}
use Rattle.aat_read_extended.specs.declared.kerx.subtables.SubtableRead.TheVariants.{Kerns, LeftOut}

-- the subtables of a table that kern, and those that are left out, each in their order
pub record KerxValue : Type 0 where
  pub subtables : List KerxSubtable
  pub left_out : List LeftOutSubtable

-- a subtable that kerns
abbrev pub kerning_of : SubtableRead → Option KerxSubtable
kerning_of (Kerns subtable) = Some subtable
kerning_of (LeftOut subtable) = None

-- a subtable that is left out
abbrev pub left_out_of : SubtableRead → Option LeftOutSubtable
left_out_of (Kerns subtable) = None
left_out_of (LeftOut subtable) = Some subtable

-- the table of what is read
abbrev pub kerx_value : List SubtableRead → KerxValue
kerx_value subtables =
    record { subtables = filter_map kerning_of subtables; left_out = filter_map left_out_of subtables }

-- the first subtable stands behind the header of the table
abbrev pub first_subtable : KerxStart
first_subtable = record { place = 8; number = 0 }

-- so many subtables, or the first fault
abbrev pub subtables_of : List ℕ → ℕ → ℕ → Result (List SubtableRead) Fault
subtables_of bytes glyph_count count = in_turn (subtable_at bytes glyph_count count) count first_subtable

-- the table of so many subtables, or the first fault
abbrev pub value_of_subtables : List ℕ → ℕ → ℕ → Result KerxValue Fault
value_of_subtables bytes glyph_count count =
    after (subtables_of bytes glyph_count count) (λ subtables. Ok (kerx_value subtables))

-- the table of subtables that stand in vectors
abbrev pub value_of_parts : {Y Z : Type 0} → Vec KerxSubtable Y × Vec LeftOutSubtable Z → KerxValue
value_of_parts parts = record { subtables = parts.0.items; left_out = parts.1.items }

-- the table, or its first fault: version 2, 3 or 4, and at 4 the number of subtables
unfoldable pub kerx_of : List ℕ → ℕ → Result KerxValue Fault
kerx_of bytes glyph_count =
    if nat_lt (length bytes) 8 then Err (fault_at KERX PastEnd 0) else
    if (be16 bytes 0 == 2) || (be16 bytes 0 == 3) || (be16 bytes 0 == 4) then
    (if nat_lt 65535 (be32 bytes 4) then Err (fault_at KERX PastEnd 4) else
    value_of_subtables bytes glyph_count (be32 bytes 4))
    else Err (fault_at KERX UnknownFormat 0)
