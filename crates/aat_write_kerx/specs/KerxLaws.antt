-- An extended kerning table that is written is read again. Apple's TrueType Reference Manual, "The 'kerx' table".
use Rattle.std.specs.Prelude.{◌≡◌, ℕ, ℤ, ◌+◌, ◌≤◌, List, [], ◌++◌, length, All, false, Ok}
use Rattle.aat_kerning_tables.specs.Classes.{ClassValues}
use Rattle.aat_kerning_tables.specs.declared.kerx.KerxFormat.{KerxFormat}
use Rattle.aat_kerning_tables.specs.declared.kerx.KerxFormat.TheVariants.{Format0, Format1, Format2, Format2Classes, Format4, Format6, Format6Classes}
use Rattle.aat_kerning_tables.specs.declared.kerx.KerxSubtable.{KerxSubtable}
use Rattle.aat_read_extended.specs.kerx.Formats.{as_format, format_at}
use Rattle.aat_read_extended.specs.kerx.KerxTables.{kerx_of}
use Rattle.aat_write_machine.specs.LookupLaws.{IsPair}
use Rattle.aat_write_machine.specs.MachineLaws.{IsLong, IsMachine, IsWord}
use Rattle.aat_write_kerx.specs.AnkrLaws.{IsSigned}
use Rattle.aat_write_kerx.specs.KerxBytes.{format_number, format_written, kerx_written}
use Rattle.aat_write_kerx.specs.MachineBytes.{KerxMachine, action_words}

-- the glyphs and the value of a pair have 16 bits each
abbrev pub IsKerning : ℕ × ℕ × ℤ → Type 0
IsKerning pair = IsWord pair.0 × IsWord pair.1 × IsSigned pair.2

-- the numbers of pairs by classes have 16 bits each
abbrev pub IsByClasses : ClassValues → Type 0
IsByClasses t = IsWord t.right_count × All IsPair t.left × All IsPair t.right × All IsSigned t.values

-- the numbers of a machine have 16 bits each
abbrev pub IsKerxMachine : KerxMachine → Type 0
IsKerxMachine t = IsMachine (action_words false) t

-- the numbers of a format have 16 bits each
abbrev pub IsFormat : KerxFormat → Type 0
IsFormat (Format0 pairs) = All IsKerning pairs
IsFormat (Format1 t) = IsKerxMachine t.state_table × All IsSigned t.values
IsFormat (Format2 pairs) = All IsKerning pairs
IsFormat (Format2Classes t) = IsByClasses t
IsFormat (Format4 t) = IsKerxMachine t.state_table × All IsPair t.anchor_points
IsFormat (Format6 pairs) = All IsKerning pairs
IsFormat (Format6Classes t) = IsByClasses t

-- the numbers of a subtable have their bits
abbrev pub IsTypedSubtable : KerxSubtable → Type 0
IsTypedSubtable s = IsFormat s.format × IsLong s.tuple_count

-- what is written of a format is read again at the end of some bytes, behind the header of a subtable
abbrev pub WrittenFormatsAreRead : Type 0
WrittenFormatsAreRead =
    (format : KerxFormat) (tuple_count : ℕ) (body front : List ℕ) (start glyph_count : ℕ)
    → IsFormat format
    → format_written tuple_count format ≡ Ok body
    → length front ≡ start + 12
    → format_at (front ++ body) start (format_number format) glyph_count tuple_count ≡ as_format (λ f. f) (Ok format)

-- the reader gives the very subtables that were written, with none left out. A typed table has at most 65,535 of them
abbrev pub WrittenKerxIsRead : Type 0
WrittenKerxIsRead =
    (subtables : List KerxSubtable) (bytes : List ℕ) (glyph_count : ℕ)
    → All IsTypedSubtable subtables
    → length subtables ≤ 65535
    → kerx_written subtables ≡ Ok bytes
    → kerx_of bytes glyph_count ≡ Ok (record { subtables = subtables; left_out = [] })
