-- Where the bytes of glyphs stand. Apple's TrueType Reference Manual, "The 'head' table" and "The 'loca' table".
use Rattle.std.specs.Prelude.{ℕ, ◌+◌, ◌*◌, ◌==◌, ◌&&◌, List, length, slice_range, Bool, true, false, Option, Some, None, option_map, Result, Ok, Err, if◌then◌else◌, nat_lt, nat_le}
use Rattle.aat_bytes.specs.Faults.{after, fault_at}
use Rattle.aat_bytes.specs.Numbers.{be16, u16_at, u32_at}
use Rattle.aat_bytes.specs.declared.error.Fault.{Fault}
use Rattle.aat_bytes.specs.declared.error.FaultKind.{FaultKind}
use Rattle.aat_bytes.specs.declared.error.FaultKind.TheVariants.{PastEnd, UnknownFormat, ShortLength, Missing, NotRising}
use Rattle.aat_bytes.specs.declared.tags.TheConstants.{GLYF, HEAD, LOCA, MAXP}
use Rattle.aat_read_sfnt.specs.Directory.{Directory, table_of}
use Rattle.aat_read_sfnt.specs.Header.{glyph_count}
use Rattle.aat_read_outlines.specs.Glyphs.{GlyphBytes}

-- whether offsets have 32 bits: the format behind a header, which is 0 or 1, where 54 bytes are there
unfoldable pub long_offsets : List ℕ → Result Bool Fault
long_offsets head =
    if nat_lt (length head) 54 then Err (fault_at HEAD PastEnd 0) else
    if be16 head 50 == 0 then Ok false else
    if be16 head 50 == 1 then Ok true else Err (fault_at HEAD UnknownFormat 50)

-- the data of glyphs, the offsets of each, whether they have 32 bits, and the number of glyphs
pub record OutlineTables : Type 0 where
  pub glyf : List ℕ
  pub loca : List ℕ
  pub is_long : Bool
  pub glyph_count : ℕ

-- the tables of a font file with this data of glyphs
abbrev pub tables_of : Directory → List ℕ → Result OutlineTables Fault
tables_of file glyf =
    after (table_of file HEAD) (λ head. after (long_offsets head) (λ is_long.
    after (table_of file MAXP) (λ maxp. after (glyph_count maxp) (λ count.
    after (table_of file LOCA) (λ loca.
    Ok (record { glyf = glyf; loca = loca; is_long = is_long; glyph_count = count }))))))

-- nothing where the fault is that a table is missing
abbrev pub none_if_missing : {X : Type 0} → FaultKind → Fault → Result (Option X) Fault
none_if_missing Missing fault = Ok None
none_if_missing PastEnd fault = Err fault
none_if_missing UnknownFormat fault = Err fault
none_if_missing ShortLength fault = Err fault
none_if_missing NotRising fault = Err fault

-- the tables of a font file, if it has data of glyphs
abbrev pub tables_in : Directory → Result (Option OutlineTables) Fault
tables_in file = elim (table_of file GLYF) [
  | Ok glyf ↦ after (tables_of file glyf) (λ tables. Ok (Some tables))
  | Err fault ↦ none_if_missing fault.kind fault
]

-- the place of an entry
abbrev pub entry_place : OutlineTables → ℕ → ℕ
entry_place tables index = (if tables.is_long then 4 else 2) * index

-- the offset in an entry, if the entry is there: one of 16 bits counts twice
abbrev pub offset_in : OutlineTables → ℕ → Option ℕ
offset_in tables index =
    if tables.is_long
    then u32_at tables.loca (entry_place tables index)
    else option_map (λ half. 2 * half) (u16_at tables.loca (entry_place tables index))

-- the fault of an entry
abbrev pub entry_fault : OutlineTables → ℕ → Fault
entry_fault tables index = fault_at LOCA PastEnd (entry_place tables index)

-- the offset in an entry, or its fault
abbrev pub offset_at : OutlineTables → ℕ → Result ℕ Fault
offset_at tables index = elim (offset_in tables index) [ Some offset ↦ Ok offset | None ↦ Err (entry_fault tables index) ]

-- the bytes of a glyph: those from its offset on up to the next one, which lies neither before it nor past the end
abbrev pub bytes_between : OutlineTables → ℕ → ℕ → ℕ → Result GlyphBytes Fault
bytes_between tables glyph start end =
    if nat_le start end && nat_le end (length tables.glyf)
    then Ok (record { bytes = slice_range tables.glyf start end; place = start })
    else Err (entry_fault tables (glyph + 1))

-- the bytes of a glyph of the font
abbrev pub glyph_bytes : OutlineTables → ℕ → Result GlyphBytes Fault
glyph_bytes tables glyph =
    if nat_lt glyph tables.glyph_count
    then after (offset_at tables glyph) (λ start.
    after (offset_at tables (glyph + 1)) (bytes_between tables glyph start))
    else Err (fault_at LOCA Missing (entry_place tables glyph))
