-- The maximum profile and the font header. Apple's TrueType Reference Manual, "The 'maxp' table", "The 'head' table".
use Rattle.std.specs.Prelude.{ℕ, List, length, Result, Ok, Err, if◌then◌else◌, nat_lt, nat_le, ◌==◌, ◌&&◌}
use Rattle.aat_bytes.specs.Faults.{fault_at}
use Rattle.aat_bytes.specs.Numbers.{be16, be32}
use Rattle.aat_bytes.specs.declared.error.Fault.{Fault}
use Rattle.aat_bytes.specs.declared.error.FaultKind.TheVariants.{PastEnd, UnknownFormat}
use Rattle.aat_bytes.specs.declared.tags.TheConstants.{HEAD, MAXP}

-- the number of glyphs: version 0.5 has 6 bytes, and 1.0 has 32, which HarfBuzz wants to be there
unfoldable pub glyph_count : List ℕ → Result ℕ Fault
glyph_count bytes =
    if nat_lt (length bytes) 6 then Err (fault_at MAXP PastEnd 0) else
    if be16 bytes 0 == 1 then
    (if nat_lt (length bytes) 32 then Err (fault_at MAXP PastEnd 6) else Ok (be16 bytes 4))
    else if be32 bytes 0 == 0x5000 then Ok (be16 bytes 4) else Err (fault_at MAXP UnknownFormat 0)

-- units of the em from 16 to 16,384 are believed, and others are taken as 1,000, as HarfBuzz does
abbrev pub known_units : ℕ → ℕ
known_units units = if nat_le 16 units && nat_le units 16384 then units else 1000

-- the units of the em: a header of 54 bytes, of version 1, with the magic number at 12. HarfBuzz believes no other one
unfoldable pub units_per_em : List ℕ → Result ℕ Fault
units_per_em bytes =
    if nat_lt (length bytes) 54 then Err (fault_at HEAD PastEnd 0) else
    if be16 bytes 0 == 1 then
    (if be32 bytes 12 == 0x5F0F3CF5 then Ok (known_units (be16 bytes 18)) else Err (fault_at HEAD UnknownFormat 12))
    else Err (fault_at HEAD UnknownFormat 0)
