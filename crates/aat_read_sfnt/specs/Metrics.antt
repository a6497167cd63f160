-- Metrics along rows and along columns. Apple's TrueType Reference Manual, "The 'hhea' table" and "The 'hmtx' table".
use Rattle.std.specs.Prelude.{ℕ, ℤ, pos, ◌+◌, ◌*◌, ◌/◌, ◌-◌, max, min, List, length, Option, Some, None, Result, Ok, Err, if◌then◌else◌, nat_lt, nat_le, ◌==◌}
use Rattle.aat_bytes.specs.Faults.{fault_at}
use Rattle.aat_bytes.specs.Numbers.{be16, signed16}
use Rattle.aat_bytes.specs.declared.error.Fault.{Fault}
use Rattle.aat_bytes.specs.declared.error.FaultKind.TheVariants.{PastEnd, UnknownFormat}
use Rattle.aat_bytes.specs.declared.tags.TheConstants.{HHEA}

-- the number of long metrics: a header of 36 bytes, of version 1
unfoldable pub long_metric_count : List ℕ → Result ℕ Fault
long_metric_count bytes =
    if nat_lt (length bytes) 36 then Err (fault_at HHEA PastEnd 0) else
    if be16 bytes 0 == 1 then Ok (be16 bytes 34) else Err (fault_at HHEA UnknownFormat 0)

-- the bytes of the metrics, the number of long ones that are there, and the number of glyphs that have a bearing
pub record LongMetrics : Type 0 where
  pub bytes : List ℕ
  pub long_count : ℕ
  pub bearing_count : ℕ

-- how many long metrics of 4 bytes are there, of so many as the header names. Others do not count, as for HarfBuzz
abbrev pub long_count_in : List ℕ → ℕ → ℕ
long_count_in bytes named = min named (length bytes / 4)

-- how many glyphs have a bearing: those of so many long metrics, and behind these 2 bytes for each other glyph of the
-- font, as far as they are there. Without a long metric none has one
abbrev pub bearing_count_in : List ℕ → ℕ → ℕ → ℕ
bearing_count_in bytes long_count glyph_count =
    if long_count == 0 then 0 else min (max glyph_count long_count) (length bytes / 2 - long_count)

-- the metrics, of so many long ones as the header names, of a font of so many glyphs
abbrev pub metrics_of : List ℕ → ℕ → ℕ → LongMetrics
metrics_of bytes named glyph_count = record {
  bytes = bytes;
  long_count = long_count_in bytes named;
  bearing_count = bearing_count_in bytes (long_count_in bytes named) glyph_count;
}

-- the advance of a glyph where there are long metrics: that of its own, or of the last one, and 0 without a bearing, as
-- for HarfBuzz
abbrev pub advance_in : LongMetrics → ℕ → ℕ
advance_in metrics glyph =
    if nat_lt glyph metrics.bearing_count then be16 metrics.bytes (4 * min glyph (metrics.long_count - 1)) else 0

-- the advance of a glyph, if there are long metrics
abbrev pub advance_of : LongMetrics → ℕ → Option ℕ
advance_of metrics glyph = if metrics.bearing_count == 0 then None else Some (advance_in metrics glyph)

-- the bearing of a glyph, on its left or its top: 0 where it has none
abbrev pub bearing_of : LongMetrics → ℕ → ℤ
bearing_of metrics glyph =
    if nat_le metrics.bearing_count glyph then pos 0 else
    if nat_lt glyph metrics.long_count then signed16 (be16 metrics.bytes (4 * glyph + 2)) else
    signed16 (be16 metrics.bytes (2 * (metrics.long_count + glyph)))
