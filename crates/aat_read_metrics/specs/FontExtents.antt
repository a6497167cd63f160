-- How far a font reaches above and below the baseline. OpenType specification, "OS/2" and "hhea".
use Rattle.std.specs.Prelude.{ℕ, ◌+◌, ◌*◌, ◌-◌, ◌/◌, Bool, true, false, List, length, bit_and, not, unsigned_abs, Ok, Err, if◌then◌else◌, nat_lt, nat_le, ◌==◌, ◌&&◌}
use Rattle.aat_bytes.specs.Numbers.{be16, signed16}
use Rattle.aat_read_sfnt.specs.Metrics.{long_metric_count}
use Rattle.aat_read_metrics.specs.declared.font_extents.FontExtents.{FontExtents}

-- how many bytes the table `OS/2` has by its version
abbrev pub os_2_size : ℕ → ℕ
os_2_size version = if version == 0 then 78 else if version == 1 then 86 else if nat_lt version 5 then 96 else 100

-- whether that table is there as a whole, asks for its typographic metrics by bit 7 at 62, and has a weight, a width, a
-- first or a last character, as HarfBuzz wants it
abbrev pub is_typographic : List ℕ → Bool
is_typographic os_2 =
    nat_le 78 (length os_2) && (nat_le (os_2_size (be16 os_2 0)) (length os_2)
    && (not (bit_and (be16 os_2 62) 128 == 0)
    && not (be16 os_2 4 == 0 && (be16 os_2 6 == 0 && (be16 os_2 64 == 0 && be16 os_2 66 == 0)))))

-- whether the table `hhea` is sound
abbrev pub is_sound : List ℕ → Bool
is_sound hhea = elim (long_metric_count hhea) [ Ok count ↦ true | Err fault ↦ false ]

-- an ascender and a descender at a place. HarfBuzz asks neither for its sign
abbrev pub extents_at : List ℕ → ℕ → FontExtents
extents_at bytes place = record {
  above = unsigned_abs (signed16 (be16 bytes place));
  below = unsigned_abs (signed16 (be16 bytes (place + 2)));
}

-- those of a font that has none: four fifths of the em, and the rest of it
abbrev pub extents_of_em : ℕ → FontExtents
extents_of_em units = record { above = 4 * units / 5; below = units - 4 * units / 5 }

-- those of `OS/2` where it asks for them, else of `hhea`, else of the em
abbrev pub font_extents : List ℕ → List ℕ → ℕ → FontExtents
font_extents os_2 hhea units =
    if is_typographic os_2 then extents_at os_2 68 else
    if is_sound hhea then extents_at hhea 4 else extents_of_em units
