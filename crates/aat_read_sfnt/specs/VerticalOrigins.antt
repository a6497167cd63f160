-- The vertical origins that fonts with `CFF` outlines have. OpenType specification, "VORG - Vertical Origin Table".
use Rattle.std.specs.Prelude.{ℕ, ℤ, ◌+◌, ◌*◌, Bool, List, length, Option, Some, None, if◌then◌else◌, nat_le, ◌==◌, ◌&&◌}
use Rattle.aat_bytes.specs.Bisection.{row_found}
use Rattle.aat_bytes.specs.Numbers.{be16, signed16}

-- whether the table is sound: a header of 8 bytes, of version 1, and 4 bytes for each glyph, as HarfBuzz wants it
abbrev pub has_origins : List ℕ → Bool
has_origins vorg = nat_le 8 (length vorg) && (be16 vorg 0 == 1 && nat_le (8 + 4 * be16 vorg 6) (length vorg))

-- the glyph of a row
abbrev pub origin_glyph : List ℕ → ℕ → ℕ
origin_glyph vorg row = be16 vorg (8 + 4 * row)

-- the place of the origin of a glyph: in the row that a bisection finds, whether rows rise or not, else that of all
abbrev pub origin_place : List ℕ → ℕ → ℕ
origin_place vorg glyph =
    elim (row_found (origin_glyph vorg) (be16 vorg 6) glyph) [ None ↦ 4 | Some row ↦ 10 + 4 * row ]

-- how far the origin of a glyph lies above the baseline, if the table is sound
abbrev pub vertical_origin_at : List ℕ → ℕ → Option ℤ
vertical_origin_at vorg glyph =
    if has_origins vorg then Some (signed16 (be16 vorg (origin_place vorg glyph))) else None
