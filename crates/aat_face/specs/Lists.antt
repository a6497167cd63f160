-- Values of all glyphs of a font. Apple's TrueType Reference Manual, "The 'hmtx' table".
use Rattle.std.specs.Prelude.{ℕ, List, bit_and, map, unwrap_or}
use Rattle.std.specs.List.{range_with_len}
use Rattle.aat_read_sfnt.specs.GlyphClasses.{properties_of}
use Rattle.aat_read_sfnt.specs.Metrics.{LongMetrics, advance_of}
use Rattle.aat_read_sfnt.specs.declared.gdef.GlyphClasses.{GlyphClasses}

-- each of so many glyphs with its value
abbrev pub pairs_over : ℕ → (ℕ → ℕ) → List (ℕ × ℕ)
pairs_over glyph_count value = map (λ glyph. (glyph, value glyph)) (range_with_len 0 glyph_count)

-- the advances of glyphs in units of the font: without a long metric each has another one
abbrev pub advance_pairs : LongMetrics → ℕ → ℕ → List (ℕ × ℕ)
advance_pairs metrics other glyph_count = pairs_over glyph_count (λ glyph. unwrap_or (advance_of metrics glyph) other)

-- the property of marks, 8, and no other: kerning skips marks alone, as in HarfBuzz
abbrev pub mark_property : GlyphClasses → ℕ → ℕ
mark_property classes glyph = bit_and (properties_of classes glyph) 8

-- that property of glyphs
abbrev pub property_pairs : GlyphClasses → ℕ → List (ℕ × ℕ)
property_pairs classes glyph_count = pairs_over glyph_count (mark_property classes)
