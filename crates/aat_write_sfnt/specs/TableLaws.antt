-- Tables that are written are read again.
use Rattle.std.specs.Prelude.{◌≡◌, ℕ, ◌<◌, List, length, drop, All, Some, Ok, slice_index}
use Rattle.aat_read_sfnt.specs.ClassDefinition.{class_of}
use Rattle.aat_read_sfnt.specs.GlyphClasses.{glyph_classes_of}
use Rattle.aat_read_sfnt.specs.Header.{glyph_count, known_units, units_per_em}
use Rattle.aat_read_sfnt.specs.Metrics.{advance_of, long_metric_count, metrics_of}
use Rattle.aat_read_sfnt.specs.declared.class_definition.ClassDefinition.TheVariants.{Array, Empty}
use Rattle.aat_write_sfnt.specs.GlyphClasses.{gdef_written}
use Rattle.aat_write_sfnt.specs.Headers.{head_words, maxp_words}
use Rattle.aat_write_sfnt.specs.LongMetrics.{hhea_words, hmtx_written}
use Rattle.aat_write_machine.specs.Words.{word_bytes}

-- a number of 16 bits
abbrev pub IsWord : ℕ → Type 0
IsWord number = number < 65536

-- the number of glyphs
abbrev pub WrittenProfilesAreRead : Type 0
WrittenProfilesAreRead = (count : ℕ) → IsWord count → glyph_count (word_bytes (maxp_words count)) ≡ Ok count

-- the units of the em, if they are believed
abbrev pub WrittenHeadersAreRead : Type 0
WrittenHeadersAreRead =
    (units : ℕ) → IsWord units → units_per_em (word_bytes (head_words units)) ≡ Ok (known_units units)

-- the number of long metrics
abbrev pub WrittenCountsAreRead : Type 0
WrittenCountsAreRead = (count : ℕ) → IsWord count → long_metric_count (word_bytes (hhea_words count)) ≡ Ok count

-- the advance of each glyph, which is 0 behind those that were written
abbrev pub WrittenAdvancesAreRead : Type 0
WrittenAdvancesAreRead =
    (advances bytes : List ℕ) (glyph_count glyph : ℕ)
    → All IsWord advances
    → hmtx_written advances ≡ Ok bytes
    → 0 < length advances
    → advance_of (metrics_of bytes (length advances) glyph_count) glyph ≡ Some (slice_index advances glyph)

-- the class of each glyph, which is 0 behind those that were written. Marks have no classes
abbrev pub WrittenClassesAreRead : Type 0
WrittenClassesAreRead =
    (classes bytes : List ℕ)
    → All IsWord classes
    → gdef_written classes ≡ Ok bytes
    → (glyph_classes_of bytes ≡ Ok (record { classes = Array (drop 12 bytes); mark_classes = Empty }))
    × ((glyph : ℕ) → class_of (Array (drop 12 bytes)) glyph ≡ slice_index classes glyph)
