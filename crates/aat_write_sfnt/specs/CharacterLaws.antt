-- Glyphs of characters that are written are read again.
use Rattle.std.specs.Prelude.{◌≡◌, ℕ, ◌<◌, List, drop, All, Ok, option_and_then}
use Rattle.aat_lookup.specs.Keys.{at_key}
use Rattle.aat_read_sfnt.specs.Characters.{cmap_of, mapped_glyph}
use Rattle.aat_read_sfnt.specs.SegmentedCoverage.{known_glyph}
use Rattle.aat_read_sfnt.specs.declared.cmap.CharacterMap.{CharacterMap}
use Rattle.aat_read_sfnt.specs.declared.cmap.Cmap.TheVariants.{SegmentedCoverage}
use Rattle.aat_read_sfnt.specs.declared.cmap.character_set.CharacterSet.TheVariants.{Unicode}
use Rattle.aat_write_sfnt.specs.CharacterMaps.{character_of, cmap_written}
use Rattle.aat_write_sfnt.specs.declared.cmap.Mapping.{Mapping}

-- a character has 32 bits and a glyph 16
abbrev pub IsMapping : Mapping → Type 0
IsMapping mapping = (mapping.character < 4294967296) × (mapping.glyph < 65536)

-- the map of written groups
abbrev pub written_map : List ℕ → CharacterMap
written_map bytes = record { subtable = SegmentedCoverage (drop 12 bytes); character_set = Unicode }

-- the table is read, and each character has the glyph that was written for it, if that is not 0. The others have none
abbrev pub WrittenCharactersAreRead : Type 0
WrittenCharactersAreRead =
    (mappings : List Mapping) (bytes : List ℕ)
    → All IsMapping mappings
    → cmap_written mappings ≡ Ok bytes
    → (cmap_of bytes ≡ Ok (written_map bytes))
    × ((character : ℕ)
    → mapped_glyph (written_map bytes) character
    ≡ option_and_then (λ mapping. known_glyph mapping.glyph) (at_key character_of mappings character))
