-- What a lookup that is read says of a glyph, in the words of its bytes.
use Rattle.std.specs.Prelude.{◌≡◌, ℕ, ◌-◌, ◌<◌, List, Option, Ok, option_map}
use Rattle.aat_bytes.specs.Bisection.{bisect}
use Rattle.aat_bytes.specs.Numbers.{be16}
use Rattle.aat_bytes.specs.declared.tag.Tag.{Tag}
use Rattle.aat_lookup.specs.Keys.{value_in}
use Rattle.aat_read_lookup.specs.Layouts.{layout_at, unit_at, unit_place}
use Rattle.aat_read_lookup.specs.Lookups.{lookup_at, value_of_glyph}
use Rattle.aat_read_lookup.specs.Segments.{value_at}
use Rattle.aat_read_lookup.specs.declared.layout.Layout.TheVariants.{Searched}
use Rattle.aat_read_lookup.specs.declared.segment.ValueKind.TheVariants.{Word}
use Rattle.aat_read_lookup.specs.declared.units.Units.{Units}

-- the value of a glyph is that of the segment that has the glyph
abbrev pub ValuesAreThoseOfSegments : Type 0
ValuesAreThoseOfSegments =
    (table : Tag) (bytes : List ℕ) (place glyph_count : ℕ) (pairs : List (ℕ × ℕ)) (glyph : ℕ)
    → lookup_at table bytes place glyph_count ≡ Ok pairs
    → value_in pairs glyph ≡ value_of_glyph table bytes place glyph_count glyph

-- the unit that a bisection over all units finds for a glyph: the last glyph of a unit stands first in its record
abbrev pub unit_found : List ℕ → Units → ℕ → Option ℕ
unit_found bytes units glyph =
    bisect (λ i. (unit_at bytes units i).first) (λ i. be16 bytes (unit_place units i)) units.count 0 units.count glyph

-- the value that a unit has for a glyph
abbrev pub value_in_unit : List ℕ → Units → ℕ → ℕ → ℕ
value_in_unit bytes units glyph i =
    value_at bytes (unit_at bytes units i).values (glyph - (unit_at bytes units i).first)

-- the value of a glyph by units, whether they rise or not, is that of the unit that a bisection finds for it
abbrev pub ValuesAreThoseFound : Type 0
ValuesAreThoseFound =
    (table : Tag) (bytes : List ℕ) (place glyph_count : ℕ) (units : Units) (pairs : List (ℕ × ℕ)) (glyph : ℕ)
    → glyph < 65536
    → layout_at table bytes place glyph_count Word ≡ Ok (Searched units)
    → lookup_at table bytes place glyph_count ≡ Ok pairs
    → value_in pairs glyph ≡ option_map (value_in_unit bytes units glyph) (unit_found bytes units glyph)
