-- Segments and units that stand inside of the table: what the check of a lookup leaves known for its reading.
use Rattle.std.specs.Prelude.{ℕ, ◌+◌, ◌*◌, ◌<◌, ◌≤◌, List, length}
use Rattle.aat_read_lookup.specs.Segments.{end_of, values_end}
use Rattle.aat_read_lookup.specs.Layouts.{record_size, unit_at}
use Rattle.aat_read_lookup.specs.declared.kept.Keep.{Keep}
use Rattle.aat_read_lookup.specs.declared.kept.Keep.TheVariants.{Value, Row, LongRow}
use Rattle.aat_read_lookup.specs.declared.layout.Layout.{Layout}
use Rattle.aat_read_lookup.specs.declared.layout.Layout.TheVariants.{Array, Searched}
use Rattle.aat_read_lookup.specs.declared.segment.Segment.{Segment}
use Rattle.aat_read_lookup.specs.declared.units.Units.{Units}

-- a segment's glyphs have 16 bits, and its values stand inside
pub record Fits (bytes : List ℕ) (segment : Segment) : Type 0 where
  pub glyphs : segment.first + segment.count ≤ 65536
  pub values : values_end segment ≤ length bytes

-- units are as wide as their records, and stand inside
pub record AreInside (bytes : List ℕ) (units : Units) : Type 0 where
  pub wide : record_size units.kind units.values ≤ units.size
  pub inside : units.start + 12 + units.size * units.count ≤ length bytes

-- the values of each unit stand inside
pub record AreSound (bytes : List ℕ) (units : Units) : Type 0 where
  pub inside : AreInside bytes units
  pub values : (i : ℕ) → i < units.count → values_end (unit_at bytes units i) ≤ length bytes

-- so many units rise: each begins behind the end of those before it, and all end by a glyph
pub record RiseTo (bytes : List ℕ) (units : Units) (n end : ℕ) : Type 0 where
  pub within : (i : ℕ) → i < n → end_of (unit_at bytes units i) ≤ end
  pub ordered : (i j : ℕ) → i < j → j < n → end_of (unit_at bytes units i) ≤ (unit_at bytes units j).first

-- all units rise
abbrev pub DoRise : List ℕ → Units → Type 0
DoRise bytes units = RiseTo bytes units units.count 65536

-- the values of each segment stand inside, and the glyphs of an array have 16 bits
abbrev pub IsSound : List ℕ → Layout → Type 0
IsSound bytes (Array segment) = Fits bytes segment
IsSound bytes (Searched units) = AreSound bytes units

-- units rise, if there are any
abbrev pub Rises : List ℕ → Layout → Type 0
Rises bytes (Array segment) = Unit
Rises bytes (Searched units) = DoRise bytes units

-- rows have values
abbrev pub CanKeep : Keep → Type 0
CanKeep Value = Unit
CanKeep (Row width) = 0 < width
CanKeep (LongRow width) = 0 < width
