-- Segments: glyphs that follow one another, with their values. Apple's TrueType Reference Manual, "Font Tables",
-- section on lookup tables.
use Rattle.std.specs.Prelude.{ℕ, ◌+◌, ◌*◌, ◌-◌, List, Bool, true, false, Option, map, find, option_map, min, nat_le, nat_lt, ◌&&◌, slice_index}
use Rattle.std.specs.List.{range_with_len}
use Rattle.aat_bytes.specs.Numbers.{be16, be32}
use Rattle.aat_read_lookup.specs.declared.segment.Segment.{Segment}
use Rattle.aat_read_lookup.specs.declared.segment.ValueKind.{ValueKind}
use Rattle.aat_read_lookup.specs.declared.segment.ValueKind.TheVariants.{Word, Long}
use Rattle.aat_read_lookup.specs.declared.segment.Values.{Values}
use Rattle.aat_read_lookup.specs.declared.segment.Values.TheVariants.{Shared, Each, Bytes}

-- whether a value has 32 bits
abbrev pub is_long : ValueKind → Bool
is_long Word = false
is_long Long = true

-- how many bytes so many values take
abbrev pub numbers_size : ValueKind → ℕ → ℕ
numbers_size Word count = 2 * count
numbers_size Long count = 4 * count

-- the value at a place
abbrev pub number_at : List ℕ → ValueKind → ℕ → ℕ
number_at bytes Word at = be16 bytes at
number_at bytes Long at = be32 bytes at

-- the place of the first value
abbrev pub values_place : Values → ℕ
values_place (Shared kind at) = at
values_place (Each kind at) = at
values_place (Bytes at) = at

-- how many bytes the values of so many glyphs take
abbrev pub values_size : Values → ℕ → ℕ
values_size (Shared kind at) count = numbers_size kind 1
values_size (Each kind at) count = numbers_size kind count
values_size (Bytes at) count = count

-- the place behind the values of a segment
abbrev pub values_end : Segment → ℕ
values_end segment = values_place segment.values + values_size segment.values segment.count

-- the value of 16 bits of the glyph that stands k glyphs behind the first. Lookups whose values have 32 bits are not
-- read by this
abbrev pub value_at : List ℕ → Values → ℕ → ℕ
value_at bytes (Shared kind at) k = be16 bytes at
value_at bytes (Each kind at) k = be16 bytes (at + numbers_size kind k)
value_at bytes (Bytes at) k = slice_index bytes (at + k)

-- the value of up to 32 bits of the glyph that stands k glyphs behind the first
abbrev pub long_value_at : List ℕ → Values → ℕ → ℕ
long_value_at bytes (Shared kind at) k = number_at bytes kind at
long_value_at bytes (Each kind at) k = number_at bytes kind (at + numbers_size kind k)
long_value_at bytes (Bytes at) k = slice_index bytes (at + k)

-- the glyph behind the last one
abbrev pub end_of : Segment → ℕ
end_of segment = segment.first + segment.count

-- the values of a segment without those of so many glyphs in front
abbrev pub values_behind : Values → ℕ → Values
values_behind (Shared kind at) count = Shared kind at
values_behind (Each kind at) count = Each kind (at + numbers_size kind count)
values_behind (Bytes at) count = Bytes (at + count)

-- a segment without the glyphs below one, and without those from another one on, which are no less than that one
abbrev pub part_of : Segment → ℕ × ℕ → Segment
part_of segment glyphs = record {
  first = glyphs.0;
  count = glyphs.1 - glyphs.0;
  values = values_behind segment.values (min (glyphs.0 - segment.first) segment.count);
}

-- each glyph of a segment with its value, by what the value is of the glyph that stands k glyphs behind the first
abbrev pub pairs_by : (Values → ℕ → ℕ) → Segment → List (ℕ × ℕ)
pairs_by value segment = map (λ k. (segment.first + k, value segment.values k)) (range_with_len 0 segment.count)

-- each glyph of a segment with its value of 16 bits
abbrev pub segment_pairs : List ℕ → Segment → List (ℕ × ℕ)
segment_pairs bytes segment = pairs_by (value_at bytes) segment

-- whether all glyphs of a segment have one value
abbrev pub is_shared : Values → Bool
is_shared (Shared kind at) = true
is_shared (Each kind at) = false
is_shared (Bytes at) = false

-- whether a segment has a glyph
abbrev pub has_glyph : ℕ → Segment → Bool
has_glyph glyph segment = nat_le segment.first glyph && nat_lt glyph (end_of segment)

-- the value of a glyph in the segment that has it
abbrev pub value_in_segments : List ℕ → List Segment → ℕ → Option ℕ
value_in_segments bytes segments glyph =
    option_map (λ segment. value_at bytes segment.values (glyph - segment.first)) (find (has_glyph glyph) segments)
