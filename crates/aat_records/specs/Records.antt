-- What crosses to C.
use Rattle.std.specs.Prelude.{◌≡◌, ℕ, ◌==◌, Bool, not, bit_and, bit_or, List, ◌++◌, length, take, drop, if◌then◌else◌}
use Rattle.aat_bytes.specs.Faults.{number_of_fault}
use Rattle.aat_bytes.specs.declared.error.Fault.{Fault}
use Rattle.aat_font.specs.declared.plan.Feature.{Feature}
use Rattle.aat_shaped_text.specs.declared.text.CharacterKind.TheVariants.{Other}
use Rattle.aat_shaped_text.specs.declared.text.ShapedGlyph.{ShapedGlyph}
use Rattle.aat_shaped_text.specs.declared.text.TextGlyph.{TextGlyph}
use Rattle.aat_records.specs.declared.records.FaultRecord.{FaultRecord}
use Rattle.aat_records.specs.declared.records.FeatureRecord.{FeatureRecord}
use Rattle.aat_records.specs.declared.records.GlyphRecord.{GlyphRecord}
use Rattle.aat_records.specs.declared.records.TextGlyphRecord.{TextGlyphRecord}

-- the number of a flag that is set, or 0
abbrev pub flag : ℕ → Bool → ℕ
flag number is_set = if is_set then number else 0

-- the flags of a glyph: 1 where the text may be broken before it, 2 where it is ignorable, 4 where it is a mark
abbrev pub flags_of : ShapedGlyph → ℕ
flags_of g = bit_or (bit_or (flag 1 g.may_break_before) (flag 2 g.is_ignorable)) (flag 4 g.is_mark)

-- a glyph that is drawn, for C, whose cluster is placed
abbrev pub glyph_record : (ℕ → ℕ) → ShapedGlyph → GlyphRecord
glyph_record place g = record {
  glyph_id = g.glyph_id;
  cluster = place g.cluster;
  x_advance = g.x_advance;
  y_advance = g.y_advance;
  x_offset = g.x_offset;
  y_offset = g.y_offset;
  flags = flags_of g;
}

-- a flag is set
abbrev pub is_flagged : ℕ → ℕ → Bool
is_flagged flag flags = not (bit_and flags flag == 0)

-- the glyph of a text that one of C stands for: 1 is the flag of ignorable characters, and 2 that of marks
abbrev pub text_glyph_of : TextGlyphRecord → TextGlyph
text_glyph_of g = record {
  glyph_id = g.glyph_id;
  cluster = g.cluster;
  is_ignorable = is_flagged 1 g.flags;
  is_mark = is_flagged 2 g.flags;
  kind = Other;
}

-- the feature that one of C stands for
abbrev pub feature_of : FeatureRecord → Feature
feature_of f = record { tag = record { 0 = f.tag }; value = f.value; start = f.start; end = f.end }

-- a feature for C
abbrev pub feature_record : Feature → FeatureRecord
feature_record f = record { tag = f.tag.0; value = f.value; start = f.start; end = f.end }

-- a fault for C
abbrev pub fault_record : Fault → FaultRecord
fault_record f = record { table = f.table.0; kind = number_of_fault f.kind; place = f.place }

-- room into which as many of these are put as it has places
abbrev pub filled : {X : Type 0} → List X → List X → List X
filled xs room = take (length room) xs ++ drop (length xs) room

-- a cluster that counts for C what it counts
abbrev pub as_it_is : ℕ → ℕ
as_it_is cluster = cluster

-- room has as many of these as it has places, and the count is that of all
abbrev pub IsPut : {X : Type 0} → List X → List X → List X → ℕ → Type 0
IsPut xs room put count = (put ≡ filled xs room) × (count ≡ length xs)
