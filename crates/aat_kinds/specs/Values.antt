-- Glyphs that get a value, and the noncontextual map. Apple's TrueType Reference Manual, "The 'morx' table",
-- noncontextual substitution.
use Rattle.std.specs.Prelude.{ℕ, Bool, List, map, Option, Some, None, slice_set, if◌then◌else◌}
use Rattle.aat_buffer.specs.Buffer.{glyph_at}
use Rattle.aat_glyph.specs.declared.glyph.hb_glyph_info_t.{hb_glyph_info_t}
use Rattle.aat_font.specs.Face.{value_or_zero}
use Rattle.aat_lookup.specs.Keys.{value_in}

-- the properties of a glyph that becomes v: by the classes of the font where it has them, and else as they were
abbrev pub props_after : Option (List (ℕ × ℕ)) → ℕ → ℕ → ℕ
props_after None v props = props
props_after (Some classes) v props = value_or_zero (Some classes) v

-- a glyph that becomes v
abbrev pub with_value : Option (List (ℕ × ℕ)) → ℕ → hb_glyph_info_t → hb_glyph_info_t
with_value classes v g = record g { glyph_id = v; glyph_props = props_after classes v g.glyph_props }

-- the glyph at one place becomes v
abbrev pub with_value_at : Option (List (ℕ × ℕ)) → ℕ → ℕ → List hb_glyph_info_t → List hb_glyph_info_t
with_value_at classes i v line = slice_set line i (with_value classes v (glyph_at line i))

-- a glyph that is given a value, if there is one
abbrev pub with_answer : Option (List (ℕ × ℕ)) → Option ℕ → hb_glyph_info_t → hb_glyph_info_t
with_answer classes None g = g
with_answer classes (Some v) g = with_value classes v g

-- a glyph that is on at its own cluster and has a value gets it
abbrev pub with_looked_up_value : (ℕ → Bool) → Option (List (ℕ × ℕ)) → List (ℕ × ℕ) → hb_glyph_info_t → hb_glyph_info_t
with_looked_up_value on classes lookup g =
    if on g.cluster then with_answer classes (value_in lookup g.glyph_id) g else g

-- the noncontextual map: this of each glyph of the line
abbrev pub noncontextual :
    (ℕ → Bool) → Option (List (ℕ × ℕ)) → List (ℕ × ℕ) → List hb_glyph_info_t → List hb_glyph_info_t
noncontextual on classes lookup line = map (with_looked_up_value on classes lookup) line
