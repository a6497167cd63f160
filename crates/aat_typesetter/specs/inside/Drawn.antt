-- What is drawn of glyphs that were shaped.
use Rattle.std.specs.Prelude.{ℕ, Bool, true, ◌&&◌, ◌||◌, List, length, nat_lt, Option, Some, None, is_some, if◌then◌else◌}
use Rattle.std.specs.List.{list_all}
use Rattle.aat_lookup.specs.declared.glyph_id.GlyphId.{GlyphId}
use Rattle.aat_shaped_text.specs.declared.text.ShapedGlyph.{ShapedGlyph}
use Rattle.aat_showing.specs.facts.Plain.{is_plain}

-- they are drawn as they are, or others are
abbrev pub drawn_by : Bool → List ShapedGlyph → List ShapedGlyph → List ShapedGlyph
drawn_by is_as_shaped shaped others = if is_as_shaped then shaped else others

-- a place among so many, if it is one
abbrev pub is_within : ℕ → Option ℕ → Bool
is_within n None = true
is_within n (Some i) = nat_lt i n

-- each of some glyphs is attached to none, or to one of them
abbrev pub are_attached_within : List ShapedGlyph → Bool
are_attached_within glyphs = list_all (λ g. is_within (length glyphs) g.attached_to) glyphs

-- of some glyphs, none of which is ignorable, each stays as it is
abbrev pub keeps_all : Option GlyphId → List ShapedGlyph → Bool
keeps_all space glyphs = is_some space || are_attached_within glyphs

-- each of some glyphs is plain, and stays so once ignorable ones are hidden
abbrev pub are_kept_plain : Option GlyphId → List ShapedGlyph → Bool
are_kept_plain space glyphs = list_all (λ g. is_plain g && (is_some space || is_within (length glyphs) g.attached_to)) glyphs
