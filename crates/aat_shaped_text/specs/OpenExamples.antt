-- Worked examples of where a text may be broken by what kerning leaves open, and by what it attaches.
use Rattle.std.specs.Prelude.{◌≡◌, ◌==◌, ℕ, Bool, List, [], ◌∷◌, false, true, filter, map, pos, negsuc, Some, None}
use Rattle.std.specs.List.{range_with_len}
use Rattle.aat_glyph.specs.declared.glyph.Direction.TheVariants.{LeftToRight, RightToLeft}
use Rattle.aat_glyph.specs.declared.glyph.GlyphPosition.{GlyphPosition}
use Rattle.aat_font.specs.declared.face.hb_font_t.{hb_font_t}
use Rattle.aat_kerning.specs.RowWords.{anchor_entries, anchors_of_kerx, kern_subtable, kerx_subtable, machine_of_kern, pairs_of_kern}
use Rattle.aat_kerning_tables.specs.declared.kern.KernSubtable.{KernSubtable}
use Rattle.aat_kerning_tables.specs.declared.kerx.KerxFormat.TheVariants.{Format0}
use Rattle.aat_kerning_tables.specs.declared.kerx.KerxSubtable.{KerxSubtable}
use Rattle.aat_machine_tables.specs.Table.{TableValue}
use Rattle.aat_machine_tables.specs.declared.entries.KernEntryData.{KernEntryData}
use Rattle.aat_machine_tables.specs.declared.state_table.GenericStateEntry.{GenericStateEntry}
use Rattle.aat_glyph.specs.placement.AttachmentExamples.{mark}
use Rattle.aat_glyph.specs.placement.Attachments.{no_position}
use Rattle.aat_cut_kinds.specs.KerningExamples.{kerning_at_end, kerning_before_two, kerning_each}
use Rattle.aat_shaped_text.specs.Breaks.{is_unchained}
use Rattle.aat_shaped_text.specs.ShapedText.{is_open_by_marks, may_break_text}
use Rattle.aat_shaped_text.specs.declared.text.CharacterKind.TheVariants.{Other}
use Rattle.aat_shaped_text.specs.declared.text.TextGlyph.{TextGlyph}

-- a font of these subtables of `kern` alone
abbrev pub kern_font : List KernSubtable → hb_font_t
kern_font subtables = record {
  tables = record { morx = None; kerx = None; kern = Some subtables; feat = None; ankr = None };
  glyph_classes = None;
  advances = None;
}

-- a font of these subtables of `kerx` alone
abbrev pub kerx_font : List KerxSubtable → hb_font_t
kerx_font subtables = record {
  tables = record { morx = None; kerx = Some subtables; kern = None; feat = None; ankr = None };
  glyph_classes = None;
  advances = None;
}

-- a subtable of this stack machine, with one value
abbrev pub stack : TableValue (GenericStateEntry KernEntryData) → KernSubtable
stack table = kern_subtable (machine_of_kern table (pos 101 ∷ []))

-- a subtable of one pair
abbrev pub pair : ℕ → ℕ → KernSubtable
pair left right = kern_subtable (pairs_of_kern ((left, right, pos 7) ∷ []))

-- the text of these glyphs, each a cluster of its own
abbrev pub text_of : List ℕ → List TextGlyph
text_of ids = map (λ g. record { glyph_id = g; cluster = g; is_ignorable = false; is_mark = false; kind = Other }) ids

-- the places of a text of four glyphs that pass a test
abbrev pub places_of : (ℕ → Bool) → List ℕ
places_of may_break = filter may_break (range_with_len 0 4)

-- glyphs 1, 2, 3 and 4
abbrev pub one_to_four : List TextGlyph
one_to_four = text_of (1 ∷ 2 ∷ 3 ∷ 4 ∷ [])

-- where their text may be broken in a font, from left to right
abbrev pub breaks_with : hb_font_t → List ℕ
breaks_with face = places_of (may_break_text face LeftToRight [] one_to_four)

-- Glyphs other than 2 wait for the next one, and are kerned before glyph 2: a text may be broken where none waits. Where
-- each glyph is kerned by itself it may be broken before each, and marks alone would tell none of these places. Where the
-- last glyph is kerned it may be broken nowhere.
pub record OpenPlacesAreTold : Type 0 where
  pub forward : breaks_with (kern_font (stack kerning_before_two ∷ [])) ≡ 2 ∷ []
  pub backward :
      places_of (may_break_text (kern_font (stack kerning_before_two ∷ [])) RightToLeft [] one_to_four) ≡ 2 ∷ 3 ∷ []
  pub each : breaks_with (kern_font (stack kerning_each ∷ [])) ≡ 1 ∷ 2 ∷ 3 ∷ []
  pub by_marks : places_of (is_open_by_marks (kern_font (stack kerning_each ∷ [])) LeftToRight [] one_to_four) ≡ []
  pub at_end : breaks_with (kern_font (stack kerning_at_end ∷ [])) ≡ []

-- beside that machine a pair closes the place that it stands over, and no other
pub record MixedKerningIsTold : Type 0 where
  pub beside : breaks_with (kern_font (stack kerning_before_two ∷ pair 3 4 ∷ [])) ≡ 2 ∷ []
  pub over : breaks_with (kern_font (pair 2 3 ∷ stack kerning_before_two ∷ [])) ≡ []

-- a machine of anchors that attaches glyph 2 to glyph 1
abbrev pub anchoring_two : KerxSubtable
anchoring_two = kerx_subtable (anchors_of_kerx anchor_entries ((0, 0) ∷ []))

-- A text is not broken before a glyph that is attached to one before it, and may be behind. Cross-stream attaches each
-- glyph to the one before it, so such a text is broken nowhere, though its pairs leave each place open.
pub record AttachedGlyphsStay : Type 0 where
  pub anchors : breaks_with (kerx_font (anchoring_two ∷ [])) ≡ 2 ∷ 3 ∷ []
  pub cross_stream : breaks_with (kern_font (record (pair 9 9) { has_cross_stream = true } ∷ [])) ≡ []
  pub along : breaks_with (kern_font (pair 9 9 ∷ [])) ≡ 1 ∷ 2 ∷ 3 ∷ []

-- the second of four glyphs is attached to the first, and the last to the third
abbrev pub attached_by_twos : List GlyphPosition
attached_by_twos = no_position ∷ mark (negsuc 0) no_position ∷ no_position ∷ mark (negsuc 0) no_position ∷ []

-- the places from which on no glyph is attached to one before
abbrev pub ChainsAreAsked : Type 0
ChainsAreAsked = places_of (is_unchained LeftToRight attached_by_twos) ≡ 0 ∷ 2 ∷ []

-- glyphs 1, 2, 3 and 4, of which 2 is ignorable
abbrev pub second_ignorable : List TextGlyph
second_ignorable = map (λ (g : TextGlyph). record g { is_ignorable = g.glyph_id == 2 }) one_to_four

-- the same, of which 2 is a mark
abbrev pub second_mark : List TextGlyph
second_mark = map (λ (g : TextGlyph). record g { is_mark = g.glyph_id == 2 }) one_to_four

-- where their text may be broken in a font, from left to right
abbrev pub breaks_around : hb_font_t → List ℕ
breaks_around face = places_of (may_break_text face LeftToRight [] second_ignorable)

-- where that of `second_mark` may be
abbrev pub marked_breaks : hb_font_t → List ℕ
marked_breaks face = places_of (may_break_text face LeftToRight [] second_mark)

-- a font whose glyph 2 has this property: 2 of bases, or 8 of marks
abbrev pub with_second : ℕ → hb_font_t → hb_font_t
with_second property face = record face { glyph_classes = Some ((2, property) ∷ []) }

-- Where pairs kern, a text is not broken before a glyph that they skip: `kern` skips marks, and `kerx` bases too. A mark
-- of the text is one where the font has no classes of glyphs; where it has, the font decides.
pub record SkippedGlyphsStay : Type 0 where
  pub ignorable : breaks_around (kern_font (pair 9 9 ∷ [])) ≡ 2 ∷ 3 ∷ []
  pub character : marked_breaks (kern_font (pair 9 9 ∷ [])) ≡ 2 ∷ 3 ∷ []
  pub classed : marked_breaks (with_second 2 (kern_font (pair 9 9 ∷ []))) ≡ 1 ∷ 2 ∷ 3 ∷ []
  pub mark : breaks_with (with_second 8 (kern_font (pair 9 9 ∷ []))) ≡ 2 ∷ 3 ∷ []
  pub base : breaks_with (with_second 2 (kern_font (pair 9 9 ∷ []))) ≡ 1 ∷ 2 ∷ 3 ∷ []
  pub extended :
      breaks_with (with_second 2 (kerx_font (kerx_subtable (Format0 ((9, 9, pos 7) ∷ [])) ∷ []))) ≡ 2 ∷ 3 ∷ []

-- where nothing kerns texts of the direction, a text may be broken before such a glyph
pub record UnkernedGlyphsOpen : Type 0 where
  pub none : breaks_around (kern_font []) ≡ 1 ∷ 2 ∷ 3 ∷ []
  pub columns : breaks_around (kern_font (record (pair 9 9) { horizontal = false } ∷ [])) ≡ 1 ∷ 2 ∷ 3 ∷ []
