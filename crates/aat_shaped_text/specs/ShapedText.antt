-- A text that is shaped: its glyphs as a line, what the layer's calls leave of it, and what is drawn. (How a text is
-- handed in and out is the shaper's own. Apple's TrueType Reference Manual, "The 'morx' table", "The 'kerx' table" and
-- "The 'kern' table".)
use Rattle.std.specs.Prelude.{◌≡◌, ◌⊎◌, ℕ, ℤ, is_some, option_map, nat_lt, ◌<◌, ◌≤◌, ◌+◌, ◌*◌, ◌/◌, ◌^◌, ◌==◌, ◌&&◌, not, Bool, bit_and, pos, List, AllPairs, Option, Some, None, length, filter, map, max, min, zip, slice_index_or, if◌then◌else◌}
use Rattle.std.specs.Bool.{MatchBool}
use Rattle.std.specs.List.{range_with_len}
use Rattle.std.specs.Ordering.{int_eq}
use Rattle.aat_glyph.specs.placement.Attachments.{added_up, parent}
use Rattle.aat_buffer.specs.Buffer.{Buffer, empty_buffer, glyph_at, position_list, with_direction, with_line, zero_position}
use Rattle.aat_buffer.specs.Marks.{cluster_at}
use Rattle.aat_buffer.specs.Removal.{is_deleted, removed}
use Rattle.aat_glyph.specs.Directions.{is_backward}
use Rattle.aat_glyph.specs.declared.glyph.Direction.{Direction}
use Rattle.aat_glyph.specs.declared.glyph.GlyphPosition.{GlyphPosition}
use Rattle.aat_glyph.specs.declared.glyph.hb_glyph_info_t.{hb_glyph_info_t}
use Rattle.aat_font.specs.Face.{advance_of, chains_in, has_classes, kern_in, kerx_in, props_of, tables_of}
use Rattle.aat_font.specs.declared.face.hb_font_t.{hb_font_t}
use Rattle.aat_font.specs.declared.plan.Feature.{Feature}
use Rattle.aat_run.specs.Budget.{has_operations, operations_left}
use Rattle.aat_run.specs.Outcome.{Outcome}
use Rattle.aat_run.specs.declared.error.AatError.{AatError}
use Rattle.aat_run.specs.declared.error.AatError.TheVariants.{AaltValue, TooLong, OutOfMemory, BufferFailed}
use Rattle.aat_map.specs.Adding.{first_too_large_among}
use Rattle.aat_map.specs.Requests.{requests_of}
use Rattle.aat_map.specs.SwitchedChains.{by_requests}
use Rattle.aat_morx.specs.Substitution.{substituted}
use Rattle.aat_kinds.specs.Kinds.{sizes_for}
use Rattle.aat_kerning.specs.Cut.{ordered_line, ordered_positions}
use Rattle.aat_kerning.specs.Pairs.{is_solid}
use Rattle.aat_kerning.specs.Positioning.{in_processing_order, kern_positioning, kerx_positioning}
use Rattle.aat_kerning.specs.Zeroing.{zeroed}
use Rattle.aat_layout.specs.Shaping.{with_advances}
use Rattle.aat_closing.specs.ClosingChains.{closing_substituted}
use Rattle.aat_closing.specs.ClosingRuns.{Told}
use Rattle.aat_glyph.specs.placement.TrackedLines.{tracked}
use Rattle.aat_shaped_text.specs.Breaks.{front_of, is_rising, is_unchained, kept_before, kerns_by_pairs, may_break_at, skips_of, substitutes_evenly}
use Rattle.aat_shaped_text.specs.KernedBreaks.{kerning_opens}
use Rattle.aat_shaped_text.specs.Kinds.{kind_of_number, number_of_kind}
use Rattle.aat_shaped_text.specs.TextFeatures.{is_kerned_at, requests_kerning}
use Rattle.aat_shaped_text.specs.declared.text.CharacterKind.{CharacterKind}
use Rattle.aat_shaped_text.specs.declared.text.ShapedGlyph.{ShapedGlyph}
use Rattle.aat_shaped_text.specs.declared.text.TextGlyph.{TextGlyph}

-- the longest text
abbrev pub most_text : ℕ
most_text = 2 ^ 24

-- the most glyphs that the line of a text of n glyphs may have, as HarfBuzz has it
abbrev pub most_glyphs : ℕ → ℕ
most_glyphs n = min (max (n * 64) 16384) 0x3FFFFFFF

-- its budget of operations, at most the greatest of 32 bits
abbrev pub most_operations : ℕ → ℕ
most_operations n = min (max (n * 1024) 16384) 0x7FFFFFFF

-- the properties of a glyph of a text: those of the font where it has classes of glyphs, and else 8 of a mark
abbrev pub text_props : hb_font_t → TextGlyph → ℕ
text_props face g = if has_classes face then props_of face g.glyph_id else (if g.is_mark then 8 else 0)

-- what a glyph of a text says of its character: an ignorable one has the layer's property, 0x20, and 0x40, which the
-- layer leaves as it is, as it does the number of the kind from 0x80 on
abbrev pub text_unicode_props : TextGlyph → ℕ
text_unicode_props g = number_of_kind g.kind * 0x80 + (if g.is_ignorable then 0x60 else 0)

-- a glyph of a text as one of a line: where it is kerned its mask has the bit 8
abbrev pub line_glyph : hb_font_t → List Feature → TextGlyph → hb_glyph_info_t
line_glyph face features g = record {
  glyph_id = g.glyph_id;
  mask = if is_kerned_at features g.cluster then 8 else 0;
  cluster = g.cluster;
  glyph_props = text_props face g;
  unicode_props = text_unicode_props g;
}

-- the buffer of a text
abbrev pub text_buffer : hb_font_t → Direction → List Feature → List TextGlyph → Buffer
text_buffer face d features text =
    with_line (with_direction
    (empty_buffer (most_glyphs (length text)) (pos (most_operations (length text)))) d)
    (map (line_glyph face features) text)

-- substitution by the features
abbrev pub text_substitution : hb_font_t → List Feature → Buffer → Outcome
text_substitution face features b =
    substituted (sizes_for face)
    (by_requests (requests_of (tables_of face).feat features) (chains_in (tables_of face).morx)) b

-- the same, which closes what its machines look at
abbrev pub text_closing : hb_font_t → List Feature → Buffer → Told
text_closing face features b =
    closing_substituted (sizes_for face)
    (by_requests (requests_of (tables_of face).feat features) (chains_in (tables_of face).morx)) b

-- kerning by the extended kerning table where the font has it, and else by the kerning table
abbrev pub text_kerning : hb_font_t → List Feature → Buffer → Outcome
text_kerning face features b =
    if is_some (tables_of face).kerx
    then kerx_positioning (requests_kerning features) 8 (tables_of face).ankr (kerx_in (tables_of face).kerx) b
    else kern_positioning (requests_kerning features) 8 (kern_in (tables_of face).kern) b

-- what substitution, advances and kerning leave of a text
abbrev pub kerned_text : hb_font_t → Direction → List Feature → List TextGlyph → Buffer
kerned_text face d features text =
    let substituted = (text_substitution face features (text_buffer face d features text)).buffer in
    (text_kerning face features (with_advances (advance_of face) substituted)).buffer

-- the cluster that a glyph is drawn for: none where it is deleted
abbrev pub drawn_cluster : hb_glyph_info_t → Option ℕ
drawn_cluster g = if is_deleted g then None else Some g.cluster

-- those of a line
abbrev pub drawn_clusters : List hb_glyph_info_t → List (Option ℕ)
drawn_clusters line = map drawn_cluster line

-- the positions of a line that is tracked by a value: 0 leaves them
abbrev pub tracked_by : ℤ → Direction → List (Option ℕ) → List GlyphPosition → List GlyphPosition
tracked_by v d cs qs = if int_eq v (pos 0) then qs else tracked d v cs qs

-- a line in reading order that is tracked by a value
abbrev pub tracked_line : ℤ → Buffer → Buffer
tracked_line v b = record b { positions = option_map (tracked_by v b.direction (drawn_clusters b.line)) b.positions }

-- a value of 0 leaves every line
abbrev pub UntrackedLinesStay : Type 0
UntrackedLinesStay = (b : Buffer) → tracked_line (pos 0) b ≡ b

-- what is left of a text as it is drawn, tracked by a value, from left to right or from top to bottom: deleted glyphs
-- take no room
abbrev pub drawn_text : ℤ → hb_font_t → Direction → List Feature → List TextGlyph → Buffer
drawn_text v face d features text = in_processing_order (tracked_line v (zeroed (kerned_text face d features text)))

-- whether substitution and kerning used the budget up
abbrev pub uses_up_budget : hb_font_t → Direction → List Feature → List TextGlyph → Bool
uses_up_budget face d features text = not (has_operations (kerned_text face d features text))

-- the position of a glyph of a line that is drawn, to whose offset that of what it is attached to is added
abbrev pub drawn_position : Buffer → ℕ → GlyphPosition
drawn_position b i = slice_index_or (added_up b.direction (position_list b)) i zero_position

-- a place of a line as one among the glyphs that are kept, none where its glyph is deleted
abbrev pub kept_place : List hb_glyph_info_t → Option ℕ → Option ℕ
kept_place line None = None
kept_place line (Some j) = if is_deleted (glyph_at line j) then None else Some (kept_before line j)

-- a glyph of a line stands for an ignorable character; a component that a ligature deletes gets 0x20 alone
abbrev pub is_ignorable : hb_glyph_info_t → Bool
is_ignorable g = not (bit_and g.unicode_props 0x40 == 0)

-- the kind of the character that a glyph of a line stands for
abbrev pub kind_of : hb_glyph_info_t → CharacterKind
kind_of g = kind_of_number (g.unicode_props / 0x80)

-- what a glyph of a text says of its character is read of its glyph on the line
abbrev pub CharactersAreRead : Type 0
CharactersAreRead =
    (face : hb_font_t) (features : List Feature) (g : TextGlyph)
    → (is_ignorable (line_glyph face features g) ≡ g.is_ignorable) × (kind_of (line_glyph face features g) ≡ g.kind)

-- a glyph of a line has the property of marks
abbrev pub is_mark : hb_glyph_info_t → Bool
is_mark g = not (bit_and g.glyph_props 8 == 0)

-- the glyph at a place of a line that is drawn, where the line may be broken before some places
abbrev pub drawn_glyph : (ℕ → Bool) → Buffer → ℕ → ShapedGlyph
drawn_glyph may_break b i = record {
  glyph_id = (glyph_at b.line i).glyph_id;
  cluster = cluster_at b.line i;
  is_ignorable = is_ignorable (glyph_at b.line i);
  is_mark = is_mark (glyph_at b.line i);
  kind = kind_of (glyph_at b.line i);
  x_advance = (drawn_position b i).x_advance;
  y_advance = (drawn_position b i).y_advance;
  x_offset = (drawn_position b i).x_offset;
  y_offset = (drawn_position b i).y_offset;
  attached_to = kept_place b.line (parent b.direction (position_list b) i);
  may_break_before = may_break i;
}

-- the places of a line whose glyphs are not deleted
abbrev pub kept_places : List hb_glyph_info_t → List ℕ
kept_places line = filter (λ i. not (is_deleted (glyph_at line i))) (range_with_len 0 (length line))

-- glyphs, with the clusters of those of a line
abbrev pub with_clusters_of : List hb_glyph_info_t → List ShapedGlyph → List ShapedGlyph
with_clusters_of line glyphs = map (λ p. record p.1 { cluster = p.0.cluster }) (zip line glyphs)

-- what is drawn of a line: the glyphs that are kept, with the clusters that the removal of the others leaves
abbrev pub drawn_glyphs : (ℕ → Bool) → Buffer → List ShapedGlyph
drawn_glyphs may_break b =
    with_clusters_of (removed is_deleted b).line (map (drawn_glyph may_break b) (kept_places b.line))

-- what closing substitution leaves of a text, and tells
abbrev pub closed_text : hb_font_t → Direction → List Feature → List TextGlyph → Told
closed_text face d features text = text_closing face features (text_buffer face d features text)

-- what closing substitution leaves, with advances, which is what is kerned
abbrev pub advanced_closed : hb_font_t → Direction → List Feature → List TextGlyph → Buffer
advanced_closed face d features text = with_advances (advance_of face) (closed_text face d features text).buffer

-- the same, kerned
abbrev pub kerned_closed : hb_font_t → Direction → List Feature → List TextGlyph → Buffer
kerned_closed face d features text = (text_kerning face features (advanced_closed face d features text)).buffer

-- its machines tell what is open, and take together with kerning fewer operations than any text has
abbrev pub tells_breaks : hb_font_t → Direction → List Feature → List TextGlyph → Bool
tells_breaks face d features text =
    (closed_text face d features text).is_told
    && nat_lt (most_operations (length text)) (operations_left (kerned_closed face d features text).max_ops + 16384)

-- a line in drawing order may be broken before a place, by the features of a text
abbrev pub may_break_line : hb_font_t → Direction → List Feature → List hb_glyph_info_t → ℕ → Bool
may_break_line face d features line i = may_break_at (substitutes_evenly face d features) features line i

-- the line that kerning left, which it marks, may be broken before a place, whose glyph kerning does not skip
abbrev pub is_open_by_marks : hb_font_t → Direction → List Feature → List TextGlyph → ℕ → Bool
is_open_by_marks face d features text i =
    let line = ordered_line (kerned_closed face d features text) in
    is_solid (skips_of face) (glyph_at line i) && may_break_line face d features line i

-- The line that is kerned may be broken before a place, kerning leaves it open there, and what it attaches is attached on
-- one side of it.
abbrev pub is_open_by_kerning : hb_font_t → Direction → List Feature → List TextGlyph → ℕ → Bool
is_open_by_kerning face d features text i =
    let b = advanced_closed face d features text in
    may_break_line face d features (ordered_line b) i && kerning_opens face d features b i
    && is_unchained d (ordered_positions (kerned_closed face d features text)) i

-- Whether the line of a text may be cut before a place: the clusters of the text never fall, its machines tell what is
-- open, few operations are taken, and the place is open: by the marks of kerning where pairs along the line alone kern
-- texts of the direction, and else by its runs, also where nothing kerns them.
abbrev pub may_cut_text : hb_font_t → Direction → List Feature → List TextGlyph → ℕ → Bool
may_cut_text face d features text i =
    is_rising text && tells_breaks face d features text
    && (if kerns_by_pairs face d then is_open_by_marks face d features text i
    else is_open_by_kerning face d features text i)

-- Whether a text that is drawn may be broken before the glyph at a place of its line: the line may be cut where that glyph
-- begins, with the deleted glyphs of its cluster in a row before it.
abbrev pub may_break_text : hb_font_t → Direction → List Feature → List TextGlyph → ℕ → Bool
may_break_text face d features text i =
    may_cut_text face d features text (front_of (ordered_line (advanced_closed face d features text)) i)

-- what is drawn of a text that is tracked by a value
abbrev pub shaped_text : ℤ → hb_font_t → Direction → List Feature → List TextGlyph → List ShapedGlyph
shaped_text v face d features text =
    drawn_glyphs (may_break_text face d features text) (drawn_text v face d features text)

-- clusters never fall along what is drawn of a forward text, and never rise along what is drawn of a backward one
abbrev pub AreInOrder : Direction → List ShapedGlyph → Type 0
AreInOrder d glyphs =
    MatchBool (is_backward d) (AllPairs (λ g h. h.cluster ≤ g.cluster) glyphs)
    (AllPairs (λ g h. g.cluster ≤ h.cluster) glyphs)

-- why a text is not shaped: a value of alternates is no setting; or the text is too long, or substitution would make
-- its line too long. Of `OutOfMemory` nothing is said, and `BufferFailed` never comes.
abbrev pub RefusesText : hb_font_t → Direction → List Feature → List TextGlyph → AatError → Type 0
RefusesText face d features text (AaltValue value) =
    (length text ≤ most_text) × (first_too_large_among (tables_of face).feat features ≡ Some value)
RefusesText face d features text TooLong =
    (most_text < length text)
    ⊎ ((first_too_large_among (tables_of face).feat features ≡ None)
    × (most_glyphs (length text)
    < length (text_substitution face features (text_buffer face d features text)).buffer.line))
RefusesText face d features text OutOfMemory = Unit {0}
RefusesText face d features text BufferFailed = ⊥
