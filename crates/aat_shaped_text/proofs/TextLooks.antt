-- How what is drawn of a text looks, whatever substitution left of it.
use Rattle.std.proofs.Common.{◌≡◌, ◌∙◌, sym, ap, refl, ℕ, Bool, true, false, cond, List, map, length}
use Rattle.std.specs.Prelude.{ℤ, Some, option_map}
use Rattle.std.proofs.lemmas.List.{length-map}
use Rattle.aat_glyph.specs.Directions.{is_backward, is_horizontal}
use Rattle.aat_glyph.specs.declared.glyph.Direction.{Direction}
use Rattle.aat_glyph.specs.declared.glyph.GlyphPosition.{GlyphPosition}
use Rattle.aat_glyph.specs.declared.glyph.hb_glyph_info_t.{hb_glyph_info_t}
use Rattle.aat_buffer.specs.Buffer.{Buffer, position_list, reversed}
use Rattle.aat_buffer.specs.Marks.{produces_concat}
use Rattle.aat_font.specs.Face.{advance_of}
use Rattle.aat_font.specs.declared.face.hb_font_t.{hb_font_t}
use Rattle.aat_font.specs.declared.plan.Feature.{Feature}
use Rattle.aat_kerning_machines.specs.KerningLaws.{IsKernedFrom}
use Rattle.aat_glyph.specs.placement.Attachments.{added_up}
use Rattle.aat_kerning.specs.Cut.{ordered_line, ordered_positions}
use Rattle.aat_kerning.specs.KerningLawful.{KerningChangesLittle}
use Rattle.aat_kerning.specs.Positioning.{in_processing_order}
use Rattle.aat_kerning.specs.Zeroing.{zeroed, zeroed_positions}
use Rattle.aat_layout.specs.Shaping.{advanced, with_advances}
use Rattle.aat_glyph.specs.placement.TrackingLaws.{PartsAreTrackedApart}
use Rattle.aat_shaped_text.specs.Parts.{looks}
use Rattle.aat_shaped_text.specs.ShapedText.{drawn_clusters, drawn_glyphs, text_kerning, tracked_by, tracked_line}
use Rattle.aat_shaped_text.specs.declared.text.TextGlyph.{TextGlyph}
use Rattle.aat_shaped_text.proofs.ChainsSplit.{link}
use Rattle.aat_shaped_text.proofs.KernedPairs.{IsPlainText}
use Rattle.aat_shaped_text.proofs.KernedText.{text_changes_little}
use Rattle.aat_shaped_text.proofs.Looks.{Positions, drawn_looks, line_looks, line_plain, plain}
use Rattle.aat_shaped_text.proofs.SpotsRuns.{Glyphs}
use Rattle.aat_shaped_text.proofs.Texts.{length-turned, length-zeroed, map-turned, marked_plain, ordered_line_is, ordered_positions_are, some_list, turned, zeroed_links, zeroed_plain, zeroed_turned}
use Rattle.aat_shaped_text.proofs.Tracked.{drawn_plain, length-tracked_turned, links_turned, tracked_turned, turned-turned}

-- what is known behind substitution of the texts of a direction: the value by which they are tracked, the buffer that
-- substitution leaves of each, and the laws of the crates below
pub record Behind (face : hb_font_t) (d : Direction) (features : List Feature) : Type 0 where
  pub value : ℤ
  pub substituted : List TextGlyph → Buffer
  pub direction : (text : List TextGlyph) → (substituted text).direction ≡ d
  pub level : (text : List TextGlyph) → (substituted text).cluster_level ≡ 0
  pub flags : (text : List TextGlyph) → produces_concat (substituted text).flags ≡ false
  pub little : KerningChangesLittle
  pub tracks : PartsAreTrackedApart

module _ (face : hb_font_t) (d : Direction) (features : List Feature) (x : Behind face d features) where
  abbrev is_turned : Bool
  is_turned = is_backward d

  abbrev pub advance_at : hb_glyph_info_t → GlyphPosition
  advance_at g = advanced (is_horizontal d) (advance_of face g.glyph_id)

  -- the line behind substitution, in the order of drawing
  abbrev pub ordered : List TextGlyph → Glyphs
  ordered text = turned is_turned (x.substituted text).line

  -- the same without masks
  abbrev pub plain_line : List TextGlyph → Glyphs
  plain_line text = map plain (ordered text)

  -- the buffer behind the advances, and behind kerning
  abbrev pub advanced_text : List TextGlyph → Buffer
  advanced_text text = with_advances (advance_of face) (x.substituted text)

  abbrev pub kerned : List TextGlyph → Buffer
  kerned text = (text_kerning face features (advanced_text text)).buffer

  pub direction_is : (text : List TextGlyph) → (advanced_text text).direction ≡ d
  direction_is text = x.direction text

  pub plain_text : (text : List TextGlyph) → IsPlainText d (advanced_text text)
  plain_text text = record { direction = direction_is text; flags = x.flags text }

  pub positions_are : (text : List TextGlyph) → (advanced_text text).positions ≡ Some (map advance_at (x.substituted text).line)
  positions_are text =
      ap (λ e. Some (map (λ (g : hb_glyph_info_t). advanced (is_horizontal e) (advance_of face g.glyph_id)) (x.substituted text).line)) (direction_is text)

  -- the line and the positions before kerning, in processing order
  pub line_before : (text : List TextGlyph) → ordered_line (advanced_text text) ≡ ordered text
  line_before text = ordered_line_is (advanced_text text) is_turned (ap is_backward (direction_is text))

  pub positions_before : (text : List TextGlyph) → ordered_positions (advanced_text text) ≡ map advance_at (ordered text)
  positions_before text =
      ordered_positions_are (advanced_text text) is_turned (map advance_at (x.substituted text).line) (ap is_backward (direction_is text)) (positions_are text)
      ∙ sym (map-turned advance_at is_turned (x.substituted text).line)

  from : (text : List TextGlyph) → IsKernedFrom (advanced_text text) (kerned text)
  from text = text_changes_little face features (advanced_text text) x.little

  pub kerned_direction : (text : List TextGlyph) → (kerned text).direction ≡ d
  kerned_direction text = (from text).text.settings.direction ∙ direction_is text

  turned_is : (text : List TextGlyph) → is_backward (kerned text).direction ≡ is_turned
  turned_is text = ap is_backward (kerned_direction text)

  kerned_line : (text : List TextGlyph) → map plain (kerned text).line ≡ map plain (x.substituted text).line
  kerned_line text = marked_plain (advanced_text text).line (kerned text).line (from text).line

  length_of_line : (text : List TextGlyph) → length (kerned text).line ≡ length (x.substituted text).line
  length_of_line text =
      sym (length-map (kerned text).line plain)
      ∙ (ap length (kerned_line text) ∙ length-map (x.substituted text).line plain)

  abbrev pub places : List TextGlyph → Positions
  places text = position_list (kerned text)

  places_stand : (text : List TextGlyph) → (kerned text).positions ≡ Some (places text)
  places_stand text = some_list (kerned text).positions ((from text).text.standing refl)

  length_of_places : (text : List TextGlyph) → length (places text) ≡ length (x.substituted text).line
  length_of_places text = (from text).text.positions ∙ length-map (x.substituted text).line _

  pub ordered_places_are : (text : List TextGlyph) → ordered_positions (kerned text) ≡ turned is_turned (places text)
  ordered_places_are text = ordered_positions_are (kerned text) is_turned (places text) (turned_is text) (places_stand text)

  pub length_of_ordered : (text : List TextGlyph) → length (ordered_positions (kerned text)) ≡ length (plain_line text)
  length_of_ordered text =
      ap length (ordered_places_are text)
      ∙ (length-turned is_turned (places text)
      ∙ (length_of_places text
      ∙ sym (length-map (ordered text) plain ∙ length-turned is_turned (x.substituted text).line)))

  -- the line that is tracked, in reading order
  abbrev read : List TextGlyph → Buffer
  read text = tracked_line x.value (zeroed (kerned text))

  -- what is left of a text as it is drawn
  abbrev pub drawn : List TextGlyph → Buffer
  drawn text = in_processing_order (read text)

  -- its line
  pub drawn_line : (text : List TextGlyph) → (drawn text).line ≡ ordered_line (kerned text)
  drawn_line text =
      ordered_line_is (read text) is_turned (turned_is text)
      ∙ sym (ordered_line_is (kerned text) is_turned (turned_is text))

  ordered_plain_line : (text : List TextGlyph) → map plain (ordered_line (kerned text)) ≡ plain_line text
  ordered_plain_line text =
      ap (map plain) (ordered_line_is (kerned text) is_turned (turned_is text))
      ∙ (map-turned plain is_turned (kerned text).line
      ∙ (ap (turned is_turned) (kerned_line text) ∙ sym (map-turned plain is_turned (x.substituted text).line)))

  -- without masks it is the line behind substitution
  pub drawn_plain_line : (text : List TextGlyph) → map plain (drawn text).line ≡ plain_line text
  drawn_plain_line text = ap (map plain) (drawn_line text) ∙ ordered_plain_line text

  -- the zeroed positions, in the order of drawing, and tracked
  abbrev pub zeroed_places : List TextGlyph → Positions
  zeroed_places text = zeroed_positions (plain_line text) (ordered_positions (kerned text))

  abbrev pub drawn_places : List TextGlyph → Positions
  drawn_places text = tracked_turned x.value d is_turned (plain_line text) (zeroed_places text)

  -- the zeroed positions, in reading order, and tracked
  abbrev read_places : List TextGlyph → Positions
  read_places text = zeroed_positions (kerned text).line (places text)

  abbrev tracked_places : List TextGlyph → Positions
  tracked_places text = tracked_by x.value d (drawn_clusters (kerned text).line) (read_places text)

  drawn_list : (text : List TextGlyph) → position_list (drawn text) ≡ turned is_turned (tracked_places text)
  drawn_list text =
      let b : Buffer = kerned text in
      let by : Direction → Positions → Positions = λ e qs. tracked_by x.value e (drawn_clusters b.line) qs in
      ordered_positions_are (read text) is_turned (by b.direction (read_places text)) (turned_is text)
      (ap (λ o. option_map (by b.direction) (option_map (zeroed_positions b.line) o)) (places_stand text))
      ∙ ap (λ e. turned is_turned (by e (read_places text))) (kerned_direction text)

  zeroed_are : (text : List TextGlyph) → turned is_turned (read_places text) ≡ zeroed_places text
  zeroed_are text =
      let same : length (places text) ≡ length (kerned text).line = length_of_places text ∙ sym (length_of_line text) in
      zeroed_turned is_turned (kerned text).line (places text) same
      ∙ (ap (λ gs. zeroed_positions gs (turned is_turned (places text))) (sym (ordered_line_is (kerned text) is_turned (turned_is text)))
      ∙ (zeroed_plain (ordered_line (kerned text)) (turned is_turned (places text))
      ∙ (ap (λ gs. zeroed_positions gs (turned is_turned (places text))) (ordered_plain_line text)
      ∙ ap (zeroed_positions (plain_line text)) (sym (ordered_places_are text)))))

  clusters_are : (text : List TextGlyph) → drawn_clusters (kerned text).line ≡ drawn_clusters (turned is_turned (plain_line text))
  clusters_are text =
      sym (drawn_plain (kerned text).line)
      ∙ ap drawn_clusters
      (kerned_line text
      ∙ (sym (turned-turned is_turned (map plain (x.substituted text).line))
      ∙ ap (turned is_turned) (sym (map-turned plain is_turned (x.substituted text).line))))

  drawn_positions_are : (text : List TextGlyph) → position_list (drawn text) ≡ drawn_places text
  drawn_positions_are text =
      drawn_list text
      ∙ (ap (λ cs. turned is_turned (tracked_by x.value d cs (read_places text))) (clusters_are text)
      ∙ ap (λ qs. turned is_turned (tracked_by x.value d (drawn_clusters (turned is_turned (plain_line text))) qs))
      (sym (turned-turned is_turned (read_places text)) ∙ ap (turned is_turned) (zeroed_are text)))

  drawn_direction : (text : List TextGlyph) → (drawn text).direction ≡ d
  drawn_direction text = by (is_backward (kerned text).direction) ∙ kerned_direction text
    where
      by : (t : Bool) → (cond t (reversed (read text)) (read text)).direction ≡ (kerned text).direction
      by true = refl
      by false = refl

  pub drawn_level : (text : List TextGlyph) → (drawn text).cluster_level ≡ 0
  drawn_level text = by (is_backward (kerned text).direction) ∙ ((from text).text.settings.cluster_level ∙ x.level text)
    where
      by : (t : Bool) → (cond t (reversed (read text)) (read text)).cluster_level ≡ (kerned text).cluster_level
      by true = refl
      by false = refl

  pub length_of_zeroed : (text : List TextGlyph) → length (zeroed_places text) ≡ length (plain_line text)
  length_of_zeroed text = length-zeroed (plain_line text) (ordered_positions (kerned text)) (length_of_ordered text)

  pub length_of_drawn : (text : List TextGlyph) → length (drawn_places text) ≡ length (plain_line text)
  length_of_drawn text =
      length-tracked_turned x.value d is_turned (plain_line text) (zeroed_places text) ∙ length_of_zeroed text

  -- where deleted glyphs take no room, and where a line is tracked, glyphs stay attached as they were
  pub drawn_links : (text : List TextGlyph) → map link (drawn_places text) ≡ map link (ordered_positions (kerned text))
  drawn_links text =
      links_turned x.value d is_turned (plain_line text) (zeroed_places text)
      ∙ zeroed_links (plain_line text) (ordered_positions (kerned text)) (length_of_ordered text)

  -- how what is drawn of a text looks, wherever it may be broken
  pub text_looks :
      (may : ℕ → Bool) (text : List TextGlyph)
      → map looks (drawn_glyphs may (drawn text)) ≡ line_looks (plain_line text) (added_up d (drawn_places text))
  text_looks may text =
      let b : Buffer = drawn text in
      let plain_is : map plain b.line ≡ plain_line text = drawn_plain_line text in
      let long : length (position_list b) ≡ length b.line =
      ap length (drawn_positions_are text) ∙ (length_of_drawn text ∙ (ap length (sym plain_is) ∙ length-map b.line plain)) in
      drawn_looks may b (drawn_level text) long
      ∙ (sym (line_plain b.line (added_up b.direction (position_list b)))
      ∙ (ap (λ gs. line_looks gs (added_up b.direction (position_list b))) plain_is
      ∙ (ap (λ e. line_looks (plain_line text) (added_up e (position_list b))) (drawn_direction text)
      ∙ ap (λ qs. line_looks (plain_line text) (added_up d qs)) (drawn_positions_are text))))
