-- The line of a text whose positions may be read of the font.
use Rattle.std.proofs.Common.{◌≡◌, ◌∙◌, ap, refl, subst, sym, true≢false, ℕ, Bool, true, false, cond, List, [], ◌∷◌, length, map, reverse}
use Rattle.std.proofs.lemmas.List.{length-map}
use Rattle.std.specs.Prelude.{Option, Some, None, is_some, option_copied}
use Rattle.std.specs.Borrow.{Bor}
use Rattle.aat_buffer.specs.Buffer.{Buffer, position_list, reversed}
use Rattle.aat_buffer.specs.Clusters.{KeepsOrder}
use Rattle.aat_buffer.specs.Removal.{is_deleted}
use Rattle.aat_font.specs.Face.{advance_of}
use Rattle.aat_font.specs.declared.face.hb_font_t.{hb_font_t}
use Rattle.aat_font.specs.declared.plan.hb_ot_shape_plan_t.{hb_ot_shape_plan_t}
use Rattle.aat_glyph.specs.Directions.{is_backward, is_horizontal}
use Rattle.aat_glyph.specs.declared.glyph.GlyphPosition.{GlyphPosition}
use Rattle.aat_glyph.specs.declared.glyph.hb_glyph_info_t.{hb_glyph_info_t}
use Rattle.aat_glyph.specs.placement.Attachments.{IsUnattached}
use Rattle.aat_kerning.specs.Positioning.{in_processing_order}
use Rattle.aat_kerning.specs.Zeroing.{without_room, zeroed, zeroed_position, zeroed_positions}
use Rattle.aat_kerning_machines.specs.Positions.{IsPlaced}
use Rattle.aat_layout.specs.Shaping.{advanced, kerned_by_font, placed_by as placed_with, placing, with_advances}
use Rattle.aat_run.specs.Outcome.{Outcome}
use Rattle.aat_shaped_text.proofs.KernedApart.{Plain, plain_at}
use Rattle.aat_shaped_text.proofs.SpotsRuns.{map-reverse}
use Rattle.aat_shaped_text.proofs.Unkerned.{left_unkerned}
use Rattle.aat_shaped_text.specs.ShapedText.{text_kerning}
use Rattle.aat_shaped_text.specs.TextFeatures.{requests_kerning}
use Rattle.aat_shaped_text.specs.Unkerned.{is_unkerned}
use Rattle.aat_font.specs.declared.plan.Feature.{Feature}
use Rattle.aat_drawn_text.proofs.Planned.{kerning_by}
use Rattle.aat_drawn_text.proofs.Unattached.{no_parent}
use Rattle.aat_drawn_text.specs.inside.Placed.{place_of, placed_by}

-- a line without positions, or with its own, is that of the buffer
pub bare_is : (font : Option hb_font_t) (b : Buffer) → (placed_by font b).positions ≡ None → placed_by font b ≡ b
bare_is None b bare = refl
bare_is (Some face) b bare = absurd (true≢false (ap is_some bare))

pub own_by : (font : Option (Bor hb_font_t)) (b : Buffer) → is_some font ≡ false → placed_by (option_copied font) b ≡ b
own_by None b own = refl
own_by (Some face) b own = absurd (true≢false own)

zeroed_map :
    (f : hb_glyph_info_t → GlyphPosition) (gs : List hb_glyph_info_t)
    → zeroed_positions gs (map f gs) ≡ map (λ g. zeroed_position g (f g)) gs
zeroed_map f [] = refl
zeroed_map f (g ∷ gs) = ap (λ qs. zeroed_position g (f g) ∷ qs) (zeroed_map f gs)

-- advances, where deleted glyphs take no room
pub advances_are : (face : hb_font_t) (b : Buffer) → zeroed (with_advances (advance_of face) b) ≡ placed_by (Some face) b
advances_are face b =
    ap (λ (qs : List GlyphPosition). record b { positions = Some qs })
    (zeroed_map (λ g. advanced (is_horizontal b.direction) (advance_of face g.glyph_id)) b.line)

-- a font places a line that is turned round as it does the other way
pub placed_turned : (font : Option hb_font_t) (b : Buffer) → placed_by font (in_processing_order b) ≡ in_processing_order (placed_by font b)
placed_turned font b = by (is_backward b.direction) font
  where
    by : (t : Bool) (o : Option hb_font_t) → placed_by o (cond t (reversed b) b) ≡ cond t (reversed (placed_by o b)) (placed_by o b)
    by true None = refl
    by true (Some face) =
        ap (λ (qs : List GlyphPosition). record (reversed b) { positions = Some qs })
        (map-reverse (place_of face (is_horizontal b.direction)) b.line)
    by false o = refl

-- each glyph has a position then
pub placed_long : (face : hb_font_t) (b : Buffer) → IsPlaced (placed_by (Some face) b)
placed_long face b = length-map b.line (place_of face (is_horizontal b.direction))

-- advances attach nothing
pub advances_unattached :
    (face : hb_font_t) (b : Buffer)
    → IsUnattached b.direction (position_list (placed_by (Some face) b))
advances_unattached face b = λ i low. no_parent b.direction (map (place_of face (is_horizontal b.direction)) b.line) i (plain_at (map (place_of face (is_horizontal b.direction)) b.line) i (plain (is_horizontal b.direction) b.line))
  where
    unattached : (row t : Bool) (n : ℕ) → (cond t (without_room (advanced row n)) (advanced row n)).attach_type ≡ 0
    unattached true true n = refl
    unattached true false n = refl
    unattached false true n = refl
    unattached false false n = refl

    plain : (row : Bool) (gs : List hb_glyph_info_t) → Plain (map (place_of face row) gs)
    plain row [] = tt
    plain row (g ∷ gs) = (unattached row (is_deleted g) (advance_of face g.glyph_id), plain row gs)

-- so where a font places a line nothing of it is attached
pub alone_by :
    (font : Option (Bor hb_font_t)) (b c : Buffer) → placed_by (option_copied font) b ≡ c → is_some font ≡ true
    → IsUnattached c.direction (position_list c)
alone_by None b c shows some = absurd (true≢false (sym some))
alone_by (Some face) b c shows some =
    subst (λ (d : Buffer). IsUnattached d.direction (position_list d)) shows (advances_unattached face.now b)

-- a line has the order that it has
pub same_order : (gs : List hb_glyph_info_t) → KeepsOrder gs gs
same_order gs = record { rising = λ up. up; falling = λ down. down; clusters = λ k low. (k, low, refl) }

-- placing asks no positions of before
pub placed_anew :
    (plan : hb_ot_shape_plan_t) (face : hb_font_t) (font : Option hb_font_t) (b : Buffer)
    → placing plan face b ≡ placing plan face (placed_by font b)
unfolding placed_with
placed_anew plan face font b = refl

-- a line that nothing kerns is placed by its advances
pub unkerned_placed :
    (plan : hb_ot_shape_plan_t) (face : hb_font_t) (features : List Feature) (b : Buffer)
    → plan.kern_mask ≡ 8 → requests_kerning features ≡ plan.requested_kerning → is_unkerned face b.direction ≡ true
    → zeroed (with_advances (advance_of face) b) ≡ (placing plan face b).buffer
unfolding placed_with
unkerned_placed plan face features b mask requested unkerned =
    let before : Buffer = with_advances (advance_of face) b in
    let kerned : kerned_by_font plan face before ≡ text_kerning face features before =
    ap (λ (r : Bool). kerning_by face r plan.kern_mask before) (sym requested)
    ∙ ap (λ (m : ℕ). kerning_by face (requests_kerning features) m before) mask in
    sym
    (ap (λ (o : Outcome). zeroed o.buffer) kerned
    ∙ ap zeroed (left_unkerned face b.direction features unkerned before refl))
