-- Glyphs without an attach type, and lines in which no glyph is attached to another.
use Rattle.std.proofs.Common.{◌≡◌, ◌∙◌, ◌<◌, ap, length, sym, ℕ, ◌+◌, ◌==◌, Bool, ℤ, pos, neg_ℤ, ◌+ℤ◌, List, arith, get_or, Some, None, if◌then◌else◌}
use Rattle.std.proofs.lemmas.Bool.{le-ltb}
use Rattle.std.proofs.lemmas.List.FromFn.{get_or-map-range_with_len}
use Rattle.aat_glyph.specs.Directions.{is_forward}
use Rattle.aat_glyph.specs.declared.glyph.Direction.{Direction}
use Rattle.aat_glyph.specs.declared.glyph.GlyphPosition.{GlyphPosition}
use Rattle.aat_buffer.specs.Buffer.{Buffer, position_at, position_list, zero_position}
use Rattle.aat_glyph.proofs.placement.AttachmentLawsHold.{unattached_lines_stay}
use Rattle.aat_glyph.specs.placement.Attachments.{IsUnattached, added_up, at, drawn, drawn_chain, earlier, no_position, parent}
use Rattle.aat_shaped_text.specs.ShapedText.{drawn_position}

-- a glyph without an attach type has no chain
no_chain : (d : Direction) (q : GlyphPosition) → q.attach_type ≡ 0 → drawn_chain d q ≡ pos 0
no_chain d q none =
    ap (λ (t : ℕ). if t == 1 then q.attach_chain else (if t == 2 then (if is_forward d then q.attach_chain else neg_ℤ q.attach_chain) else pos 0)) none

-- and so no parent
pub no_parent : (d : Direction) (qs : List GlyphPosition) (i : ℕ) → (at qs i).attach_type ≡ 0 → parent d qs i ≡ None
no_parent d qs i none =
    ap (λ (z : ℤ). earlier i (pos i +ℤ z)) (no_chain d (at qs i) none)
    ∙ ap (λ (t : Bool). if t then Some (i + 0) else None) (le-ltb (i + 0) i (omega arith))

-- in such a line a glyph is drawn at its own position
pub own_position : (b : Buffer) (i : ℕ) → IsUnattached b.direction (position_list b) → position_at b i ≡ drawn_position b i
own_position b i alone = ap (λ (qs : List GlyphPosition). get_or qs i zero_position) (sym (unattached_lines_stay b.direction (position_list b) alone))

-- offsets that are added up leave the parent of each glyph
pub parent_added : (d : Direction) (qs added : List GlyphPosition) (i : ℕ) → i < length qs → added ≡ added_up d qs → parent d added i ≡ parent d qs i
parent_added d qs added i low is =
    let here : 0 + i ≡ i = omega arith in
    ap (λ (ps : List GlyphPosition). parent d ps i) is
    ∙ ap (λ (q : GlyphPosition). earlier i (pos i +ℤ drawn_chain d q)) (get_or-map-range_with_len (drawn d qs) 0 (length qs) i i no_position low here)
