-- What marks keep of the glyph ids.
use Rattle.std.proofs.Common.{ℕ, ◌-◌, ◌&&◌, nat_lt, length, Bool, true, false, List, take, drop, All, Option, cond}
use Rattle.std.proofs.lemmas.List.Elements.{All-append, All-take, All-drop, All-map}
use Rattle.aat_glyph.specs.declared.glyph.hb_glyph_info_t.{hb_glyph_info_t}
use Rattle.aat_buffer.specs.Buffer.{Buffer, Is16Bit}
use Rattle.aat_buffer.specs.Marks.{with_mask_bits, on_span, concat_marked, unsafe_to_concat, start_place, end_place, produces_concat}

-- marks on a span keep the glyph ids
small_span : (i j : ℕ) (gs : List hb_glyph_info_t) → All Is16Bit gs → All Is16Bit (on_span concat_marked i j gs)
small_span i j gs small =
    All-append Is16Bit (take i gs) _ (All-take Is16Bit i gs small)
    (All-append Is16Bit _ (drop j gs) (All-map Is16Bit (with_mask_bits 2) _ (All-take Is16Bit (j - i) (drop i gs) (All-drop Is16Bit i gs small)))
    (All-drop Is16Bit j gs small))

small_choice : (b : Bool) (x y : List hb_glyph_info_t) → All Is16Bit x → All Is16Bit y → All Is16Bit (cond b x y)
small_choice true x y p q = p
small_choice false x y p q = q

-- the mark against joining keeps glyph ids to 16 bits
pub small_concat : (b : Buffer) (start end : Option ℕ) → All Is16Bit b.line → All Is16Bit (unsafe_to_concat b start end).line
small_concat b start end small =
    let i = start_place start in
    let j = end_place end (length b.line) in
    small_choice (produces_concat b.flags && nat_lt i j) (on_span concat_marked i j b.line) b.line (small_span i j b.line small) small
