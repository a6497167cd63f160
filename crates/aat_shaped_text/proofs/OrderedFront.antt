-- A line in processing order whose cursor is at the front: all of it stands from the cursor on, and it is turned back.
use Rattle.std.proofs.Common.{◌≡◌, ◌∙◌, ap, refl, ℕ, Bool, true, false, List, drop}
use Rattle.aat_buffer.specs.Buffer.{Buffer, with_cursor}
use Rattle.aat_glyph.specs.Directions.{is_backward}
use Rattle.aat_glyph.specs.declared.glyph.hb_glyph_info_t.{hb_glyph_info_t}
use Rattle.aat_kerning.proofs.Positioned.{ordered_twice}
use Rattle.aat_kerning.specs.Cut.{ordered_line}
use Rattle.aat_kerning.specs.Positioning.{in_processing_order, turned_round}

moved : (t : Bool) (b : Buffer) → turned_round t (with_cursor b 0) ≡ with_cursor (turned_round t b) 0
moved true b = refl
moved false b = refl

pub whole_line :
    (b asked front turned : Buffer) (line : List hb_glyph_info_t) → asked ≡ b → front ≡ with_cursor asked 0 → turned ≡ in_processing_order front
    → line ≡ drop turned.cursor turned.line → line ≡ ordered_line b
whole_line b asked front turned line same at_front order read =
    let is : turned ≡ with_cursor (in_processing_order b) 0 =
    order ∙ (ap in_processing_order (at_front ∙ ap (λ (c : Buffer). with_cursor c 0) same) ∙ moved (is_backward b.direction) b) in
    read ∙ ap (λ (c : Buffer). drop c.cursor c.line) is

pub turned_back :
    (b asked front turned back left : Buffer) (cursor : ℕ) → asked ≡ b → cursor ≡ asked.cursor → front ≡ with_cursor asked 0 → turned ≡ in_processing_order front
    → back ≡ in_processing_order turned → left ≡ with_cursor back cursor → left ≡ b
turned_back b asked front turned back left cursor same stood at_front order again is =
    let back_is : back ≡ with_cursor b 0 =
    again ∙ (ap in_processing_order order ∙ (ordered_twice front ∙ (at_front ∙ ap (λ (c : Buffer). with_cursor c 0) same))) in
    is ∙ (ap (λ (c : Buffer). with_cursor c cursor) back_is ∙ ap (λ (n : ℕ). with_cursor b n) (stood ∙ ap (λ (c : Buffer). c.cursor) same))
