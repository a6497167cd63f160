-- The two positions that a pair in the stream changes.
use Rattle.std.proofs.Common.{◌≡◌, ◌∙◌, ap, ℕ, ℤ, Bool}
use Rattle.std.specs.Prelude.{◌-ℤ◌}
use Rattle.aat_buffer.specs.Buffer.{Buffer, position_at, with_position}
use Rattle.aat_glyph.specs.Directions.{is_horizontal}
use Rattle.aat_glyph.specs.declared.glyph.GlyphPosition.{GlyphPosition}
use Rattle.aat_kerning.specs.PairKerning.{half, in_stream}
use Rattle.aat_kerning_machines.specs.Positions.{with_advance, with_shift}

pub in_stream_by :
    (left right : ℕ) (v : ℤ) (b : Buffer) (h : Bool) (p q x y z : GlyphPosition)
    → h ≡ is_horizontal b.direction → p ≡ position_at b left → x ≡ with_advance h (half v) p
    → q ≡ position_at (with_position b left x) right → y ≡ with_advance h (v -ℤ half v) q → z ≡ with_shift h (v -ℤ half v) y
    → with_position (with_position b left x) right z ≡ in_stream (record { left = left; right = right }) v b
in_stream_by left right v b h p q x y z is_h is_p is_x is_q is_y is_z =
    let d = is_horizontal b.direction in
    let rest = v -ℤ half v in
    let first : x ≡ with_advance d (half v) (position_at b left) =
    is_x ∙ ap (λ k. with_advance k (half v) p) is_h ∙ ap (with_advance d (half v)) is_p in
    let read : q ≡ position_at (with_position b left (with_advance d (half v) (position_at b left))) right =
    is_q ∙ ap (λ k. position_at (with_position b left k) right) first in
    let second : z ≡ with_shift d rest (with_advance d rest (position_at (with_position b left (with_advance d (half v) (position_at b left))) right)) =
    is_z
    ∙ ap (λ k. with_shift k rest y) is_h
    ∙ ap (with_shift d rest) (is_y ∙ ap (λ k. with_advance k rest q) is_h ∙ ap (with_advance d rest) read) in
    ap (λ k. with_position (with_position b left k) right z) first
    ∙ ap (with_position (with_position b left (with_advance d (half v) (position_at b left))) right) second
