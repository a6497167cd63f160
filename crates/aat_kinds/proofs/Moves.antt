-- A buffer of which a span was moved so far, glyph by glyph.
use Rattle.std.proofs.Common.{◌≡◌, ◌∙◌, ap, sym, ℕ, ◌<◌, ◌≤◌, ◌+◌, ◌-◌, ◌++◌, List, take, drop, length, get_or, set, arith}
use Rattle.std.specs.Prelude.{slice_range}
use Rattle.aat_buffer.specs.Buffer.{Buffer, no_glyph, with_line}
use Rattle.aat_buffer.specs.facts.Lines.{length_slice}
use Rattle.aat_glyph.specs.declared.glyph.hb_glyph_info_t.{hb_glyph_info_t}
use Rattle.aat_kinds.proofs.Parts.{covered, covered_all, covered_none_back, left_written, right_written}

module _ (b : Buffer) (s e by : ℕ) (room : by ≤ s) (ordered : s ≤ e) (within : e ≤ length b.line) where
  -- the line behind a move to the left, and to the right
  abbrev to_left : List hb_glyph_info_t
  to_left = covered b.line (s - by) (e - by) (slice_range b.line s e)

  abbrev to_right : List hb_glyph_info_t
  to_right = covered b.line s e (slice_range b.line (s - by) (e - by))

  -- the glyphs before place n were moved to the left, and those from place n on to the right
  abbrev left_up_to : ℕ → Buffer
  left_up_to n = with_line b (take n to_left ++ drop n b.line)

  abbrev right_from : ℕ → Buffer
  right_from n = with_line b (take n b.line ++ drop n to_right)

  pub left_more : (now : Buffer) (i : ℕ) (y : hb_glyph_info_t) → s ≤ i → i < e → now ≡ left_up_to (i - by) → y ≡ get_or now.line i no_glyph
      → with_line now (set now.line (i - by) y) ≡ left_up_to (i + 1 - by)
  left_more now i y from to was read =
      ap (λ (d : Buffer). with_line d (set now.line (i - by) y)) was
      ∙ ap (with_line b) (left_written b.line now.line s e by i no_glyph y room from to within (ap (λ (d : Buffer). d.line) was) read)

  pub left_all : (now : Buffer) (n : ℕ) → n ≡ e - by → now ≡ left_up_to n → now ≡ with_line b to_left
  left_all now n last was =
      let long : length (slice_range b.line s e) ≡ e - s = length_slice s e b.line ordered within in
      was ∙ ap (with_line b) (ap (λ k. take k to_left ++ drop k b.line) last
      ∙ covered_all b.line (slice_range b.line s e) (s - by) (e - by) (omega (arith, long, room, ordered)) (omega (arith, within)))

  pub right_none : b ≡ right_from (e - 0)
  right_none =
      let long : length (slice_range b.line (s - by) (e - by)) ≡ e - s =
      length_slice (s - by) (e - by) b.line (omega (arith, ordered)) (omega (arith, within)) ∙ omega (arith, room, ordered) in
      let all : e - 0 ≡ e = omega arith in
      ap (with_line b) (sym (ap (λ n. take n b.line ++ drop n to_right) all
      ∙ covered_none_back b.line (slice_range b.line (s - by) (e - by)) s e (omega (arith, long, ordered)) within))

  pub right_more : (now : Buffer) (moved : ℕ) (y : hb_glyph_info_t) → moved < e - s → now ≡ right_from (e - moved) → y ≡ get_or now.line (e - 1 - moved - by) no_glyph
      → with_line now (set now.line (e - 1 - moved) y) ≡ right_from (e - (moved + 1))
  right_more now moved y left was read =
      let here : e - moved ≡ e - 1 - moved + 1 = omega (arith, left) in
      let next : e - 1 - moved ≡ e - (moved + 1) = omega arith in
      ap (λ (d : Buffer). with_line d (set now.line (e - 1 - moved) y)) was
      ∙ ap (with_line b) (right_written b.line now.line s e by (e - 1 - moved) no_glyph y room (omega (arith, left)) (omega (arith, left)) within
      (ap (λ (d : Buffer). d.line) was ∙ ap (λ n. take n b.line ++ drop n to_right) here) read
      ∙ ap (λ n. take n b.line ++ drop n to_right) next)
