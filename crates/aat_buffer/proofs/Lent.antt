-- What a borrow of a line lends, and what a write through it leaves there.
use Rattle.std.proofs.Common.{◌≡◌, ◌∙◌, refl, ap, sym, ℕ, ◌<◌, ◌≤◌, ◌+◌, ◌-◌, List, Some, length, get_or, set, take, drop, ◌++◌, arith}
use Rattle.std.specs.List.{slice_get, slice_range}
use Rattle.aat_glyph.specs.declared.glyph.hb_glyph_info_t.{hb_glyph_info_t}
use Rattle.aat_buffer.specs.inside.Gap.{around_gap}
use Rattle.aat_buffer.specs.inside.Line.{Line, with_glyph, with_rest}
use Rattle.aat_buffer.proofs.Gap.{length-around_gap, set_before_gap, set_behind_gap, read_before_gap, read_behind_gap, rest_read, rest_written}

-- the line round a gap
abbrev line_round : List hb_glyph_info_t → ℕ → ℕ → Line
line_round xs i j = record { glyphs = around_gap xs i j; cursor = i }

-- a place of the line that does not stand before the gap stands in the cells
behind_in_cells : (l : Line) (xs : List hb_glyph_info_t) (i j k : ℕ) → line_round xs i j ≡ l → i ≤ j → j ≤ length xs → k < length l.glyphs → k + (j - i) < length xs
behind_in_cells l xs i j k is le within some =
    let count : length l.glyphs ≡ i + (length xs - j) = ap (λ (m : Line). length m.glyphs) (sym is) ∙ length-around_gap xs i j le within in
    omega (arith, count)

-- a glyph before the gap is lent
pub before_read : (l : Line) (xs : List hb_glyph_info_t) (i j k : ℕ) (x : hb_glyph_info_t) → line_round xs i j ≡ l → k < i → i ≤ j → j ≤ length xs → x ≡ get_or xs k x → slice_get l.glyphs k ≡ Some x
before_read l xs i j k x is lt le within e = rw (← is) (read_before_gap xs i j k x lt le within e)

-- and written
pub before_written : (l : Line) (xs : List hb_glyph_info_t) (i j k : ℕ) (w : hb_glyph_info_t) → line_round xs i j ≡ l → k < i → i ≤ j → j ≤ length xs → line_round (set xs k w) i j ≡ with_glyph l k w
before_written l xs i j k w is lt le within = rw (← is, set_before_gap xs i j k w lt le within) refl

-- a glyph behind the gap is lent
pub behind_read : (l : Line) (xs : List hb_glyph_info_t) (i j k : ℕ) (x : hb_glyph_info_t) → line_round xs i j ≡ l → i ≤ k → i ≤ j → j ≤ length xs → k < length l.glyphs → x ≡ get_or xs (k + (j - i)) x → slice_get l.glyphs k ≡ Some x
behind_read l xs i j k x is high le within some e = rw (← is) (read_behind_gap xs i j k x high le (behind_in_cells l xs i j k is le within some) e)

-- and written
pub behind_written : (l : Line) (xs : List hb_glyph_info_t) (i j k : ℕ) (w : hb_glyph_info_t) → line_round xs i j ≡ l → i ≤ k → i ≤ j → j ≤ length xs → k < length l.glyphs → line_round (set xs (k + (j - i)) w) i j ≡ with_glyph l k w
behind_written l xs i j k w is high le within some =
    let kept : k + (j - i) < length xs = behind_in_cells l xs i j k is le within some in
    rw (← is, set_behind_gap xs i j k w high le kept) refl

-- the glyphs behind the gap are lent
pub rest_lent : (l : Line) (xs gs : List hb_glyph_info_t) (i j n : ℕ) → line_round xs i j ≡ l → gs ≡ slice_range xs j n → n ≡ length xs → i ≤ j → j ≤ length xs → gs ≡ drop l.cursor l.glyphs
rest_lent l xs gs i j n is lent e le within = rw (← is) (lent ∙ rest_read xs i j n e le within)

-- and written
pub rest_left : (l : Line) (xs ws : List hb_glyph_info_t) (i j n : ℕ) → line_round xs i j ≡ l → n ≡ length xs → i ≤ j → j ≤ length xs → line_round (take n ((take j xs ++ (ws ++ drop (length ws) (drop j xs))) ++ drop (length (take j xs ++ (ws ++ drop (length ws) (drop j xs)))) xs)) i j ≡ with_rest l ws
rest_left l xs ws i j n is e le within = rw (← is, rest_written xs ws i j n e le within) refl
