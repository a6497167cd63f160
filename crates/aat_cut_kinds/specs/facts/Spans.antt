-- Marks in a line that more glyphs stand behind, or before.
use Rattle.std.proofs.Common.{◌≡◌, ◌∙◌, Bool, true, false, ℕ, ◌+◌, ◌-◌, ◌≤◌, ℤ, List, ◌++◌, length, take, drop, cond, min, nat_le, Some, refl, ap, sym, arith, append_assoc, length-append, length-drop}
use Rattle.std.proofs.Math.Seq.{take-append-add, drop-append-add}
use Rattle.std.proofs.lemmas.Bool.Decides.{nat_tests}
use Rattle.std.proofs.lemmas.List.{take-append-le, drop-append-le}
use Rattle.std.specs.Prelude.{slice_range}
use Rattle.aat_buffer.specs.Buffer.{Buffer, with_line}
use Rattle.aat_buffer.specs.Marks.{break_marked, on_span, unsafe_to_break}
use Rattle.aat_glyph.specs.declared.glyph.hb_glyph_info_t.{hb_glyph_info_t}
use Rattle.aat_cut_kinds.specs.Parts.{followed_by, moved_on}

-- a span that ends within the first of two lines
pub span_in_front : (f : List hb_glyph_info_t → List hb_glyph_info_t) (i j : ℕ) (xs ys : List hb_glyph_info_t) → i ≤ j → j ≤ length xs → on_span f i j (xs ++ ys) ≡ on_span f i j xs ++ ys
span_in_front f i j xs ys low high =
    let here : take i (xs ++ ys) ≡ take i xs = take-append-le i xs ys (omega (arith, low, high)) in
    let skipped : drop i (xs ++ ys) ≡ drop i xs ++ ys = drop-append-le i xs ys (omega (arith, low, high)) in
    let span : slice_range (xs ++ ys) i j ≡ slice_range xs i j = ap (take (j - i)) skipped ∙ take-append-le (j - i) (drop i xs) ys (omega (arith, length-drop i xs, high)) in
    let after : drop j (xs ++ ys) ≡ drop j xs ++ ys = drop-append-le j xs ys high in
    rw (here, span, after) (sym (append_assoc (take i xs) (f (slice_range xs i j) ++ drop j xs) ys ∙ ap (λ t. take i xs ++ t) (append_assoc (f (slice_range xs i j)) (drop j xs) ys)))

-- a span of the second of two lines
pub span_in_back : (f : List hb_glyph_info_t → List hb_glyph_info_t) (i j : ℕ) (xs ys : List hb_glyph_info_t) → on_span f (length xs + i) (length xs + j) (xs ++ ys) ≡ xs ++ on_span f i j ys
span_in_back f i j xs ys =
    let wide : (length xs + j) - (length xs + i) ≡ j - i = omega arith in
    let span : slice_range (xs ++ ys) (length xs + i) (length xs + j) ≡ slice_range ys i j = ap (λ n. take n (drop (length xs + i) (xs ++ ys))) wide ∙ ap (take (j - i)) (drop-append-add xs ys i) in
    rw (take-append-add xs ys i, span, drop-append-add xs ys j) (append_assoc xs (take i ys) (f (slice_range ys i j) ++ drop j ys))

-- marks up to a place within a line stay in it where more glyphs stand behind it
pub unsafe_in_front : (gs : List hb_glyph_info_t) (b : Buffer) (i j : ℕ) → j ≤ length b.line
    → unsafe_to_break (followed_by gs b) (Some i) (Some j) ≡ followed_by gs (unsafe_to_break b (Some i) (Some j))
unsafe_in_front gs b i j high =
    let ends : min j (length (b.line ++ gs)) ≡ j = omega (arith, length-append b.line gs, high) in
    let here : min j (length b.line) ≡ j = omega (arith, high) in
    rw (ends, here) (ap (with_line b) (by_length (nat_le (i + 2) j) refl))
  where
    by_length : (t : Bool) → nat_le (i + 2) j ≡ t → cond t (on_span break_marked i j (b.line ++ gs)) (b.line ++ gs) ≡ cond t (on_span break_marked i j b.line) b.line ++ gs
    by_length true is = span_in_front break_marked i j b.line gs (grind (arith, nat_tests, is)) high
    by_length false is = refl

-- marks move on with the places
pub unsafe_in_back : (gs : List hb_glyph_info_t) (z : ℤ) (b : Buffer) (i j : ℕ)
    → unsafe_to_break (moved_on gs z b) (Some (length gs + i)) (Some (length gs + j)) ≡ moved_on gs z (unsafe_to_break b (Some i) (Some j))
unsafe_in_back gs z b i j =
    let ends : min (length gs + j) (length (gs ++ b.line)) ≡ length gs + min j (length b.line) = omega (arith, length-append gs b.line) in
    let long : nat_le (length gs + i + 2) (length gs + min j (length b.line)) ≡ nat_le (i + 2) (min j (length b.line)) = grind (arith, nat_tests) in
    rw (ends, long) (ap (λ (line : List hb_glyph_info_t). record (moved_on gs z b) { line = line }) (by_length (nat_le (i + 2) (min j (length b.line)))))
  where
    by_length : (t : Bool) → cond t (on_span break_marked (length gs + i) (length gs + min j (length b.line)) (gs ++ b.line)) (gs ++ b.line) ≡ gs ++ cond t (on_span break_marked i (min j (length b.line)) b.line) b.line
    by_length true = span_in_back break_marked i (min j (length b.line)) gs b.line
    by_length false = refl
