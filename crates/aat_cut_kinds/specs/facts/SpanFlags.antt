-- Break marks over a span flag its glyphs of greater clusters.
use Rattle.std.proofs.Common.{◌≡◌, ◌≢◌, ◌∙◌, ℕ, zero, suc, ◌+◌, ◌-◌, ◌<◌, ◌≤◌, ◌==◌, true, List, [], ◌∷◌, length, min, fold, nat_le, Some, ap, arith, get_or}
use Rattle.std.proofs.lemmas.Bool.Decides.{nat_tests}
use Rattle.std.specs.Prelude.{slice_range}
use Rattle.aat_buffer.specs.Buffer.{Buffer, glyph_at, no_glyph}
use Rattle.aat_buffer.specs.Marks.{break_marked, cluster_at, least_of, marked_above, on_span, unsafe_to_break, with_mask_bits}
use Rattle.aat_buffer.specs.facts.Cases.{chosen}
use Rattle.aat_buffer.specs.facts.Clusters.{get_inside}
use Rattle.aat_buffer.specs.facts.Lines.{length_slice, range_at}
use Rattle.aat_glyph.specs.declared.glyph.hb_glyph_info_t.{hb_glyph_info_t}
use Rattle.aat_cut_kinds.specs.Greater.{IsUnflagged}
use Rattle.aat_cut_kinds.specs.facts.Flags.{flagged}

-- the least cluster of glyphs is at most that of each
least_low : (a k : ℕ) (gs : List hb_glyph_info_t) → (fold (λ (m : ℕ) (g : hb_glyph_info_t). min m g.cluster) a gs ≤ a) × (k < length gs → fold (λ (m : ℕ) (g : hb_glyph_info_t). min m g.cluster) a gs ≤ cluster_at gs k)
least_low a k [] = (omega arith, λ within. absurd (omega (arith, within)))
least_low a zero (g ∷ gs) = let rest = least_low (min a g.cluster) 0 gs in let first = rest.0 in (omega (arith, first), λ within. omega (arith, first))
least_low a (suc k) (g ∷ gs) = let rest = least_low (min a g.cluster) k gs in let first = rest.0 in let more = rest.1 in (omega (arith, first), λ within. more (omega (arith, within)))

-- the least cluster of a span is at most that of each glyph in it
pub least_of_span : (i j a : ℕ) (gs : List hb_glyph_info_t) → i ≤ a → a < j → j ≤ length gs → least_of (slice_range gs i j) ≤ cluster_at gs a
least_of_span i j a gs from to high =
    let read : get_or (slice_range gs i j) (a - i) no_glyph ≡ get_or gs (i + (a - i)) no_glyph = range_at gs i j (a - i) no_glyph (omega (arith, from, to)) in
    let place : i + (a - i) ≡ a = omega (arith, from) in
    let same : cluster_at (slice_range gs i j) (a - i) ≡ cluster_at gs a = ap (λ (g : hb_glyph_info_t). g.cluster) (read ∙ ap (λ k. get_or gs k no_glyph) place) in
    let span = length_slice i j gs (omega (arith, from, to)) high in
    let least = (least_low (cluster_at (slice_range gs i j) 0) (a - i) (slice_range gs i j)).1 (omega (arith, span, from, to)) in
    omega (arith, least, same)

-- marks over a span flag a glyph in it whose cluster is greater than that of another one in it
span_flags : (i j a n : ℕ) (gs : List hb_glyph_info_t) → i ≤ a → a < j → i ≤ n → n < j → j ≤ length gs → cluster_at gs a < cluster_at gs n → IsUnflagged (glyph_at (on_span break_marked i j gs) n) → ⊥
span_flags i j a n gs from to from_n to_n high lower =
    let m : ℕ = least_of (slice_range gs i j) in
    let least = least_of_span i j a gs from to high in
    let below : m < cluster_at gs n = omega (arith, least, lower) in
    let inside : glyph_at (on_span break_marked i j gs) n ≡ marked_above m 3 (glyph_at gs n) = get_inside (marked_above m 3) i j gs (omega (arith, from, to)) high n no_glyph from_n to_n in
    rw inside (chosen (λ (h : hb_glyph_info_t). IsUnflagged h → ⊥) (cluster_at gs n == m) (glyph_at gs n) (with_mask_bits 3 (glyph_at gs n)) (λ is. absurd (grind (arith, nat_tests, is, below))) (λ _ h. flagged (glyph_at gs n).mask h))

-- the same of a buffer
pub unsafe_flags : (i j a n : ℕ) (b : Buffer) → i ≤ a → a < j → i ≤ n → n < j → a ≢ n → a < length b.line → n < length b.line → cluster_at b.line a < cluster_at b.line n → IsUnflagged (glyph_at (unsafe_to_break b (Some i) (Some j)).line n) → ⊥
unsafe_flags i j a n b from to from_n to_n apart within within_n lower =
    let e : ℕ = min j (length b.line) in
    let wide : i + 2 ≤ min j (length b.line) = omega (arith, from, to, from_n, to_n, apart, within, within_n) in
    let long : nat_le (i + 2) e ≡ true = grind (arith, nat_tests, wide) in
    rw long (span_flags i e a n b.line from (omega (arith, to, within)) from_n (omega (arith, to_n, within_n)) (omega arith) lower)
