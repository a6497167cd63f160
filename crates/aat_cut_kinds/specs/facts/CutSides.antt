-- The two sides of a cut that clusters tell apart, and what marks a line there. A mark over a cut flags the glyph with the
-- greater cluster.
use Rattle.std.proofs.Common.{◌≡◌, ◌≢◌, ℕ, zero, suc, ◌+◌, ◌-◌, ◌<◌, ◌≤◌, ◌==◌, ◌&&◌, Bool, true, false, cond, List, [], ◌∷◌, ◌++◌, length, take, drop, min, fold, nat_le, nat_lt, Some, refl, ap, arith, add-one, ◌∙◌, get_or, length-append}
use Rattle.std.proofs.lemmas.Bool.Decides.{nat_tests}
use Rattle.std.proofs.lemmas.List.{get_or_append_left, get_or-append_right, get_or_default}
use Rattle.std.specs.Prelude.{All, slice_range}
use Rattle.aat_buffer.specs.Buffer.{Buffer, glyph_at, no_glyph}
use Rattle.aat_buffer.specs.Clusters.{ComesFrom}
use Rattle.aat_buffer.specs.Marks.{break_marked, cluster_at, least_of, marked_above, on_span, unsafe_to_break, with_mask_bits}
use Rattle.aat_buffer.specs.facts.Cases.{chosen}
use Rattle.aat_buffer.specs.facts.Clusters.{get_inside}
use Rattle.aat_buffer.specs.facts.Lines.{length_slice, range_at}
use Rattle.aat_lookup.specs.declared.glyph_id.GlyphId.{GlyphId}
use Rattle.aat_glyph.specs.declared.glyph.hb_glyph_info_t.{hb_glyph_info_t}
use Rattle.aat_kinds.specs.Insertion.{copies, inserted}
use Rattle.aat_cut_kinds.specs.Greater.{IsUnflagged, clusters}
use Rattle.aat_cut_kinds.specs.facts.Flags.{IsCalm, flagged}

-- a line that is not empty, each of whose clusters is such a one
abbrev pub IsOf : (ℕ → Type 0) → List hb_glyph_info_t → Type 0
IsOf P line = (0 < length line) × All (λ (g : hb_glyph_info_t). P g.cluster) line

-- the clusters before place n, which lies inside the line, are of the front, and those from there on are of the back
pub record IsParted (Front Back : ℕ → Type 0) (n : ℕ) (line : List hb_glyph_info_t) : Type 0 where
  pub before : (k : ℕ) → k < n → Front (cluster_at line k)
  pub behind : (k : ℕ) → n ≤ k → k < length line → Back (cluster_at line k)
  pub inside : n < length line

-- What tells of a line that its cut is marked: no mark takes it away, nor do glyphs that go in, and a mark over the cut
-- makes it so.
pub record IsSided (Front Back : ℕ → Type 0) (Marked : List hb_glyph_info_t → Type 0) : Type 0 where
  pub steady : (old new : List hb_glyph_info_t) → clusters new ≡ clusters old → IsCalm old new → Marked old → Marked new
  pub grows : (new : List GlyphId) (i : ℕ) (behind : Bool) (line : List hb_glyph_info_t) → Marked line → Marked (inserted new i behind line)
  pub over : (i j n : ℕ) (b : Buffer) → IsParted Front Back n b.line → i < n → n < j → Marked (unsafe_to_break b (Some i) (Some j)).line

-- a line of the front, and behind it one of the back
pub parted : (Front Back : ℕ → Type 0) (gs line : List hb_glyph_info_t) → All (λ (g : hb_glyph_info_t). Front g.cluster) gs → IsOf Back line → IsParted Front Back (length gs) (gs ++ line)
parted Front Back gs line front back =
    let long = length-append gs line in
    let some = back.0 in
    record {
      before = λ k below.
          let read : cluster_at (gs ++ line) k ≡ cluster_at gs k = ap (λ (g : hb_glyph_info_t). g.cluster) (get_or_append_left gs line no_glyph k below) in
          rw read (front k no_glyph below);
      behind = λ k above within.
          let read : cluster_at (gs ++ line) k ≡ cluster_at line (k - length gs) = ap (λ (g : hb_glyph_info_t). g.cluster) (get_or-append_right gs line (length gs) k no_glyph refl above) in
          rw read (back.1 (k - length gs) no_glyph (omega (arith, long, above, within)));
      inside = omega (arith, long, some);
    }

-- copies of the glyph at place i go in at place a
abbrev pub put_at : ℕ → ℕ → List GlyphId → List hb_glyph_info_t → List hb_glyph_info_t
put_at a i new line = take a line ++ (copies (glyph_at line i) new ++ drop a line)

-- a run goes in before a glyph, behind one, or at the end of the line
pub inserted_cases : (P : List hb_glyph_info_t → Type 0) (new : List GlyphId) (i : ℕ) (behind : Bool) (line : List hb_glyph_info_t) → (i < length line → P (put_at i i new line)) → (i < length line → P (put_at (suc i) i new line))
    → (length line ≤ i → P (put_at i (length line - 1) new line)) → P (inserted new i behind line)
unfolding inserted
inserted_cases P new i behind line before after past = by_place (nat_lt i (length line)) refl behind
  where
    model : i < length line → min i (length line - 1) ≡ i
    model below = omega (arith, below)

    last : length line ≤ i → min i (length line - 1) ≡ length line - 1
    last beyond = omega (arith, beyond)

    by_place : (t : Bool) → nat_lt i (length line) ≡ t → (u : Bool)
        → P (take (cond (u && t) (i + 1) i) line ++ (copies (glyph_at line (min i (length line - 1))) new ++ drop (cond (u && t) (i + 1) i) line))
    by_place true is true = let below : i < length line = grind (arith, nat_tests, is) in rw (model below, add-one i) (after below)
    by_place true is false = let below : i < length line = grind (arith, nat_tests, is) in rw (model below) (before below)
    by_place false is true = let beyond : length line ≤ i = grind (arith, nat_tests, is) in rw (last beyond) (past beyond)
    by_place false is false = let beyond : length line ≤ i = grind (arith, nat_tests, is) in rw (last beyond) (past beyond)

-- the least cluster of glyphs is at most that of each
least_low : (a k : ℕ) (gs : List hb_glyph_info_t) → (fold (λ (m : ℕ) (g : hb_glyph_info_t). min m g.cluster) a gs ≤ a) × (k < length gs → fold (λ (m : ℕ) (g : hb_glyph_info_t). min m g.cluster) a gs ≤ cluster_at gs k)
least_low a k [] = (omega arith, λ within. absurd (omega (arith, within)))
least_low a zero (g ∷ gs) = let rest = least_low (min a g.cluster) 0 gs in let first = rest.0 in (omega (arith, first), λ within. omega (arith, first))
least_low a (suc k) (g ∷ gs) = let rest = least_low (min a g.cluster) k gs in let first = rest.0 in let more = rest.1 in (omega (arith, first), λ within. more (omega (arith, within)))

-- marks over a span flag a glyph in it whose cluster is greater than that of another one in it
span_flags : (i j a n : ℕ) (gs : List hb_glyph_info_t) → i ≤ a → a < j → i ≤ n → n < j → j ≤ length gs → cluster_at gs a < cluster_at gs n → IsUnflagged (glyph_at (on_span break_marked i j gs) n) → ⊥
span_flags i j a n gs from to from_n to_n high lower =
    let m : ℕ = least_of (slice_range gs i j) in
    let read : get_or (slice_range gs i j) (a - i) no_glyph ≡ get_or gs (i + (a - i)) no_glyph = range_at gs i j (a - i) no_glyph (omega (arith, from, to)) in
    let place : i + (a - i) ≡ a = omega (arith, from) in
    let same : cluster_at (slice_range gs i j) (a - i) ≡ cluster_at gs a = ap (λ (g : hb_glyph_info_t). g.cluster) (read ∙ ap (λ k. get_or gs k no_glyph) place) in
    let span = length_slice i j gs (omega (arith, from, to)) high in
    let least = (least_low (cluster_at (slice_range gs i j) 0) (a - i) (slice_range gs i j)).1 (omega (arith, span, from, to)) in
    let below : m < cluster_at gs n = omega (arith, least, same, lower) in
    let inside : glyph_at (on_span break_marked i j gs) n ≡ marked_above m 3 (glyph_at gs n) = get_inside (marked_above m 3) i j gs (omega (arith, from, to)) high n no_glyph from_n to_n in
    rw inside (chosen (λ (h : hb_glyph_info_t). IsUnflagged h → ⊥) (cluster_at gs n == m) (glyph_at gs n) (with_mask_bits 3 (glyph_at gs n)) (λ is. absurd (grind (arith, nat_tests, is, below))) (λ _ h. flagged (glyph_at gs n).mask h))

-- the same of a buffer
pub unsafe_flags : (i j a n : ℕ) (b : Buffer) → i ≤ a → a < j → i ≤ n → n < j → a ≢ n → a < length b.line → n < length b.line → cluster_at b.line a < cluster_at b.line n → IsUnflagged (glyph_at (unsafe_to_break b (Some i) (Some j)).line n) → ⊥
unsafe_flags i j a n b from to from_n to_n apart within within_n lower =
    let e : ℕ = min j (length b.line) in
    let wide : i + 2 ≤ min j (length b.line) = omega (arith, from, to, from_n, to_n, apart, within, within_n) in
    let long : nat_le (i + 2) e ≡ true = grind (arith, nat_tests, wide) in
    rw long (span_flags i e a n b.line from (omega (arith, to, within)) from_n (omega (arith, to_n, within_n)) (omega arith) lower)

-- what holds of the clusters of a line holds of those of one that comes from it
pub all_from : (P : ℕ → Type 0) (old new : List hb_glyph_info_t) → ComesFrom old new → All (λ (g : hb_glyph_info_t). P g.cluster) old → All (λ (g : hb_glyph_info_t). P g.cluster) new
all_from P old new from all k d within =
    let source = from k within in
    let here : P (cluster_at new k) = rw source.2 (all source.0 no_glyph source.1) in
    rw (get_or_default new k d no_glyph within) here
