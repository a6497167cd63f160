-- What marks say of a cut: a pair over it with a value marks the glyph with the greater cluster, and a mask only gains
-- marks.
use Rattle.std.proofs.Common.{◌≡◌, ℕ, zero, suc, ◌+◌, ◌-◌, ◌<◌, ◌≤◌, ◌==◌, not, subst, Bool, true, false, cond, List, [], ◌∷◌, length, drop, min, fold, pos, Some, refl, sym, ap, ◌∙◌, arith, nat_le, bit_and, bit_or}
use Rattle.std.specs.Prelude.{slice_range}
use Rattle.std.specs.Int.{bit_at}
use Rattle.std.specs.Ordering.{int_eq}
use Rattle.std.proofs.lemmas.Bool.Decides.{nat_tests}
use Rattle.std.proofs.lemmas.List.{get_or-take, get_or-drop}
use Rattle.std.proofs.lemmas.Nat.Bits.{bit_at_and, bit_at_or, bit_at_lowest, bit_at-zero, same_from_bits}
use Rattle.aat_buffer.specs.Buffer.{Buffer, no_glyph, glyph_at}
use Rattle.aat_buffer.specs.Marks.{on_span, break_marked, marked_above, with_mask_bits, least_of, cluster_at, on_long_span, unsafe_to_break}
use Rattle.aat_buffer.specs.facts.Cases.{chosen}
use Rattle.aat_buffer.specs.facts.Clusters.{get_inside}
use Rattle.aat_buffer.specs.facts.Lines.{length_slice}
use Rattle.aat_glyph.specs.declared.glyph.hb_glyph_info_t.{hb_glyph_info_t}
use Rattle.aat_run.specs.Switches.{meets}
use Rattle.aat_kerning_machines.specs.KerningLaws.{IsMarkedFrom}
use Rattle.aat_kerning.specs.PairKerning.{kerned, in_stream, cross_stream, PairValues}
use Rattle.aat_kerning.specs.Pairs.{Pair, is_solid}
use Rattle.aat_kerning.proofs.CutMoves.{value_at}
use Rattle.aat_kerning.proofs.CutPairs.{LooksLike}

-- a glyph without UNSAFE_TO_BREAK (1)
abbrev pub IsUnflagged : hb_glyph_info_t → Type 0
IsUnflagged g = bit_and g.mask 1 ≡ 0

-- a flag that is not there afterwards was not there before
pub unflagged_before : (g h : hb_glyph_info_t) → IsMarkedFrom g h → IsUnflagged h → IsUnflagged g
unflagged_before g h m none = same_from_bits (bit_and g.mask 1) 0 bits
  where
    mask : h.mask ≡ bit_or g.mask m.0
    mask = ap (λ (x : hb_glyph_info_t). x.mask) m.2

    bits : (i : ℕ) → bit_at (bit_and g.mask 1) i ≡ bit_at 0 i
    bits i =
        let left : bit_at (bit_and h.mask 1) i ≡ bit_at 0 i = ap (λ n. bit_at n i) none in
        let both : bit_at (bit_and (bit_or g.mask m.0) 1) i ≡ bit_at 0 i = ap (λ n. bit_at (bit_and n 1) i) (sym mask) ∙ left in
        omega (arith, both, bit_at_and (bit_or g.mask m.0) 1 i, bit_at_or g.mask m.0 i, bit_at_and g.mask 1 i, bit_at-zero i)

-- a glyph that was marked has that flag
flagged : (g : hb_glyph_info_t) → bit_and (bit_or g.mask 3) 1 ≡ 0 → ⊥
flagged g none =
    let low : bit_at (bit_and (bit_or g.mask 3) 1) 0 ≡ bit_at 0 0 = ap (λ n. bit_at n 0) none in
    let three : bit_at 3 0 ≡ 1 = bit_at_lowest 3 in
    let one : bit_at 1 0 ≡ 1 = bit_at_lowest 1 in
    omega (arith, low, bit_at_and (bit_or g.mask 3) 1 0, bit_at_or g.mask 3 0, three, one, bit_at-zero 0)

-- a mask that gains marks meets a kern mask without glyph flags as before
pub meets_as_before :
    (m k kern_mask : ℕ) → bit_or k 3 ≡ 3 → bit_and kern_mask 7 ≡ 0 → meets (bit_or m k) kern_mask ≡ meets m kern_mask
meets_as_before m k kern_mask inside free =
    ap (λ n. not (n == 0)) (same_from_bits (bit_and (bit_or m k) kern_mask) (bit_and m kern_mask) bits)
  where
    bits : (i : ℕ) → bit_at (bit_and (bit_or m k) kern_mask) i ≡ bit_at (bit_and m kern_mask) i
    bits i =
        let low : bit_at (bit_or k 3) i ≡ bit_at 3 i = ap (λ n. bit_at n i) inside in
        let seven : bit_at (bit_or 3 7) i ≡ bit_at 7 i = refl in
        let none : bit_at (bit_and kern_mask 7) i ≡ bit_at 0 i = ap (λ n. bit_at n i) free in
        omega (
          arith,
          low,
          seven,
          none,
          bit_at_or k 3 i,
          bit_at_or 3 7 i,
          bit_at_and kern_mask 7 i,
          bit_at-zero i,
          bit_at_and (bit_or m k) kern_mask i,
          bit_at_or m k i,
          bit_at_and m kern_mask i,
        )

-- so kerning sees a marked glyph as it was
pub looks_as_before :
    (skips kern_mask : ℕ) (g h : hb_glyph_info_t) → bit_and kern_mask 7 ≡ 0 → IsMarkedFrom g h
    → LooksLike skips kern_mask g h
looks_as_before skips kern_mask g h free m = record {
  id = ap (λ (x : hb_glyph_info_t). x.glyph_id) m.2;
  solid = ap (is_solid skips) m.2;
  asks = ap (λ (x : hb_glyph_info_t). meets x.mask kern_mask) m.2 ∙ meets_as_before g.mask m.0 kern_mask m.1 free;
}

-- the least of a fold is no more than what it began with
least_from_start : (a : ℕ) (gs : List hb_glyph_info_t) → fold (λ (m : ℕ) (g : hb_glyph_info_t). min m g.cluster) a gs ≤ a
least_from_start a [] = omega arith
least_from_start a (g ∷ gs) = let rest = least_from_start (min a g.cluster) gs in omega (arith, rest)

least_from_each :
    (a : ℕ) (gs : List hb_glyph_info_t) (k : ℕ) → k < length gs
    → fold (λ (m : ℕ) (g : hb_glyph_info_t). min m g.cluster) a gs ≤ cluster_at gs k
least_from_each a [] k low = absurd (omega (arith, low))
least_from_each a (g ∷ gs) zero low = let rest = least_from_start (min a g.cluster) gs in omega (arith, rest)
least_from_each a (g ∷ gs) (suc k) low = least_from_each (min a g.cluster) gs k (omega (arith, low))

-- the least cluster of a span is no more than any of it
least_of_span :
    (gs : List hb_glyph_info_t) (i j k : ℕ) → i ≤ k → k < j → j ≤ length gs
    → least_of (slice_range gs i j) ≤ cluster_at gs k
least_of_span gs i j k from to high =
    let long : length (slice_range gs i j) ≡ j - i = length_slice i j gs (omega (arith, from, to)) high in
    let at : i + (k - i) ≡ k = omega (arith, from) in
    let read : glyph_at (slice_range gs i j) (k - i) ≡ glyph_at gs k =
    get_or-take (j - i) (drop i gs) (k - i) no_glyph (omega (arith, from, to))
    ∙ (get_or-drop i gs (k - i) no_glyph ∙ ap (glyph_at gs) at) in
    let least = least_from_each (cluster_at (slice_range gs i j) 0) (slice_range gs i j) (k - i) (omega (arith, long, from, to)) in
    let same : cluster_at (slice_range gs i j) (k - i) ≡ cluster_at gs k = ap (λ (g : hb_glyph_info_t). g.cluster) read in
    omega (arith, least, same)

-- a glyph of a marked span with a greater cluster than another of it has the flag
span_flagged :
    (gs : List hb_glyph_info_t) (i j great less : ℕ) → i ≤ great → great < j → i ≤ less → less < j → j ≤ length gs
    → cluster_at gs less < cluster_at gs great → IsUnflagged (glyph_at (on_span break_marked i j gs) great) → ⊥
span_flagged gs i j great less from to from_less to_less high order none =
    let least = least_of (slice_range gs i j) in
    let low : least ≤ cluster_at gs less = least_of_span gs i j less from_less to_less high in
    let inside = get_inside (marked_above least 3) i j gs (omega (arith, from, to)) high great no_glyph from to in
    let at : IsUnflagged (marked_above least 3 (glyph_at gs great)) = subst IsUnflagged inside none in
    chosen (λ (g : hb_glyph_info_t). IsUnflagged g → ⊥) (cluster_at gs great == least) (glyph_at gs great)
    (with_mask_bits 3 (glyph_at gs great))
    (λ same _. let e : cluster_at gs great ≡ least = grind (arith, nat_tests, same) in absurd (omega (arith, e, low, order)))
    (λ _ left. flagged (glyph_at gs great) left) at

-- so has one of a pair that is kerned by a value
pub pair_flagged :
    (is_cross : Bool) (values : PairValues) (p : Pair) (b : Buffer) (great less : ℕ)
    → p.left ≤ great → great ≤ p.right → p.left ≤ less → less ≤ p.right → p.right < length b.line
    → cluster_at b.line less < cluster_at b.line great → IsUnflagged (glyph_at (kerned is_cross values p b).line great)
    → int_eq (value_at values b.line p) (pos 0) ≡ true
unfolding kerned
pair_flagged is_cross values p b great less from to from_less to_less high order none =
    let v = value_at values b.line p in
    by_tests (int_eq v (pos 0)) is_cross (cross_stream p v b) (in_stream p v b) refl refl none
  where
    of_line : (gs : List hb_glyph_info_t) → gs ≡ b.line → IsUnflagged (glyph_at (on_long_span break_marked p.left (min (p.right + 1) (length gs)) gs) great) → ⊥
    of_line gs same left =
        let at : IsUnflagged (glyph_at (on_long_span break_marked p.left (min (p.right + 1) (length b.line)) b.line) great) =
        subst (λ (xs : List hb_glyph_info_t). IsUnflagged (glyph_at (on_long_span break_marked p.left (min (p.right + 1) (length xs)) xs) great)) same left in
        let end : min (p.right + 1) (length b.line) ≡ p.right + 1 = omega (arith, high) in
        let here : IsUnflagged (glyph_at (on_long_span break_marked p.left (p.right + 1) b.line) great) =
        subst (λ n. IsUnflagged (glyph_at (on_long_span break_marked p.left n b.line) great)) end at in
        chosen (λ (xs : List hb_glyph_info_t). IsUnflagged (glyph_at xs great) → ⊥) (nat_le (p.left + 2) (p.right + 1))
        (on_span break_marked p.left (p.right + 1) b.line) b.line
        (λ _ unset. span_flagged b.line p.left (p.right + 1) great less from (omega (arith, to)) from_less (omega (arith, to_less)) (omega (arith, high)) order unset)
        (λ short _. one_place (grind (arith, nat_tests, short)))
        here
      where
        one_place : p.right < p.left + 1 → ⊥
        one_place low =
            let same : less ≡ great = omega (arith, low, from, to, from_less, to_less) in
            let equal : cluster_at b.line less ≡ cluster_at b.line great = ap (cluster_at b.line) same in
            omega (arith, equal, order)

    by_tests :
        (t c : Bool) (x y : Buffer) → x.line ≡ b.line → y.line ≡ b.line
        → IsUnflagged (glyph_at (cond t b (unsafe_to_break (cond c x y) (Some p.left) (Some (p.right + 1)))).line great)
        → t ≡ true
    by_tests true c x y e f left = refl
    by_tests false true x y e f left = absurd (of_line x.line e left)
    by_tests false false x y e f left = absurd (of_line y.line f left)
