-- What a glyph of a part of a line shares with that of the whole, and what the marks of pairs keep of it.
use Rattle.std.proofs.Common.{◌≡◌, ◌∙◌, ◌⊎◌, sym, ap, refl, inl, inr, ℕ, suc, ◌+◌, ◌-◌, ◌<◌, ◌≤◌, ◌==◌, Bool, true, false, cond, [], ◌∷◌, length, map, min, fold, arith, nat_le, bit_and, subst}
use Rattle.std.proofs.lemmas.Bool.{cases_lt}
use Rattle.std.proofs.lemmas.Bool.Decides.{nat_tests}
use Rattle.std.specs.Prelude.{slice_range}
use Rattle.aat_buffer.specs.Buffer.{glyph_at, no_glyph}
use Rattle.aat_buffer.specs.Marks.{break_marked, cluster_at, least_of, marked_above, on_long_span, on_span, with_mask_bits}
use Rattle.aat_buffer.specs.facts.Clusters.{get_before, get_behind, get_inside}
use Rattle.aat_buffer.specs.facts.Lines.{length_slice, range_at}
use Rattle.aat_glyph.specs.declared.glyph.hb_glyph_info_t.{hb_glyph_info_t}
use Rattle.aat_run.specs.Switches.{meets}
use Rattle.aat_kerning_machines.specs.KerningLaws.{IsMarkedFrom}
use Rattle.aat_kerning.proofs.CutMarks.{meets_as_before, unflagged_before}
use Rattle.aat_shaped_text.proofs.Bits.{or_right}
use Rattle.aat_shaped_text.proofs.Looks.{plain}
use Rattle.aat_shaped_text.proofs.SpotsRuns.{Glyphs}

-- A glyph of a part is the one of the whole but for its mask; it is kerned where that one is, and marked UNSAFE_TO_BREAK
-- (1) only where that one is.
pub record IsCalmer (whole part : hb_glyph_info_t) : Type 0 where
  pub same : plain part ≡ plain whole
  pub asks : meets part.mask 8 ≡ meets whole.mask 8
  pub calm : bit_and whole.mask 1 ≡ 0 → bit_and part.mask 1 ≡ 0

pub calmer_same : (g h : hb_glyph_info_t) → h ≡ g → IsCalmer g h
calmer_same g h e = record {
  same = ap plain e;
  asks = ap (λ (x : hb_glyph_info_t). meets x.mask 8) e;
  calm = λ clear. ap (λ (x : hb_glyph_info_t). bit_and x.mask 1) e ∙ clear;
}

pub calmer_at : (g h m n : hb_glyph_info_t) → m ≡ g → n ≡ h → IsCalmer g h → IsCalmer m n
calmer_at g h m n e f c = subst (λ (x : hb_glyph_info_t). IsCalmer x n) (sym e) (subst (λ (y : hb_glyph_info_t). IsCalmer g y) (sym f) c)

-- more marks of the whole
pub calmer_marked : (g h n : hb_glyph_info_t) → IsCalmer g h → IsMarkedFrom g n → IsCalmer n h
calmer_marked g h n c m = record {
  same = c.same ∙ sym (ap plain m.2);
  asks = c.asks ∙ sym (ap (λ (x : hb_glyph_info_t). meets x.mask 8) m.2 ∙ meets_as_before g.mask m.0 8 m.1 refl);
  calm = λ clear. c.calm (unflagged_before g n m clear);
}

calmer_both : (g h : hb_glyph_info_t) → IsCalmer g h → IsCalmer (with_mask_bits 3 g) (with_mask_bits 3 h)
calmer_both g h c = record {
  same = c.same;
  asks = meets_as_before h.mask 3 8 refl refl ∙ (c.asks ∙ sym (meets_as_before g.mask 3 8 refl refl));
  calm = λ clear. absurd (let one : 1 ≡ 0 = or_right 1 g.mask 3 clear in omega (arith, one));
}

-- both are marked
calmer_above : (least : ℕ) (g h : hb_glyph_info_t) → IsCalmer g h → IsCalmer (marked_above least 3 g) (marked_above least 3 h)
calmer_above least g h c =
    let same : (g.cluster == least) ≡ (h.cluster == least) = ap (λ (x : hb_glyph_info_t). x.cluster == least) (sym c.same) in
    subst (λ (t : Bool). IsCalmer (marked_above least 3 g) (cond t h (with_mask_bits 3 h))) same (by (g.cluster == least))
  where
    by : (t : Bool) → IsCalmer (cond t g (with_mask_bits 3 g)) (cond t h (with_mask_bits 3 h))
    by true = c
    by false = calmer_both g h c

-- the n glyphs of a part, which begins at place q of a line
abbrev pub IsWithin : ℕ → ℕ → Glyphs → Glyphs → Type 0
IsWithin q n whole part = (i k : ℕ) → k ≡ q + i → i < n → IsCalmer (glyph_at whole k) (glyph_at part i)

-- the least cluster of a span
least_same : (a : ℕ) (gs hs : Glyphs) → length hs ≡ length gs → ((k : ℕ) → k < length gs → cluster_at hs k ≡ cluster_at gs k)
    → fold (λ (m : ℕ) (g : hb_glyph_info_t). min m g.cluster) a hs ≡ fold (λ (m : ℕ) (g : hb_glyph_info_t). min m g.cluster) a gs
least_same a [] [] long each = refl
least_same a [] (h ∷ hs) long each = absurd (omega (arith, long))
least_same a (g ∷ gs) [] long each = absurd (omega (arith, long))
least_same a (g ∷ gs) (h ∷ hs) long each =
    ap (λ c. fold (λ (m : ℕ) (x : hb_glyph_info_t). min m x.cluster) (min a c) hs) (each 0 (omega arith))
    ∙ least_same (min a g.cluster) gs hs (omega (arith, long)) (λ k inside. each (suc k) (omega (arith, inside)))

least_alike : (gs hs : Glyphs) → length hs ≡ length gs → 0 < length gs → ((k : ℕ) → k < length gs → cluster_at hs k ≡ cluster_at gs k) → least_of hs ≡ least_of gs
least_alike gs hs long some each =
    ap (λ c. fold (λ (m : ℕ) (x : hb_glyph_info_t). min m x.cluster) c hs) (each 0 some) ∙ least_same (cluster_at gs 0) gs hs long each

module _ (q n : ℕ) (whole part : Glyphs) (within : IsWithin q n whole part) (long : length part ≡ n) (longer : q + n ≤ length whole) where
  module _ (l e : ℕ) (low : l < e) (high : e ≤ n) where
    least_is : least_of (slice_range part l e) ≡ least_of (slice_range whole (q + l) (q + e))
    least_is =
        let part_long : length (slice_range part l e) ≡ e - l = length_slice l e part (omega (arith, low)) (omega (arith, high, long)) in
        let whole_long : length (slice_range whole (q + l) (q + e)) ≡ e - l =
        length_slice (q + l) (q + e) whole (omega (arith, low)) (omega (arith, high, longer)) ∙ omega arith in
        least_alike (slice_range whole (q + l) (q + e)) (slice_range part l e) (part_long ∙ sym whole_long) (omega (arith, whole_long, low))
        (λ k inside.
        let there : k < e - l = omega (arith, inside, whole_long) in
        let more : q + e - (q + l) ≡ e - l = omega arith in
        let glyph = within (l + k) (q + l + k) (omega arith) (omega (arith, there, high)) in
        ap (λ (g : hb_glyph_info_t). g.cluster) (range_at part l e k no_glyph there)
        ∙ (ap (λ (g : hb_glyph_info_t). g.cluster) glyph.same
        ∙ sym (ap (λ (g : hb_glyph_info_t). g.cluster) (range_at whole (q + l) (q + e) k no_glyph (omega (arith, there, more))))))

    whole_low : q + l ≤ q + e
    whole_low = omega (arith, low)

    part_low : l ≤ e
    part_low = omega (arith, low)

    whole_high : q + e ≤ length whole
    whole_high = omega (arith, high, longer)

    part_high : e ≤ length part
    part_high = omega (arith, high, long)

    span_within : IsWithin q n (on_span break_marked (q + l) (q + e) whole) (on_span break_marked l e part)
    span_within i k at inside =
        subst (λ (least : ℕ). IsCalmer (glyph_at (on_span (map f) (q + l) (q + e) whole) k) (glyph_at (on_span (map (marked_above least 3)) l e part) i)) (sym least_is)
        (by_front (cases_lt i l))
      where
        f : hb_glyph_info_t → hb_glyph_info_t
        f = marked_above (least_of (slice_range whole (q + l) (q + e))) 3

        by_end : l ≤ i → ((i < e) ⊎ (e ≤ i)) → IsCalmer (glyph_at (on_span (map f) (q + l) (q + e) whole) k) (glyph_at (on_span (map f) l e part) i)
        by_end from (inl to) =
            calmer_at (f (glyph_at whole k)) (f (glyph_at part i)) (glyph_at (on_span (map f) (q + l) (q + e) whole) k) (glyph_at (on_span (map f) l e part) i)
            (get_inside f (q + l) (q + e) whole whole_low whole_high k no_glyph (omega (arith, at, from)) (omega (arith, at, to)))
            (get_inside f l e part part_low part_high i no_glyph from to)
            (calmer_above (least_of (slice_range whole (q + l) (q + e))) (glyph_at whole k) (glyph_at part i) (within i k at inside))
        by_end from (inr behind) =
            calmer_at (glyph_at whole k) (glyph_at part i) (glyph_at (on_span (map f) (q + l) (q + e) whole) k) (glyph_at (on_span (map f) l e part) i)
            (get_behind f (q + l) (q + e) whole whole_low whole_high k no_glyph (omega (arith, at, behind)))
            (get_behind f l e part part_low part_high i no_glyph behind) (within i k at inside)

        by_front : ((i < l) ⊎ (l ≤ i)) → IsCalmer (glyph_at (on_span (map f) (q + l) (q + e) whole) k) (glyph_at (on_span (map f) l e part) i)
        by_front (inl before) =
            calmer_at (glyph_at whole k) (glyph_at part i) (glyph_at (on_span (map f) (q + l) (q + e) whole) k) (glyph_at (on_span (map f) l e part) i)
            (get_before f (q + l) (q + e) whole whole_low whole_high k no_glyph (omega (arith, at, before)))
            (get_before f l e part part_low part_high i no_glyph before) (within i k at inside)
        by_front (inr from) = by_end from (cases_lt i e)

  -- the same span is marked in both
  pub long_span_within : (l e : ℕ) → e ≤ n → IsWithin q n (on_long_span break_marked (q + l) (q + e) whole) (on_long_span break_marked l e part)
  long_span_within l e high =
      let test : nat_le (q + l + 2) (q + e) ≡ nat_le (l + 2) e = grind (arith, nat_tests) in
      subst (λ (t : Bool). IsWithin q n (cond t (on_span break_marked (q + l) (q + e) whole) whole) (on_long_span break_marked l e part)) (sym test)
      (by (nat_le (l + 2) e) refl)
    where
      by : (t : Bool) → nat_le (l + 2) e ≡ t
          → IsWithin q n (cond t (on_span break_marked (q + l) (q + e) whole) whole) (cond t (on_span break_marked l e part) part)
      by true is = span_within l e (grind (arith, nat_tests, is)) high
      by false is = within
