-- A part of a line may be broken where the line may be, if none of its glyphs is marked but where that of the line is.
use Rattle.std.proofs.Common.{◌≡◌, ◌∙◌, sym, ap, refl, ℕ, suc, ◌+◌, ◌-◌, ◌<◌, ◌≤◌, ◌==◌, ◌&&◌, ◌||◌, Bool, true, false, not, cond, true≢false, List, [], ◌∷◌, reverse, take, drop, length, get_or, arith, nat_lt, bit_and}
use Rattle.std.proofs.lemmas.Bool.{eqb-true}
use Rattle.std.proofs.lemmas.Bool.Decides.{nat_tests}
use Rattle.std.proofs.lemmas.List.{get_or-drop, get_or-reverse, get_or-take, length-drop, length-reverse, length-take}
use Rattle.std.specs.List.{list_any, prefix_len}
use Rattle.std.specs.Prelude.{take_while}
use Rattle.aat_buffer.specs.Buffer.{glyph_at, no_glyph}
use Rattle.aat_buffer.specs.Marks.{cluster_at}
use Rattle.aat_glyph.specs.declared.glyph.hb_glyph_info_t.{hb_glyph_info_t}
use Rattle.aat_font.specs.declared.plan.Feature.{Feature}
use Rattle.aat_shaped_text.specs.Breaks.{is_unsafe, kept_before, later_run, may_break_at, run_from, run_up_to}
use Rattle.aat_shaped_text.specs.TextFeatures.{ask_evenly}
use Rattle.aat_shaped_text.proofs.BreakPlaces.{four}
use Rattle.aat_shaped_text.proofs.KernedGlyphs.{IsCalmer, IsWithin}
use Rattle.aat_shaped_text.proofs.LaterRuns.{none_of, while_step}
use Rattle.aat_shaped_text.proofs.SpotsRuns.{Glyphs}

-- a glyph has cluster c
abbrev has : ℕ → hb_glyph_info_t → Bool
has c g = g.cluster == c

-- a glyph of the part is safe where that of the line is
safe_too : (g h : hb_glyph_info_t) → IsCalmer g h → is_unsafe g ≡ false → is_unsafe h ≡ false
safe_too g h c safe = by_bit (bit_and g.mask 1 == 0) refl
  where
    by_bit : (t : Bool) → (bit_and g.mask 1 == 0) ≡ t → is_unsafe h ≡ false
    by_bit true is = let clear : bit_and h.mask 1 ≡ 0 = c.calm (eqb-true (bit_and g.mask 1) 0 is) in ap (λ n. not (n == 0)) clear
    by_bit false is = absurd (true≢false (sym (ap not is) ∙ safe))

-- and so are all in a run from the first glyph on
safe_run : (c : ℕ) (gs hs : Glyphs) → length hs ≤ length gs → ((i : ℕ) → i < length hs → IsCalmer (glyph_at gs i) (glyph_at hs i))
    → not (list_any is_unsafe (take_while (has c) gs)) ≡ true → not (list_any is_unsafe (take_while (has c) hs)) ≡ true
safe_run c gs [] long each safe = refl
safe_run c [] (h ∷ hs) long each safe = absurd (omega (arith, long))
safe_run c (g ∷ gs) (h ∷ hs) long each safe =
    by_first (h.cluster == c) refl (safe_run c gs hs (omega (arith, long)) (λ i inside. each (suc i) (omega (arith, inside))))
  where
    first : IsCalmer g h
    first = each 0 (omega arith)

    same : (g.cluster == c) ≡ (h.cluster == c)
    same = ap (λ (x : hb_glyph_info_t). x.cluster == c) (sym first.same)

    by_first : (t : Bool) → (h.cluster == c) ≡ t → (not (list_any is_unsafe (take_while (has c) gs)) ≡ true → not (list_any is_unsafe (take_while (has c) hs)) ≡ true)
        → not (list_any is_unsafe (take_while (has c) (h ∷ hs))) ≡ true
    by_first true is rest =
        let both = none_of is_unsafe g (take_while (has c) gs) (ap (λ zs. not (list_any is_unsafe zs)) (sym (while_step (has c) g gs (same ∙ is))) ∙ safe) in
        ap (λ zs. not (list_any is_unsafe zs)) (while_step (has c) h hs is)
        ∙ (ap (λ (t : Bool). not (t || list_any is_unsafe (take_while (has c) hs))) (safe_too g h first both.0) ∙ rest both.1)
    by_first false is rest = ap (λ (t : Bool). not (list_any is_unsafe (take (cond t (1 + prefix_len (has c) hs) 0) (h ∷ hs)))) is

all_four : (a b c d : Bool) → a ≡ true → b ≡ true → c ≡ true → d ≡ true → (a && b && c && d) ≡ true
all_four true true true true a b c d = refl
all_four false x y z a b c d = a
all_four true false y z a b c d = b
all_four true true false z a b c d = c
all_four true true true false a b c d = d

module _
    (even : Bool) (features : List Feature) (whole part : Glyphs) (q n i p : ℕ) (within : IsWithin q n whole part)
    (long : length part ≡ n) (longer : q + n ≤ length whole) (at : i ≡ q + p) (inside : p < n) (behind_first : 0 < p)
  where
    here : IsCalmer (glyph_at whole i) (glyph_at part p)
    here = within p i at inside

    last : IsCalmer (glyph_at whole (i - 1)) (glyph_at part (p - 1))
    last = within (p - 1) (i - 1) (omega (arith, at, behind_first)) (omega (arith, inside))

    here_is : cluster_at whole i ≡ cluster_at part p
    here_is = ap (λ (g : hb_glyph_info_t). g.cluster) (sym here.same)

    last_is : cluster_at whole (i - 1) ≡ cluster_at part (p - 1)
    last_is = ap (λ (g : hb_glyph_info_t). g.cluster) (sym last.same)

    from_safe : not (list_any is_unsafe (run_from whole i)) ≡ true → not (list_any is_unsafe (run_from part p)) ≡ true
    from_safe safe =
        safe_run (cluster_at part p) (drop i whole) (drop p part) (omega (arith, length-drop i whole, length-drop p part, long, longer, at, inside))
        (λ k low. rw (get_or-drop i whole k no_glyph, get_or-drop p part k no_glyph)
        (within (p + k) (i + k) (omega (arith, at)) (omega (arith, low, length-drop p part, long, inside))))
        (ap (λ c. not (list_any is_unsafe (take_while (has c) (drop i whole)))) (sym here_is) ∙ safe)

    read_back : (gs : Glyphs) (m k : ℕ) → m ≤ length gs → k < m → glyph_at (reverse (take m gs)) k ≡ glyph_at gs (m - 1 - k)
    read_back gs m k most low =
        let taken : length (take m gs) ≡ m = let all = length-take m gs in omega (arith, all, most) in
        get_or-reverse (take m gs) k no_glyph (omega (arith, taken, low))
        ∙ (ap (λ x. get_or (take m gs) (x - 1 - k) no_glyph) taken ∙ get_or-take m gs (m - 1 - k) no_glyph (omega (arith, low)))

    up_to_safe : not (list_any is_unsafe (run_up_to whole (i - 1))) ≡ true → not (list_any is_unsafe (run_up_to part (p - 1))) ≡ true
    up_to_safe safe =
        let there : (i - 1) + 1 ≡ i = omega (arith, at, behind_first) in
        let place : (p - 1) + 1 ≡ p = omega (arith, behind_first) in
        let run : not (list_any is_unsafe (take_while (has (cluster_at part (p - 1))) (reverse (take i whole)))) ≡ true =
        ap (λ c. not (list_any is_unsafe (take_while (has c) (reverse (take i whole))))) (sym last_is)
        ∙ (ap (λ m. not (list_any is_unsafe (take_while (has (cluster_at whole (i - 1))) (reverse (take m whole))))) (sym there) ∙ safe) in
        let whole_long : length (reverse (take i whole)) ≡ i = let a = length-reverse (take i whole) in let b = length-take i whole in omega (arith, a, b, at, longer, inside) in
        let part_long : length (reverse (take p part)) ≡ p = let a = length-reverse (take p part) in let b = length-take p part in omega (arith, a, b, long, inside) in
        ap (λ m. not (list_any is_unsafe (take_while (has (cluster_at part (p - 1))) (reverse (take m part))))) place
        ∙ safe_run (cluster_at part (p - 1)) (reverse (take i whole)) (reverse (take p part)) (omega (arith, whole_long, part_long, at))
        (λ k low. rw (read_back whole i k (omega (arith, at, longer, inside)) (omega (arith, low, part_long, at)), read_back part p k (omega (arith, long, inside)) (omega (arith, low, part_long)))
        (within (p - 1 - k) (i - 1 - k) (omega (arith, at, low, part_long)) (omega (arith, inside)))) run

    run_safe : not (list_any is_unsafe (later_run whole i)) ≡ true → not (list_any is_unsafe (later_run part p)) ≡ true
    run_safe safe =
        by (nat_lt (cluster_at part (p - 1)) (cluster_at part p))
        (ap (λ c. not (list_any is_unsafe (cond (nat_lt c (cluster_at part p)) (run_from whole i) (run_up_to whole (i - 1))))) (sym last_is)
        ∙ (ap (λ c. not (list_any is_unsafe (cond (nat_lt (cluster_at whole (i - 1)) c) (run_from whole i) (run_up_to whole (i - 1))))) (sym here_is) ∙ safe))
      where
        by : (t : Bool) → not (list_any is_unsafe (cond t (run_from whole i) (run_up_to whole (i - 1)))) ≡ true
            → not (list_any is_unsafe (cond t (run_from part p) (run_up_to part (p - 1)))) ≡ true
        by true safe = from_safe safe
        by false safe = up_to_safe safe

    -- where some glyph of the part is kept before it
    pub part_may_break : 0 < kept_before part p → may_break_at even features whole i ≡ true → may_break_at even features part p ≡ true
    part_may_break some may =
        let all = four (nat_lt 0 (kept_before whole i)) (not (cluster_at whole i == cluster_at whole (i - 1)))
        (not (list_any is_unsafe (later_run whole i))) (ask_evenly even features (cluster_at whole (i - 1)) (cluster_at whole i)) may in
        all_four (nat_lt 0 (kept_before part p)) (not (cluster_at part p == cluster_at part (p - 1)))
        (not (list_any is_unsafe (later_run part p))) (ask_evenly even features (cluster_at part (p - 1)) (cluster_at part p))
        (grind (arith, nat_tests, some))
        (ap (λ c. not (c == cluster_at part (p - 1))) (sym here_is) ∙ (ap (λ c. not (cluster_at whole i == c)) (sym last_is) ∙ all.1))
        (run_safe all.2)
        (ap (λ c. ask_evenly even features c (cluster_at part p)) (sym last_is) ∙ (ap (λ c. ask_evenly even features (cluster_at whole (i - 1)) c) (sym here_is) ∙ all.3))
