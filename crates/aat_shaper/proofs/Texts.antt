-- A place of a text whose clusters never fall, at which a cluster begins.
use Rattle.std.proofs.Common.{◌≡◌, ◌∙◌, sym, subst, ℕ, zero, suc, ◌+◌, ◌-◌, ◌<◌, ◌≤◌, true, not, List, arith, drop, get_or, length, inl, inr}
use Rattle.std.proofs.lemmas.Bool.{and_parts, cases_lt, ltb-false, not-true}
use Rattle.std.proofs.lemmas.List.{get_or-drop, get_or-take, get_or_default, length-drop, length-take}
use Rattle.std.specs.Prelude.{nat_lt}
use Rattle.aat_shaped_text.specs.Breaks.{is_rising}
use Rattle.aat_shaped_text.specs.Parts.{cut_before, shaped_at}
use Rattle.aat_shaped_text.specs.declared.text.ShapedGlyph.{ShapedGlyph}
use Rattle.aat_shaped_text.specs.declared.text.TextGlyph.{TextGlyph}
use Rattle.aat_drawn_text.proofs.Rising.{rising_end, rising_step}
use Rattle.aat_shaper.specs.inside.Filling.{IsOpen, IsParted}

module _ (text : List TextGlyph) (d : TextGlyph) (rises : is_rising text ≡ true) where
  rising_on : (i : ℕ) → is_rising (drop i text) ≡ true
  rising_on zero = rises
  rising_on (suc i) =
      elim (cases_lt (suc i) (length text)) [
        | inl low ↦ (and_parts (not (nat_lt (get_or text (suc i) d).cluster (get_or text i d).cluster))
            (is_rising (drop (suc i) text)) (sym (rising_step text i d low) ∙ rising_on i)).1
        | inr past ↦ rising_end text (suc i) (omega (arith, past))
      ]

  next_cluster : (i : ℕ) → suc i < length text → (get_or text i d).cluster ≤ (get_or text (suc i) d).cluster
  next_cluster i low =
      let below = nat_lt (get_or text (suc i) d).cluster (get_or text i d).cluster in
      let both = and_parts (not below) (is_rising (drop (suc i) text)) (sym (rising_step text i d low) ∙ rising_on i) in
      ltb-false (get_or text (suc i) d).cluster (get_or text i d).cluster (not-true below both.0)

  climb : (k i : ℕ) → i + k < length text → (get_or text i d).cluster ≤ (get_or text (i + k) d).cluster
  climb zero i low =
      let same : i ≡ i + 0 = omega arith in
      let here : (get_or text i d).cluster ≤ (get_or text i d).cluster = omega arith in
      subst (λ (j : ℕ). (get_or text i d).cluster ≤ (get_or text j d).cluster) same here
  climb (suc k) i low =
      let first = climb k i (omega (arith, low)) in
      let last = next_cluster (i + k) (omega (arith, low)) in
      let same : suc (i + k) ≡ i + suc k = omega arith in
      subst (λ (j : ℕ). (get_or text i d).cluster ≤ (get_or text j d).cluster) same (omega (arith, first, last))

  later_cluster : (i j : ℕ) → i ≤ j → j < length text → (get_or text i d).cluster ≤ (get_or text j d).cluster
  later_cluster i j le low =
      let same : i + (j - i) ≡ j = omega arith in
      subst (λ (k : ℕ). (get_or text i d).cluster ≤ (get_or text k d).cluster) same (climb (j - i) i (omega (arith, low, same)))

  -- the clusters before a place where one begins are below it, and those from there on are not
  parted_at :
      (i : ℕ) → 0 < i → i < length text → ((get_or text (i - 1) d).cluster ≡ (get_or text i d).cluster → ⊥)
      → IsParted (get_or text i d).cluster i text
  parted_at i some low begins = record {
    below = λ k e lt.
        let inside : k < i = omega (arith, lt, length-take i text) in
        let read = get_or-take i text k e inside ∙ get_or_default text k e d (omega (arith, inside, low)) in
        let before = later_cluster k (i - 1) (omega arith) (omega (arith, low)) in
        let step = later_cluster (i - 1) i (omega arith) low in
        let less : (get_or text k d).cluster < (get_or text i d).cluster = omega (arith, before, step, begins) in
        subst (λ (g : TextGlyph). g.cluster < (get_or text i d).cluster) (sym read) less;
    above = λ k e lt.
        let inside : i + k < length text = omega (arith, lt, length-drop i text) in
        let read = get_or-drop i text k e ∙ get_or_default text (i + k) e d inside in
        subst (λ (g : TextGlyph). (get_or text i d).cluster ≤ g.cluster) (sym read) (climb k i inside);
  }

-- what is drawn of a text may be broken at such a place
pub opening :
    (text : List TextGlyph) (glyphs : List ShapedGlyph) (k i c : ℕ) (d : TextGlyph) → is_rising text ≡ true → 0 < i
    → i < length text → (get_or text i d).cluster ≡ c → ((get_or text (i - 1) d).cluster ≡ c → ⊥) → 0 < k
    → k < length glyphs → (shaped_at glyphs k).may_break_before ≡ true → cut_before glyphs k ≡ c
    → IsOpen text glyphs k i
opening text glyphs k i c d rises some low here begins behind within breaks cut = record {
  behind = behind;
  within = within;
  breaks = breaks;
  parted =
      subst (λ (m : ℕ). IsParted m i text) (here ∙ sym cut)
      (parted_at text d rises i some low (λ e. begins (e ∙ here)));
}
