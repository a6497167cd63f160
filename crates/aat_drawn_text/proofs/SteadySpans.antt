-- Over a span at whose clusters the features of a text ask for the same.
use Rattle.std.proofs.Common.{◌≡◌, ◌∙◌, ap, ap₂, sym, refl, ℕ, zero, suc, ◌-◌, ◌<◌, ◌≤◌, Bool, true, false, not, ◌&&◌, ◌||◌, ◌==◌, List, [], ◌∷◌, All, arith, max, min, inl, inr, lt-ltb, le-ltb}
use Rattle.std.proofs.lemmas.Bool.{and_from, and_parts, cases_lt, leb-true}
use Rattle.std.proofs.lemmas.Bool.Decides.{nat_tests}
use Rattle.std.specs.Prelude.{fold, nat_le, nat_lt, if◌then◌else◌}
use Rattle.std.specs.List.{list_any}
use Rattle.aat_buffer.specs.Marks.{cluster_at}
use Rattle.aat_font.specs.declared.plan.Feature.{Feature}
use Rattle.aat_glyph.specs.declared.glyph.hb_glyph_info_t.{hb_glyph_info_t}
use Rattle.aat_lookup.specs.Truth.{is_alike}
use Rattle.aat_shaped_text.specs.Breaks.{is_unsafe, kept_before, later_run, may_break_at}
use Rattle.aat_shaped_text.specs.TextFeatures.{ask_alike, ask_alike_through, ask_evenly, holds, holds_each, holds_none}
use Rattle.aat_drawn_text.specs.inside.Steady.{IsSteady, KeepsOver, change_of, contains, first_behind, first_from, next_change}
use Rattle.aat_drawn_text.specs.declared.steady.SteadySpan.{SteadySpan}

-- what holds of each element
all_none : {X : Type 0} (P : X → Type 0) → All P []
all_none P k d low = absurd (omega (arith, low))

all_more : {X : Type 0} (P : X → Type 0) (x : X) (xs : List X) → P x → All P xs → All P (x ∷ xs)
all_more P x xs here there zero d low = here
all_more P x xs here there (suc k) d low = there k d (omega (arith, low))

-- ---- a span is made

from_more : (c first cut : ℕ) → first ≤ first_from c first cut
from_more c first cut = grind (arith, nat_tests)

from_cut : (c first cut : ℕ) → cut ≤ c → cut ≤ first_from c first cut
from_cut c first cut high = grind (arith, nat_tests)

-- each cluster of a span is on the same side of a cut as the last one
side : (c first cut x : ℕ) → (cut ≤ c → cut ≤ first) → first ≤ x → x ≤ c → nat_lt x cut ≡ nat_lt c cut
side c first cut x behind from to =
    elim (cases_lt c cut) [
      | inl low ↦ lt-ltb x cut (omega (arith, low)) ∙ sym (lt-ltb c cut low)
      | inr high ↦ le-ltb x cut (omega (arith, behind high)) ∙ sym (le-ltb c cut high)
    ]

keeps_behind : (c first : ℕ) (f : Feature) → (f.start ≤ c → f.start ≤ first) → (f.end ≤ c → f.end ≤ first) → KeepsOver first c f
keeps_behind c first f start end x y x-from x-to y-from y-to = alike x x-from x-to ∙ sym (alike y y-from y-to)
  where
    alike : (x : ℕ) → first ≤ x → x ≤ c → holds x f ≡ holds c f
    alike x from to =
        ap₂ (λ (s e : Bool). not s && (e || f.end == 0xFFFFFFFF)) (side c first f.start x start from to) (side c first f.end x end from to)

-- where a feature begins behind the first cluster of a span and not in it, it holds none of it
keeps_unbegun : (c last : ℕ) (f : Feature) → last < f.start → KeepsOver c last f
keeps_unbegun c last f low x y x-from x-to y-from y-to = none x x-to ∙ sym (none y y-to)
  where
    none : (x : ℕ) → x ≤ last → holds x f ≡ false
    none x to = ap (λ (s : Bool). not s && (nat_lt x f.end || f.end == 0xFFFFFFFF)) (lt-ltb x f.start (omega (arith, low)))

-- where it has begun, and ends behind the span or at the first cluster, it holds all or none of it
keeps_begun : (c last : ℕ) (f : Feature) → f.start ≤ c → (c < f.end → last < f.end) → KeepsOver c last f
keeps_begun c last f high end x y x-from x-to y-from y-to = alike x x-from x-to ∙ sym (alike y y-from y-to)
  where
    ends : (x : ℕ) → c ≤ x → x ≤ last → nat_lt x f.end ≡ nat_lt c f.end
    ends x from to =
        elim (cases_lt c f.end) [
          | inl low ↦ lt-ltb x f.end (omega (arith, end low)) ∙ sym (lt-ltb c f.end low)
          | inr past ↦ le-ltb x f.end (omega (arith, past)) ∙ sym (le-ltb c f.end past)
        ]

    alike : (x : ℕ) → c ≤ x → x ≤ last → holds x f ≡ holds c f
    alike x from to =
        ap₂ (λ (s e : Bool). not s && (e || f.end == 0xFFFFFFFF)) (le-ltb x f.start (omega (arith, high)) ∙ sym (le-ltb c f.start high))
        (ends x from to)

module _ (c : ℕ) where
  next_less : (behind : ℕ) (f : Feature) → next_change c behind f ≤ behind
  next_less behind f = grind (arith, nat_tests)

  next_at : (behind change : ℕ) → c < change → (if nat_lt c change && nat_lt change behind then change else behind) ≤ change
  next_at behind change low = grind (arith, nat_tests)

  all_less : (behind : ℕ) (fs : List Feature) → fold (next_change c) behind fs ≤ behind
  all_less behind [] = omega arith
  all_less behind (f ∷ fs) = omega (arith, all_less (next_change c behind f) fs, next_less behind f)

  -- a span ends before the next change of a feature
  keeps_ahead : (behind end : ℕ) (f : Feature) → end ≤ next_change c behind f → KeepsOver c (end - 1) f
  keeps_ahead behind end f less =
      elim (cases_lt c f.start) [
        | inl low ↦
            let there : change_of c f ≡ f.start = ap (λ (t : Bool). if t then f.start else f.end) (lt-ltb c f.start low) in
            keeps_unbegun c (end - 1) f (omega (arith, low, less, next_at behind f.start low, ap (λ (n : ℕ). if nat_lt c n && nat_lt n behind then n else behind) there))
        | inr high ↦
            let there : change_of c f ≡ f.end = ap (λ (t : Bool). if t then f.start else f.end) (le-ltb c f.start high) in
            keeps_begun c (end - 1) f high (λ low. omega (arith, low, less, next_at behind f.end low, ap (λ (n : ℕ). if nat_lt c n && nat_lt n behind then n else behind) there))
      ]

  all_ahead : (behind : ℕ) (fs : List Feature) → All (KeepsOver c (fold (next_change c) behind fs - 1)) fs
  all_ahead behind [] = all_none (KeepsOver c (behind - 1))
  all_ahead behind (f ∷ fs) =
      let end = fold (next_change c) behind (f ∷ fs) in
      all_more (KeepsOver c (end - 1)) f fs (keeps_ahead behind end f (all_less (next_change c behind f) fs)) (all_ahead (next_change c behind f) fs)

  behind_more : (first : ℕ) (f : Feature) → first ≤ first_behind c first f
  behind_more first f = omega (arith, from_more c (first_from c first f.start) f.end, from_more c first f.start)

  none_less : (first : ℕ) (fs : List Feature) → first ≤ fold (first_behind c) first fs
  none_less first [] = omega arith
  none_less first (f ∷ fs) = omega (arith, none_less (first_behind c first f) fs, behind_more first f)

  reached : (first begin : ℕ) (f : Feature) → first_behind c first f ≤ begin → KeepsOver begin c f
  reached first begin f more =
      keeps_behind c begin f (λ high. omega (arith, more, from_more c (first_from c first f.start) f.end, from_cut c first f.start high))
      (λ high. omega (arith, more, from_cut c (first_from c first f.start) f.end high))

  all_behind : (first : ℕ) (fs : List Feature) → All (KeepsOver (fold (first_behind c) first fs) c) fs
  all_behind first [] = all_none (KeepsOver first c)
  all_behind first (f ∷ fs) =
      let begin = fold (first_behind c) first (f ∷ fs) in
      all_more (KeepsOver begin c) f fs (reached first begin f (none_less (first_behind c first f) fs)) (all_behind (first_behind c first f) fs)

pub steady_from :
    (features : List Feature) (c behind last : ℕ) → behind ≡ fold (next_change c) 0xFFFFFFFF features → last ≡ behind - 1
    → IsSteady features (record { first = c; last = last })
steady_from features c behind last e is = rw is (rw e (all_ahead c 0xFFFFFFFF features))

pub steady_up_to : (features : List Feature) (c first : ℕ) → first ≡ fold (first_behind c) 0 features → IsSteady features (record { first = first; last = c })
steady_up_to features c first e = rw e (all_behind c 0 features)

-- no cluster is in this one
pub steady_nowhere : (features : List Feature) → IsSteady features (record { first = 1; last = 0 })
steady_nowhere features k d low c e c-from c-to e-from e-to = absurd (omega (arith, c-from, c-to))

-- ---- what is asked over it

alike_self : (b : Bool) → is_alike b b ≡ true
alike_self true = refl
alike_self false = refl

one_alike : (f : Feature) (c e : ℕ) → holds c f ≡ holds e f → is_alike (holds c f) (holds e f) ≡ true
one_alike f c e same = ap (λ (b : Bool). is_alike b (holds e f)) same ∙ alike_self (holds e f)

one_through : (f : Feature) (first last low high : ℕ) → KeepsOver first last f → first ≤ low → low ≤ high → high ≤ last → (holds_each low high f || holds_none low high f) ≡ true
one_through f first last low high over from order to = by (holds low f) refl
  where
    by_start : (s : Bool) → nat_lt high f.start ≡ s → holds low f ≡ false → (s || not (holds (max low f.start) f)) ≡ true
    by_start true e none = refl
    by_start false e none =
        let behind : f.start ≤ high = grind (arith, nat_tests) in
        ap not (over (max low f.start) low (grind (arith, nat_tests)) (grind (arith, nat_tests)) from (omega (arith, order, to)) ∙ none)

    by : (b : Bool) → holds low f ≡ b → (holds_each low high f || holds_none low high f) ≡ true
    by true e =
        let there : holds high f ≡ true = over high low (omega (arith, from, order)) to from (omega (arith, order, to)) ∙ e in
        ap₂ (λ (s t : Bool). (s && t) || holds_none low high f) e there
    by false e = ap (λ (s : Bool). (s && holds high f) || holds_none low high f) e ∙ by_start (nat_lt high f.start) refl e

module _ (first last : ℕ) where
  all_alike : (features : List Feature) (c e : ℕ) → All (KeepsOver first last) features → first ≤ c → c ≤ last → first ≤ e → e ≤ last → ask_alike features c e ≡ true
  all_alike [] c e over c-from c-to e-from e-to = refl
  all_alike (f ∷ fs) c e over c-from c-to e-from e-to =
      and_from (is_alike (holds c f) (holds e f)) (ask_alike fs c e) (one_alike f c e (over 0 f (omega arith) c e c-from c-to e-from e-to)) (all_alike fs c e (λ k d low. over (suc k) d (omega (arith, low))) c-from c-to e-from e-to)

  all_through : (features : List Feature) (low high : ℕ) → All (KeepsOver first last) features → first ≤ low → low ≤ high → high ≤ last → ask_alike_through features low high ≡ true
  all_through [] low high over from order to = refl
  all_through (f ∷ fs) low high over from order to =
      and_from (holds_each low high f || holds_none low high f) (ask_alike_through fs low high) (one_through f first last low high (over 0 f (omega arith)) from order to)
      (all_through fs low high (λ k d more. over (suc k) d (omega (arith, more))) from order to)

pub steady_asks :
    (features : List Feature) (span : SteadySpan) (even : Bool) (c e : ℕ) → IsSteady features span → contains span c ≡ true → contains span e ≡ true
    → ask_evenly even features c e ≡ true
steady_asks features span even c e steady c-in e-in =
    let c-parts = and_parts (nat_le span.first c) (nat_le c span.last) c-in in
    let e-parts = and_parts (nat_le span.first e) (nat_le e span.last) e-in in
    let c-from = leb-true span.first c c-parts.0 in
    let c-to = leb-true c span.last c-parts.1 in
    let e-from = leb-true span.first e e-parts.0 in
    let e-to = leb-true e span.last e-parts.1 in
    and_from (ask_alike features c e) (even || ask_alike_through features (min c e) (max c e)) (all_alike span.first span.last features c e steady c-from c-to e-from e-to)
    (by even (all_through span.first span.last features (min c e) (max c e) steady (grind (arith, nat_tests)) (grind (arith, nat_tests)) (grind (arith, nat_tests))))
  where
    by : (t : Bool) → ask_alike_through features (min c e) (max c e) ≡ true → (t || ask_alike_through features (min c e) (max c e)) ≡ true
    by true h = refl
    by false h = h

-- so where no feature is asked the line may be broken before a place as with these
pub rules_same :
    (features : List Feature) (span : SteadySpan) (even : Bool) (line : List hb_glyph_info_t) (i : ℕ) → IsSteady features span
    → contains span (cluster_at line (i - 1)) ≡ true → contains span (cluster_at line i) ≡ true
    → may_break_at even [] line i ≡ may_break_at even features line i
rules_same features span even line i steady before here =
    ap
    (λ (b : Bool). nat_lt 0 (kept_before line i) && not (cluster_at line i == cluster_at line (i - 1)) && not (list_any is_unsafe (later_run line i)) && b)
    (unasked even ∙ sym (steady_asks features span even (cluster_at line (i - 1)) (cluster_at line i) steady before here))
  where
    unasked : (t : Bool) → ask_evenly t [] (cluster_at line (i - 1)) (cluster_at line i) ≡ true
    unasked true = refl
    unasked false = refl
