-- A text with rising clusters that is cut at a cluster.
use Rattle.std.proofs.Common.{◌≡◌, ◌∙◌, sym, ap, refl, ℕ, ◌≤◌, ◌&&◌, Bool, true, false, true≢false, not, cond, List, [], ◌∷◌, ◌++◌, arith, nat_lt}
use Rattle.std.proofs.lemmas.Bool.{and_parts}
use Rattle.std.proofs.lemmas.Bool.Decides.{nat_tests}
use Rattle.aat_shaped_text.specs.Breaks.{is_rising}
use Rattle.aat_shaped_text.specs.Parts.{text_before, text_from}
use Rattle.aat_shaped_text.specs.declared.text.TextGlyph.{TextGlyph}

abbrev pub Text : Type 0
Text = List TextGlyph

-- all clusters of a text pass a test
abbrev pub AllText : (ℕ → Bool) → Text → Type 0
AllText p [] = Unit {0}
AllText p (g ∷ text) = (p g.cluster ≡ true) × AllText p text

-- from a glyph on
from_first : (c : ℕ) (f : TextGlyph) (text : Text) → c ≤ f.cluster → is_rising (f ∷ text) ≡ true → AllText (λ x. not (nat_lt x c)) (f ∷ text)
from_first c f [] low rising = (grind (arith, nat_tests, low), tt)
from_first c f (g ∷ text) low rising =
    let parts = and_parts (not (nat_lt g.cluster f.cluster)) (is_rising (g ∷ text)) rising in
    let step : not (nat_lt g.cluster f.cluster) ≡ true = parts.0 in
    let up : f.cluster ≤ g.cluster = grind (arith, nat_tests, step) in
    (grind (arith, nat_tests, low), from_first c g text (omega (arith, low, up)) parts.1)

rising_tail : (g : TextGlyph) (text : Text) → is_rising (g ∷ text) ≡ true → is_rising text ≡ true
rising_tail g [] rising = refl
rising_tail g (h ∷ text) rising = (and_parts (not (nat_lt h.cluster g.cluster)) (is_rising (h ∷ text)) rising).1

unset : (t : Bool) → not t ≡ true → t ≡ false
unset true e = absurd (true≢false (sym e))
unset false e = refl

-- of a text that is not below a cluster
none_before : (c : ℕ) (text : Text) → AllText (λ x. not (nat_lt x c)) text → text_before c text ≡ []
none_before c [] all = refl
none_before c (g ∷ text) all =
    ap (λ t. cond t (g ∷ text_before c text) (text_before c text)) (unset (nat_lt g.cluster c) all.0) ∙ none_before c text all.1

all_from : (c : ℕ) (text : Text) → AllText (λ x. not (nat_lt x c)) text → text_from c text ≡ text
all_from c [] all = refl
all_from c (g ∷ text) all =
    ap (λ t. cond t (g ∷ text_from c text) (text_from c text)) all.0 ∙ ap (λ ys. g ∷ ys) (all_from c text all.1)

-- a text with rising clusters is what stands before a cluster, and then what stands from there on
pub in_two : (c : ℕ) (text : Text) → is_rising text ≡ true → text_before c text ++ text_from c text ≡ text
in_two c [] rising = refl
in_two c (g ∷ text) rising = by_test (nat_lt g.cluster c) refl (in_two c text (rising_tail g text rising))
  where
    by_test : (t : Bool) → nat_lt g.cluster c ≡ t → text_before c text ++ text_from c text ≡ text
        → cond t (g ∷ text_before c text) (text_before c text) ++ cond (not t) (g ∷ text_from c text) (text_from c text) ≡ g ∷ text
    by_test true is rest = ap (λ xs. g ∷ xs) rest
    by_test false is rest =
        let all = from_first c g text (grind (arith, nat_tests, is)) rising in
        ap (λ xs. xs ++ (g ∷ text_from c text)) (none_before c text all.1) ∙ ap (λ xs. g ∷ xs) (all_from c text all.1)

-- clusters never fall along the front of a text, nor behind it
rising_front : (xs ys : Text) → is_rising (xs ++ ys) ≡ true → is_rising xs ≡ true
rising_front [] ys rising = refl
rising_front (g ∷ []) ys rising = refl
rising_front (g ∷ h ∷ xs) ys rising =
    let parts = and_parts (not (nat_lt h.cluster g.cluster)) (is_rising (h ∷ (xs ++ ys))) rising in
    ap (λ t. t && is_rising (h ∷ xs)) parts.0 ∙ rising_front (h ∷ xs) ys parts.1

rising_behind : (xs ys : Text) → is_rising (xs ++ ys) ≡ true → is_rising ys ≡ true
rising_behind [] ys rising = rising
rising_behind (g ∷ xs) ys rising = rising_behind xs ys (rising_tail g (xs ++ ys) rising)

-- nor along either part
pub rising_parts : (c : ℕ) (text : Text) → is_rising text ≡ true → (is_rising (text_before c text) ≡ true) × (is_rising (text_from c text) ≡ true)
rising_parts c text rising =
    let whole : is_rising (text_before c text ++ text_from c text) ≡ true = ap is_rising (in_two c text rising) ∙ rising in
    (rising_front (text_before c text) (text_from c text) whole, rising_behind (text_before c text) (text_from c text) whole)

-- the clusters of both
pub before_below : (c : ℕ) (text : Text) → AllText (λ x. nat_lt x c) (text_before c text)
before_below c [] = tt
before_below c (g ∷ text) = by_test (nat_lt g.cluster c) refl (before_below c text)
  where
    by_test : (t : Bool) → nat_lt g.cluster c ≡ t → AllText (λ x. nat_lt x c) (text_before c text)
        → AllText (λ x. nat_lt x c) (cond t (g ∷ text_before c text) (text_before c text))
    by_test true is rest = (is, rest)
    by_test false is rest = rest

pub from_above : (c : ℕ) (text : Text) → AllText (λ x. not (nat_lt x c)) (text_from c text)
from_above c [] = tt
from_above c (g ∷ text) = by_test (nat_lt g.cluster c) refl (from_above c text)
  where
    by_test : (t : Bool) → nat_lt g.cluster c ≡ t → AllText (λ x. not (nat_lt x c)) (text_from c text)
        → AllText (λ x. not (nat_lt x c)) (cond (not t) (g ∷ text_from c text) (text_from c text))
    by_test true is rest = rest
    by_test false is rest = (ap not is, rest)
