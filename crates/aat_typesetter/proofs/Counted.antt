-- How many glyphs of a text, along which clusters never fall, are of clusters before one.
use Rattle.std.proofs.Common.{◌≡◌, ℕ, zero, suc, ◌+◌, ◌-◌, ◌<◌, ◌≤◌, ◌&&◌, Bool, true, false, not, List, [], ◌∷◌, length, get_or, take, refl, sym, ap, ◌∙◌, add-one, arith}
use Rattle.std.specs.List.{count_by}
use Rattle.std.specs.List.Sorted.{IsNonDecreasingBy, IsPartitionPoint}
use Rattle.std.specs.Prelude.{nat_lt}
use Rattle.std.proofs.lemmas.Bool.Decides.{nat_tests}
use Rattle.std.proofs.lemmas.List.{take_all}
use Rattle.std.proofs.lemmas.List.Sums.{count_by_more_no, count_by_more_yes}
use Rattle.aat_shaped_text.specs.Breaks.{is_rising}
use Rattle.aat_shaped_text.specs.declared.text.TextGlyph.{TextGlyph}

-- both of two tests
first_of_two : (a b : Bool) → (a && b) ≡ true → a ≡ true
first_of_two true b h = refl
first_of_two false b h = h

second_of_two : (a b : Bool) → (a && b) ≡ true → b ≡ true
second_of_two true b h = h
second_of_two false b h = absurd (cc)

not_below : (p q : ℕ) → not (nat_lt q p) ≡ true → p ≤ q
not_below p q h = grind (arith, nat_tests)

-- no cluster is below that of the first glyph
head_low : (g : TextGlyph) (text : List TextGlyph) → is_rising (g ∷ text) ≡ true → (j : ℕ) (d : TextGlyph) → j < length text → g.cluster ≤ (get_or text j d).cluster
head_low g [] r j d low = absurd (omega (arith, low))
head_low g (h ∷ text) r zero d low = not_below g.cluster h.cluster (first_of_two _ _ r)
head_low g (h ∷ text) r (suc j) d low =
    let here : g.cluster ≤ h.cluster = not_below g.cluster h.cluster (first_of_two _ _ r) in
    let there : h.cluster ≤ (get_or text j d).cluster = head_low h text (second_of_two _ _ r) j d (omega (arith, low)) in
    omega arith

tail_rises : (g : TextGlyph) (text : List TextGlyph) → is_rising (g ∷ text) ≡ true → is_rising text ≡ true
tail_rises g [] r = refl
tail_rises g (h ∷ text) r = second_of_two _ _ r

-- clusters never fall
pub never_falls : (text : List TextGlyph) → is_rising text ≡ true → IsNonDecreasingBy (λ g. g.cluster) text
never_falls [] r i j d le low = absurd (omega (arith, low))
never_falls (g ∷ text) r zero zero d le low = omega arith
never_falls (g ∷ text) r zero (suc j) d le low = head_low g text r j d (omega (arith, low))
never_falls (g ∷ text) r (suc i) zero d le low = absurd (omega (arith, le))
never_falls (g ∷ text) r (suc i) (suc j) d le low = never_falls text (tail_rises g text r) i j d (omega (arith, le)) (omega (arith, low))

module _ {X : Type 0} (p : X → Bool) (xs : List X) (d : X) (i : ℕ) (le : i ≤ length xs)
    (h : IsPartitionPoint (λ y. p y ≡ true) (λ y. p y ≡ false) xs i)
  where
    -- all before the point pass
    passed : (k : ℕ) → k ≤ i → count_by p (take k xs) ≡ k
    passed zero low = refl
    passed (suc k) low =
        let before : count_by p (take k xs) ≡ k = passed k (omega (arith, low)) in
        let here : p (get_or xs k d) ≡ true = h.0 k d (omega arith) (omega (arith, low)) in
        let more : count_by p (take (k + 1) xs) ≡ count_by p (take k xs) + 1 = count_by_more_yes p xs k d (omega (arith, low, le)) here in
        ap (λ (n : ℕ). count_by p (take n xs)) (sym (add-one k)) ∙ (more ∙ omega (arith, before))

    -- and none behind it
    failed : (j : ℕ) → i + j ≤ length xs → count_by p (take (i + j) xs) ≡ i
    failed zero low = ap (λ (n : ℕ). count_by p (take n xs)) (omega arith) ∙ passed i (omega arith)
    failed (suc j) low =
        let before : count_by p (take (i + j) xs) ≡ i = failed j (omega (arith, low)) in
        let here : p (get_or xs (i + j) d) ≡ false = h.1 (i + j) d (omega arith) (omega (arith, low)) in
        let more : count_by p (take (i + j + 1) xs) ≡ count_by p (take (i + j) xs) = count_by_more_no p xs (i + j) d (omega (arith, low)) here in
        ap (λ (n : ℕ). count_by p (take n xs)) (omega arith) ∙ (more ∙ before)

    all_counted : i ≡ count_by p xs
    all_counted =
        let end : i + (length xs - i) ≡ length xs = omega (arith, le) in
        let all : take (i + (length xs - i)) xs ≡ xs = ap (λ (n : ℕ). take n xs) end ∙ take_all (length xs) xs (omega arith) in
        sym (sym (ap (count_by p) all) ∙ failed (length xs - i) (omega (arith, end)))

-- where a test parts a list, so many pass it
pub count_at_point : {X : Type 0} (p : X → Bool) (xs : List X) (i : ℕ) → i ≤ length xs → IsPartitionPoint (λ y. p y ≡ true) (λ y. p y ≡ false) xs i → i ≡ count_by p xs
count_at_point p [] i le h = omega (arith, le)
count_at_point p (x ∷ xs) i le h = all_counted p (x ∷ xs) x i le h
