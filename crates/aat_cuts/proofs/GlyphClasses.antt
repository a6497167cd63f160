-- The classes that glyphs have.
use Rattle.std.proofs.Common.{◌≡◌, ◌≢◌, ℕ, ◌+◌, ◌<◌, ◌⊎◌, inl, inr, Bool, true, false, cond, eqb, Option, Some, None, option_map, unwrap_or, List, [], ◌∷◌, length, set, find, subst, sym, ap, ◌∙◌, refl, ltb, arith, get_or-set_other, get_or-set_same}
use Rattle.std.specs.List.{All, sum_by}
use Rattle.std.proofs.lemmas.Bool.{cases_eq, eqb-true, lt-ltb}
use Rattle.std.proofs.lemmas.List.Elements.{All-head, All-tail}
use Rattle.std.proofs.lemmas.List.Sums.{sum_by-cons}
use Rattle.aat_lookup.specs.Keys.{at_key, first, value_in}
use Rattle.aat_machine_tables.specs.Table.{TableValue, class_of}
use Rattle.aat_cuts.specs.Reached.{is_labelled}
use Rattle.aat_cuts.specs.Settled.{IsClassOfGlyph}
use Rattle.aat_cuts.specs.inside.Steps.{AreClasses, AreListed, AreOfGlyphs}

module _ (labels : List ℕ) (i : ℕ) (within : i < length labels) where
  -- the class that gets a label has one
  pub labelled_here : is_labelled (set labels i 1) i ≡ true
  labelled_here = lt-ltb 0 _ (omega (arith, get_or-set_same labels i 1 0 within))

  labelled_by : (k : ℕ) → is_labelled labels k ≡ true → (k ≡ i) ⊎ (k ≢ i) → is_labelled (set labels i 1) k ≡ true
  labelled_by k is (inl same) = subst (λ (n : ℕ). is_labelled (set labels i 1) n ≡ true) (sym same) labelled_here
  labelled_by k is (inr other) = ap (ltb 0) (get_or-set_other labels i k 1 0 other) ∙ is

  -- and no class loses one
  pub labelled_still : (k : ℕ) → is_labelled labels k ≡ true → is_labelled (set labels i 1) k ≡ true
  labelled_still k is = labelled_by k is (cases_eq k i)

  sound_by : {E : Type 0} (table : TableValue E) → IsClassOfGlyph table i → AreOfGlyphs table labels → (k : ℕ)
      → (k ≡ i) ⊎ (k ≢ i) → is_labelled (set labels i 1) k ≡ true → IsClassOfGlyph table k
  sound_by table here before k (inl same) is = subst (λ (n : ℕ). IsClassOfGlyph table n) (sym same) here
  sound_by table here before k (inr other) is = before k (sym (ap (ltb 0) (get_or-set_other labels i k 1 0 other)) ∙ is)

  -- where it is that of a glyph, each class with a label is
  pub sound_still : {E : Type 0} (table : TableValue E) → IsClassOfGlyph table i → AreOfGlyphs table labels
      → AreOfGlyphs table (set labels i 1)
  sound_still table here before k is = sound_by table here before k (cases_eq k i) is

not_true : (b : Bool) → (b ≡ true → ⊥) → b ≡ false
not_true false not = refl
not_true true not = absurd (not refl)

above : (pairs : List (ℕ × ℕ)) (g : ℕ) → sum_by first pairs < g → at_key first pairs g ≡ None
above [] g high = refl
above (p ∷ ps) g high =
    let total : sum_by first (p ∷ ps) ≡ first p + sum_by first ps = sum_by-cons first p ps in
    let rest : at_key first ps g ≡ None = above ps g (omega (arith, total, high)) in
    let not : eqb p.0 g ≡ false = not_true (eqb p.0 g) (λ is. absurd (omega (arith, total, high, eqb-true p.0 g is))) in
    rw not rest

find_by : {X : Type 0} (P : X → Type 0) (test : X → Bool) (b : Bool) (y x : X) (rest : Option X) → test y ≡ b → P y
    → (rest ≡ Some x → P x × (test x ≡ true)) → cond b (Some y) rest ≡ Some x → P x × (test x ≡ true)
find_by P test true y x rest passes holds later is =
    let same : y ≡ x = cc in (subst P same holds, ap test (sym same) ∙ passes)
find_by P test false y x rest passes holds later is = later is

-- an element that was found passes, and what holds of each holds of it
find_has : {X : Type 0} (P : X → Type 0) (test : X → Bool) (xs : List X) (x : X) → All P xs → find test xs ≡ Some x
    → P x × (test x ≡ true)
find_has P test [] x all is = cc
find_has P test (y ∷ ys) x all is =
    find_by P test (test y) y x (find test ys) refl (All-head P y ys all) (λ later. find_has P test ys x (All-tail P y ys all) later) is

module _ {E : Type 0} (table : TableValue E) where
  -- class 1 is that of a glyph, since not all glyphs are listed
  pub one_of_glyph : IsClassOfGlyph table 1
  one_of_glyph =
      let g = 65536 + sum_by first table.classes in
      let other : eqb g 65535 ≡ false = not_true (eqb g 65535) (λ is. absurd (omega (arith, eqb-true g 65535 is))) in
      (g, rw (other, above table.classes g (omega arith)) refl)

  -- and so is class 2, that of the deleted glyph
  pub two_of_glyph : IsClassOfGlyph table 2
  two_of_glyph = (65535, refl)

  module _ (labels : List ℕ) (one : is_labelled labels 1 ≡ true) (two : is_labelled labels 2 ≡ true)
      (listed : All (AreListed table labels) table.classes) where
    by_value : (g k : ℕ) (found : Option (ℕ × ℕ)) → eqb g 65535 ≡ false → at_key first table.classes g ≡ found
        → unwrap_or (option_map (λ p. p.1) found) 1 ≡ k → is_labelled labels k ≡ true
    by_value g k None other is value = subst (λ (n : ℕ). is_labelled labels n ≡ true) value one
    by_value g k (Some p) other is value =
        let (at, has) = find_has (AreListed table labels) (λ q. eqb (first q) g) table.classes p listed is in
        let same : p.0 ≡ g = eqb-true p.0 g has in
        let class : class_of table p.0 ≡ Some k = rw (same, other, is) (ap Some value) in
        at k class

    by_glyph : (g k : ℕ) (b : Bool) → eqb g 65535 ≡ b
        → unwrap_or (cond b (Some 2) (value_in table.classes g)) 1 ≡ k → is_labelled labels k ≡ true
    by_glyph g k true is value = subst (λ (n : ℕ). is_labelled labels n ≡ true) value two
    by_glyph g k false is value = by_value g k (at_key first table.classes g) is refl value

    -- the labels are those of the classes of glyphs
    pub classes_labelled : AreOfGlyphs table labels → AreClasses table labels
    classes_labelled sound = record {
      one = one;
      sound = sound;
      each = λ k (g, is). by_glyph g k (eqb g 65535) refl is;
    }
