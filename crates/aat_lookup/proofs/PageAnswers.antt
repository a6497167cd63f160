-- Pages of 256 glyphs.
use Rattle.std.proofs.Common.{◌≡◌, ℕ, zero, suc, ◌+◌, ◌-◌, ◌*◌, ◌/◌, ◌%◌, ◌<◌, ◌≤◌, ◌⊎◌, inl, inr, List, [], ◌∷◌, ◌++◌, length, get_or, Some, None, Option, option_map, Bool, true, false, ltb, leb, ◌&&◌, ◌||◌, ap, refl, sym, ◌∙◌, arith, length-append}
use Rattle.std.specs.List.{list_any}
use Rattle.std.proofs.lemmas.Bool.{cases_lt, false≢true}
use Rattle.std.proofs.lemmas.Bool.Decides.{nat_tests}
use Rattle.std.proofs.lemmas.List.{get_or_append_left, get_or_default, get_or_past, get_or_push}
use Rattle.std.proofs.lemmas.List.Folds.{list_any_at}
use Rattle.aat_lookup.specs.Keys.{first, value_in, IsRising}
use Rattle.aat_lookup.specs.inside.Dense.{on_page, page_holds, AnswersOnPages, AreKept}
use Rattle.aat_lookup.specs.inside.Walks.{AreBelow, AreNotBelow}
use Rattle.aat_lookup.specs.facts.Search.{at_key_none}
use Rattle.aat_lookup.specs.facts.Walks.{not_below_from}

module _ {X : Type 0} (p : X → Bool) where
  none_passes : (xs : List X) → ((i : ℕ) (d : X) → i < length xs → p (get_or xs i d) ≡ false) → false ≡ list_any p xs
  none_passes [] fails = refl
  none_passes (x ∷ xs) fails =
      let later = none_passes xs (λ i d lt. fails (suc i) d (omega arith)) in
      rw (fails 0 x (omega arith)) later

  fails_head : (a b : Bool) → (a || b) ≡ false → (a ≡ false) × (b ≡ false)
  fails_head true b h = cc
  fails_head false b h = (refl, h)

  each_fails : (xs : List X) → list_any p xs ≡ false → (i : ℕ) (d : X) → i < length xs → p (get_or xs i d) ≡ false
  each_fails [] none i d lt = absurd (omega arith)
  each_fails (x ∷ xs) none zero d lt = (fails_head (p x) (list_any p xs) none).0
  each_fails (x ∷ xs) none (suc i) d lt =
      each_fails xs (fails_head (p x) (list_any p xs) none).1 i d (omega arith)

module _ (pairs : List (ℕ × ℕ)) (lowest : ℕ) where
  outside : (p : ℕ × ℕ) → (p.0 < lowest) ⊎ (lowest + 256 ≤ p.0) → (leb lowest p.0 && ltb p.0 (lowest + 256)) ≡ false
  outside p (inl low) = grind (arith, nat_tests)
  outside p (inr high) = grind (arith, nat_tests)

  inside : (p : ℕ × ℕ) → lowest ≤ p.0 → p.0 < lowest + 256 → (leb lowest p.0 && ltb p.0 (lowest + 256)) ≡ true
  inside p low high = grind (arith, nat_tests)

  beside :
      (place i : ℕ) (d : ℕ × ℕ) → AreBelow first pairs place lowest → AreNotBelow first pairs place (lowest + 256)
      → (i < place) ⊎ (place ≤ i) → i < length pairs
      → (first (get_or pairs i d) < lowest) ⊎ (lowest + 256 ≤ first (get_or pairs i d))
  beside place i d before behind (inl low) lt = inl (before i d low lt)
  beside place i d before behind (inr high) lt = inr (behind i d high lt)

  -- no glyph of a page is among pairs that stand before it or behind it
  pub page_empty :
      (place : ℕ) → AreBelow first pairs place lowest → AreNotBelow first pairs place (lowest + 256)
      → false ≡ page_holds pairs lowest
  page_empty place before behind =
      none_passes (λ (p : ℕ × ℕ). leb lowest p.0 && ltb p.0 (lowest + 256)) pairs (λ i d lt. outside (get_or pairs i d) (beside place i d before behind (cases_lt i place) lt))

  -- the glyph of the pair at a place is on the page
  page_found :
      (place : ℕ) (d : ℕ × ℕ) → place < length pairs → lowest ≤ first (get_or pairs place d)
      → first (get_or pairs place d) < lowest + 256 → true ≡ page_holds pairs lowest
  page_found place d lt low high =
      sym (list_any_at (λ (p : ℕ × ℕ). leb lowest p.0 && ltb p.0 (lowest + 256)) pairs place d lt (inside (get_or pairs place d) low high))

  page_decided :
      (place : ℕ) (d : ℕ × ℕ) → IsRising first pairs → AreBelow first pairs place lowest → place < length pairs
      → lowest ≤ first (get_or pairs place d)
      → (first (get_or pairs place d) - lowest < 256) ⊎ (256 ≤ first (get_or pairs place d) - lowest)
      → ltb (first (get_or pairs place d) - lowest) 256 ≡ page_holds pairs lowest
  page_decided place d rising before lt low (inl near) =
      let close : ltb (first (get_or pairs place d) - lowest) 256 ≡ true = grind (arith, nat_tests) in
      close ∙ page_found place d lt low (omega arith)
  page_decided place d rising before lt low (inr far) =
      let far_off : ltb (first (get_or pairs place d) - lowest) 256 ≡ false = grind (arith, nat_tests) in
      let x = get_or pairs place d in
      far_off ∙ page_empty place before (not_below_from first pairs rising place (lowest + 256) x lt (get_or_default pairs place d x lt) (omega arith))

  -- the pair at the place to which a walk has come decides it
  pub page_tested :
      (place : ℕ) (d : ℕ × ℕ) → IsRising first pairs → AreBelow first pairs place lowest → AreNotBelow first pairs place lowest
      → place < length pairs → ltb (first (get_or pairs place d) - lowest) 256 ≡ page_holds pairs lowest
  page_tested place d rising before behind lt =
      page_decided place d rising before lt (behind place d (omega arith) lt) (cases_lt (first (get_or pairs place d) - lowest) 256)

  not_listed : (p : ℕ × ℕ) (k : ℕ) → k < 256 → (leb lowest p.0 && ltb p.0 (lowest + 256)) ≡ false → first p ≡ lowest + k → ⊥
  not_listed p k lt off e =
      let yes = inside p (omega (arith, e)) (omega (arith, e)) in
      absurd (false≢true (sym off ∙ yes))

  -- a page that holds no glyph gives none a value
  pub page_absent : page_holds pairs lowest ≡ false → (k : ℕ) → k < 256 → None ≡ value_in pairs (lowest + k)
  page_absent none k lt =
      sym (ap (option_map (λ (p : ℕ × ℕ). p.1)) (at_key_none first pairs (lowest + k) (λ i d within. not_listed (get_or pairs i d) k lt (each_fails (λ (p : ℕ × ℕ). leb lowest p.0 && ltb p.0 (lowest + 256)) pairs none i d within))))

-- cells that are kept are kept on their pages
pub page_kept :
    (cells longer : List (Option ℕ)) (page : Option ℕ) (k : ℕ)
    → ((start : ℕ) → page ≡ Some start → start + 256 ≤ length cells)
    → ((i : ℕ) → i < length cells → get_or longer i None ≡ get_or cells i None)
    → k < 256 → on_page longer page k ≡ on_page cells page k
page_kept cells longer None k within kept lt = refl
page_kept cells longer (Some start) k within kept lt = kept (start + k) (omega (arith, within start refl))

module _ (starts more : List (Option ℕ)) (cells longer : List (Option ℕ)) (page : Option ℕ) (n : ℕ)
    (pushed : more ≡ starts ++ page ∷ []) (long : length starts ≡ n)
    (kept : (i : ℕ) → i < length cells → get_or longer i None ≡ get_or cells i None) where
  earlier : (p : ℕ) → p < n → get_or more p None ≡ get_or starts p None
  earlier p lt = ap (λ zs. get_or zs p None) pushed ∙ get_or_append_left starts (page ∷ []) None p (omega (arith, long))

  newest : (p : ℕ) → n ≡ p → get_or more p None ≡ page
  newest p same = ap (λ zs. get_or zs p None) pushed ∙ get_or_push starts page None p (long ∙ same)

  kept_at :
      (p start : ℕ) → AreKept starts cells → ((start : ℕ) → page ≡ Some start → start + 256 ≤ length longer)
      → length cells ≤ length longer → (p < n) ⊎ (n ≤ p) → p < n + 1 → get_or more p None ≡ Some start
      → start + 256 ≤ length longer
  kept_at p start before here le (inl lt) within is = omega (arith, before p start (sym (earlier p lt) ∙ is))
  kept_at p start before here le (inr high) within is = here start (sym (newest p (omega arith)) ∙ is)

  past_none : (p start : ℕ) → n < p → get_or more p None ≡ Some start → ⊥
  past_none p start high is =
      let past : get_or more p None ≡ None = ap (λ zs. get_or zs p None) pushed ∙ get_or_past (starts ++ page ∷ []) p None (omega (arith, long, length-append starts (page ∷ []))) in
      let wrong : None ≡ Some start = sym past ∙ is in
      cc

  by_place :
      (p start : ℕ) → AreKept starts cells → ((start : ℕ) → page ≡ Some start → start + 256 ≤ length longer)
      → length cells ≤ length longer → get_or more p None ≡ Some start → (p < n + 1) ⊎ (n + 1 ≤ p)
      → start + 256 ≤ length longer
  by_place p start before here le is (inl within) = kept_at p start before here le (cases_lt p n) within is
  by_place p start before here le is (inr past) = absurd (past_none p start (omega arith) is)

  -- one page more has its cells
  pub kept_pages :
      AreKept starts cells → ((start : ℕ) → page ≡ Some start → start + 256 ≤ length longer)
      → length cells ≤ length longer → AreKept more longer
  kept_pages before here le p start is = by_place p start before here le is (cases_lt p (n + 1))

  module _ (f : ℕ → Option ℕ) (cells_kept : AreKept starts cells)
      (before : (p k : ℕ) → p < n → k < 256 → on_page cells (get_or starts p None) k ≡ f (p * 256 + k))
      (here : (k : ℕ) → k < 256 → on_page longer page k ≡ f (n * 256 + k)) where
    page_at : (p k : ℕ) → (p < n) ⊎ (n ≤ p) → p < n + 1 → k < 256 → on_page longer (get_or more p None) k ≡ f (p * 256 + k)
    page_at p k (inl lt) within small =
        ap (λ s. on_page longer s k) (earlier p lt)
        ∙ page_kept cells longer (get_or starts p None) k (λ start is. cells_kept p start is) kept small
        ∙ before p k lt small
    page_at p k (inr high) within small =
        let same : n ≡ p = omega arith in
        ap (λ s. on_page longer s k) (newest p same) ∙ here k small ∙ ap (λ q. f (q * 256 + k)) same

    -- one page more with its values
    pub values_more : (p k : ℕ) → p < n + 1 → k < 256 → on_page longer (get_or more p None) k ≡ f (p * 256 + k)
    values_more p k within small = page_at p k (cases_lt p n) within small

-- all 256 pages
pub pages_answer :
    (starts cells : List (Option ℕ)) (pairs : List (ℕ × ℕ))
    → ((p k : ℕ) → p < 256 → k < 256 → on_page cells (get_or starts p None) k ≡ value_in pairs (p * 256 + k))
    → AnswersOnPages starts cells pairs
pages_answer starts cells pairs values glyph lt =
    let same : glyph / 256 * 256 + glyph % 256 ≡ glyph = omega arith in
    values (glyph / 256) (glyph % 256) (omega arith) (omega arith) ∙ ap (λ g. value_in pairs g) same
