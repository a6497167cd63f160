-- The places at which glyphs that are kept stand, in a line and in its two parts.
use Rattle.std.proofs.Common.{◌≡◌, ◌∙◌, ◌⊎◌, sym, ap, inl, inr, ℕ, zero, suc, ◌+◌, ◌-◌, ◌<◌, ◌≤◌, Bool, true, false, cond, true≢false, List, [], ◌∷◌, ◌++◌, take, drop, length, get_or, arith, take_at}
use Rattle.std.proofs.lemmas.Bool.{cases_lt}
use Rattle.std.proofs.lemmas.List.{get_or-append_right, get_or_append_left, get_or_at, length-append, length-map, map-append, take-append-drop, take-append-le}
use Rattle.aat_buffer.specs.Buffer.{Buffer}
use Rattle.aat_shaped_text.specs.Parts.{shaped_at}
use Rattle.aat_shaped_text.specs.ShapedText.{drawn_glyphs}
use Rattle.aat_shaped_text.proofs.LooksSplit.{stays}
use Rattle.aat_shaped_text.proofs.Places.{PlaceOf, SaysAt, says_at}
use Rattle.aat_shaped_text.proofs.Spots.{Spot}
use Rattle.aat_shaped_text.proofs.SpotsRuns.{Glyphs, spot, spots}

abbrev pub no_spot : Spot
no_spot = (true, 0)

-- one that is kept stands at a place, before which so many are kept
pub record StandsAt (ss : List Spot) (k place : ℕ) : Type 0 where
  pub inside : place < length ss
  pub kept : (get_or ss place no_spot).0 ≡ false
  pub count : stays (take place ss) ≡ k

stays_append : (xs ys : List Spot) → stays (xs ++ ys) ≡ stays xs + stays ys
stays_append [] ys = omega arith
stays_append (x ∷ xs) ys = by (stays_append xs ys) x.0
  where
    by : stays (xs ++ ys) ≡ stays xs + stays ys → (t : Bool)
        → cond t (stays (xs ++ ys)) (suc (stays (xs ++ ys))) ≡ cond t (stays xs) (suc (stays xs)) + stays ys
    by below true = below
    by below false = omega (arith, below)

stays_take : (n : ℕ) (ss : List Spot) → stays (take n ss) ≤ stays ss
stays_take n ss =
    let whole : stays ss ≡ stays (take n ss) + stays (drop n ss) = ap stays (sym (take-append-drop n ss)) ∙ stays_append (take n ss) (drop n ss) in
    omega (arith, whole)

take_past : (xs ys : List Spot) (n k : ℕ) → k ≡ length xs + n → take k (xs ++ ys) ≡ xs ++ take n ys
take_past [] ys n k e = let same : k ≡ n = omega (arith, e) in ap (λ m. take m ys) same
take_past (x ∷ xs) ys n zero e = absurd (omega (arith, e))
take_past (x ∷ xs) ys n (suc k) e = ap (λ zs. x ∷ zs) (take_past xs ys n k (omega (arith, e)))

-- in the first part
pub stands_before : (xs ys : List Spot) (k j place : ℕ) → stays xs ≡ k → j < k → StandsAt (xs ++ ys) j place → StandsAt xs j place
stands_before xs ys k j place all less s = by_side (cases_lt place (length xs))
  where
    by_side : ((place < length xs) ⊎ (length xs ≤ place)) → StandsAt xs j place
    by_side (inl low) = record {
      inside = low;
      kept = ap (λ (z : Spot). z.0) (sym (get_or_append_left xs ys no_spot place low)) ∙ s.kept;
      count = ap stays (sym (take-append-le place xs ys (omega (arith, low)))) ∙ s.count;
    }
    by_side (inr high) =
        let past = take_past xs ys (place - length xs) place (omega (arith, high)) in
        let count : stays xs + stays (take (place - length xs) ys) ≡ j = sym (stays_append xs (take (place - length xs) ys)) ∙ (ap stays (sym past) ∙ s.count) in
        absurd (omega (arith, count, all, less))

-- in the second part
pub stands_behind :
    (xs ys : List Spot) (k i j place : ℕ) → stays xs ≡ k → length xs ≡ i → 0 < j → StandsAt (xs ++ ys) (k + j) place
    → (i ≤ place) × StandsAt ys j (place - i)
stands_behind xs ys k i j place all long some s = by_side (cases_lt place i)
  where
    by_side : ((place < i) ⊎ (i ≤ place)) → (i ≤ place) × StandsAt ys j (place - i)
    by_side (inl low) =
        let front : stays (take place xs) ≡ k + j = ap stays (sym (take-append-le place xs ys (omega (arith, low, long)))) ∙ s.count in
        absurd (omega (arith, front, stays_take place xs, all, some))
    by_side (inr high) =
        let inside = s.inside in
        let past = take_past xs ys (place - i) place (omega (arith, high, long)) in
        let count : stays xs + stays (take (place - i) ys) ≡ k + j = sym (stays_append xs (take (place - i) ys)) ∙ (ap stays (sym past) ∙ s.count) in (
          high,
          record {
            inside = omega (arith, inside, high, long, length-append xs ys);
            kept = ap (λ (z : Spot). z.0) (sym (get_or-append_right xs ys i place no_spot long high)) ∙ s.kept;
            count = omega (arith, count, all);
          },
        )

-- it stands at one place alone
more_stay : (ss : List Spot) (p q : ℕ) → p < q → p < length ss → (get_or ss p no_spot).0 ≡ false → stays (take p ss) < stays (take q ss)
more_stay [] p q less inside kept = absurd (omega (arith, inside))
more_stay (s ∷ ss) p zero less inside kept = absurd (omega (arith, less))
more_stay (s ∷ ss) zero (suc q) less inside kept = by s.0 kept
  where
    by : (t : Bool) → t ≡ false → 0 < cond t (stays (take q ss)) (suc (stays (take q ss)))
    by true is = absurd (true≢false is)
    by false is = omega arith
more_stay (s ∷ ss) (suc p) (suc q) less inside kept = by (more_stay ss p q (omega (arith, less)) (omega (arith, inside)) kept) s.0
  where
    by : stays (take p ss) < stays (take q ss) → (t : Bool)
        → cond t (stays (take p ss)) (suc (stays (take p ss))) < cond t (stays (take q ss)) (suc (stays (take q ss)))
    by below true = below
    by below false = omega (arith, below)

one_place : (ss : List Spot) (k p q : ℕ) → StandsAt ss k p → StandsAt ss k q → p ≡ q
one_place ss k p q s t = by_first (cases_lt p q) (cases_lt q p)
  where
    by_first : ((p < q) ⊎ (q ≤ p)) → ((q < p) ⊎ (p ≤ q)) → p ≡ q
    by_first (inl less) other =
        let more = more_stay ss p q less s.inside s.kept in
        let a = s.count in
        let b = t.count in
        absurd (omega (arith, more, a, b))
    by_first (inr least) (inl less) =
        let more = more_stay ss q p less t.inside t.kept in
        let a = s.count in
        let b = t.count in
        absurd (omega (arith, more, a, b))
    by_first (inr least) (inr most) = omega (arith, least, most)

-- the place of a line
pub stands_of : (gs : Glyphs) (k place : ℕ) → PlaceOf gs k place → StandsAt (spots gs) k place
stands_of gs k place p =
    let whole : spots gs ≡ spots p.front ++ spot p.here ∷ spots p.back = ap spots p.whole ∙ map-append spot p.front (p.here ∷ p.back) in
    let long : length (spots p.front) ≡ place = length-map p.front spot ∙ sym p.stands in
    record {
      inside = omega (arith, ap length whole, length-append (spots p.front) (spot p.here ∷ spots p.back), long);
      kept = ap (λ (ss : List Spot). (get_or ss place no_spot).0) whole
          ∙ (ap (λ (z : Spot). z.0) (get_or_at (spots p.front) (spot p.here) (spots p.back) no_spot place long) ∙ p.kept);
      count = ap (λ (ss : List Spot). stays (take place ss)) whole ∙ (ap stays (take_at (spots p.front) (spot p.here ∷ spots p.back) place long) ∙ p.count);
    }

-- what is drawn of a line says there what the line does
pub says_as_line :
    (may : ℕ → Bool) (b : Buffer) (k place : ℕ) → k < length (drawn_glyphs may b) → StandsAt (spots b.line) k place
    → (shaped_at (drawn_glyphs may b) k).may_break_before ≡ may place
says_as_line may b k place low stands =
    let there : SaysAt may b k = says_at may b k low in
    there.says ∙ ap may (one_place (spots b.line) k there.place place (stands_of b.line k there.place there.at_place) stands)
