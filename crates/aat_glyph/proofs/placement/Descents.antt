-- The descent to a glyph: the greatest number of steps does not matter, and the sum along it.
use Rattle.std.proofs.Common.{◌≡◌, ℕ, zero, suc, ◌<◌, ◌≤◌, refl, sym, ap, ◌∙◌, arith, List, [], ◌∷◌, ◌++◌, map, length, length-append, lit<}
use Rattle.std.specs.Prelude.{ℤ, pos, negsuc, Bool, true, false, cond, nat_lt, Option, None, Some, ◌||◌}
use Rattle.std.specs.Option.{option_map_or}
use Rattle.std.proofs.lemmas.List.{map-append}
use Rattle.std.proofs.lemmas.List.Sums.{fold-append}
use Rattle.aat_glyph.specs.declared.glyph.Direction.{Direction}
use Rattle.aat_glyph.specs.declared.glyph.GlyphPosition.{GlyphPosition}
use Rattle.aat_glyph.specs.placement.Attachments.{Coordinate, at, descent, drawn_offset, earlier, followed, is_across, is_mark, offset, parent, plus, share, share_behind, total}

-- each place is followed by a later one
pub record LeadsBack (next : ℕ → Option ℕ) : Type 0 where
  pub before : (i p : ℕ) → next i ≡ Some p → p < i

-- no place before the first one
none_before : (next : ℕ → Option ℕ) → LeadsBack next → (i : ℕ) → i ≤ 0 → next i ≡ None
none_before next back i first = by (next i) refl
  where
    by : (o : Option ℕ) → next i ≡ o → o ≡ None
    by None e = refl
    by (Some p) e = absurd (let lt : p < i = back.before i p e in omega arith)

-- more steps make no difference
pub descent_alike :
    (next : ℕ → Option ℕ) → LeadsBack next → (n m i : ℕ) → i ≤ n → i ≤ m → descent next n i ≡ descent next m i
descent_alike next back zero zero i within same = refl
descent_alike next back zero (suc m) i within same =
    ap (λ o. option_map_or (λ p. descent next m p ++ i ∷ []) o (i ∷ [])) (sym (none_before next back i within))
descent_alike next back (suc n) zero i within same =
    ap (λ o. option_map_or (λ p. descent next n p ++ i ∷ []) o (i ∷ [])) (none_before next back i same)
descent_alike next back (suc n) (suc m) i within same =
    by (λ p upper lower. descent_alike next back n m p upper lower) (next i) refl
  where
    by : ((p : ℕ) → p ≤ n → p ≤ m → descent next n p ≡ descent next m p) → (o : Option ℕ) → next i ≡ o
        → option_map_or (λ p. descent next n p ++ i ∷ []) o (i ∷ [])
        ≡ option_map_or (λ p. descent next m p ++ i ∷ []) o (i ∷ [])
    by alike None e = refl
    by alike (Some p) e =
        let lt : p < i = back.before i p e in ap (λ xs. xs ++ i ∷ []) (alike p (omega arith) (omega arith))

-- the descent to a place is that to the one before it, and the place itself
pub descent_at :
    (next : ℕ → Option ℕ) → LeadsBack next → (i : ℕ)
    → descent next i i ≡ option_map_or (λ p. descent next p p ++ i ∷ []) (next i) (i ∷ [])
descent_at next back zero =
    ap (λ o. option_map_or (λ p. descent next p p ++ 0 ∷ []) o (0 ∷ [])) (sym (none_before next back 0 (omega arith)))
descent_at next back (suc n) = by (next (suc n)) refl
  where
    by : (o : Option ℕ) → next (suc n) ≡ o
        → option_map_or (λ p. descent next n p ++ suc n ∷ []) o (suc n ∷ [])
        ≡ option_map_or (λ p. descent next p p ++ suc n ∷ []) o (suc n ∷ [])
    by None e = refl
    by (Some p) e =
        let lt : p < suc n = back.before (suc n) p e in
        ap (λ xs. xs ++ suc n ∷ []) (descent_alike next back n p p (omega arith) (omega arith))

-- one more summand
total-append : (xs : List ℤ) (y : ℤ) → 0 < length xs → total (xs ++ y ∷ []) ≡ plus (total xs) y
total-append [] y some = absurd (omega arith)
total-append (x ∷ xs) y some = fold-append plus x xs (y ∷ [])

-- the descent has the place itself
descent_some : (f : ℕ → ℤ) (next : ℕ → Option ℕ) (n i : ℕ) → 0 < length (map f (descent next n i))
descent_some f next zero i = lit< tt
descent_some f next (suc n) i = by (next i)
  where
    by : (o : Option ℕ) → 0 < length (map f (option_map_or (λ p. descent next n p ++ i ∷ []) o (i ∷ [])))
    by None = lit< tt
    by (Some p) = rw (map-append f (descent next n p) (i ∷ []), length-append) (omega arith)

-- an earlier place is before
earlier_before : (i : ℕ) (z : ℤ) (p : ℕ) → earlier i z ≡ Some p → p < i
earlier_before i (negsuc n) p e = cc
earlier_before i (pos q) p e = by (nat_lt q i) refl e
  where
    by : (t : Bool) → nat_lt q i ≡ t → cond t (Some q) None ≡ Some p → p < i
    by true lt e = grind arith
    by false lt e = cc

-- a parent is before
pub parent_before : (d : Direction) (qs : List GlyphPosition) (i p : ℕ) → parent d qs i ≡ Some p → p < i
parent_before d qs i p e = earlier_before i _ p e

-- and so is a glyph that another one follows
pub followed_back : (c : Coordinate) (d : Direction) (qs : List GlyphPosition) → LeadsBack (followed c d qs)
followed_back c d qs = record { before = λ i p e. by i p (is_mark (at qs i) || is_across c d) e }
  where
    by : (i p : ℕ) (t : Bool) → cond t (parent d qs i) None ≡ Some p → p < i
    by i p true e = parent_before d qs i p e
    by i p false e = cc

-- the offset of a glyph is that of the one that it follows, and what it has of its own
pub drawn_offset_at :
    (c : Coordinate) (d : Direction) (qs : List GlyphPosition) (i : ℕ)
    → drawn_offset c d qs i
    ≡ option_map_or (λ p. plus (drawn_offset c d qs p) (share_behind c qs i (Some p))) (followed c d qs i) (offset c (at qs i))
unfolding drawn_offset
drawn_offset_at c d qs i = ap (λ xs. total (map (share c d qs) xs)) (descent_at next (followed_back c d qs) i) ∙ by (next i) refl
  where
    next : ℕ → Option ℕ
    next = followed c d qs

    by : (o : Option ℕ) → next i ≡ o
        → total (map (share c d qs) (option_map_or (λ p. descent next p p ++ i ∷ []) o (i ∷ [])))
        ≡ option_map_or (λ p. plus (total (map (share c d qs) (descent next p p))) (share_behind c qs i (Some p))) o (offset c (at qs i))
    by None e = ap (share_behind c qs i) e
    by (Some p) e =
        ap total (map-append (share c d qs) (descent next p p) (i ∷ []))
        ∙ (total-append _ _ (descent_some (share c d qs) next p p)
        ∙ ap (λ o. plus (total (map (share c d qs) (descent next p p))) (share_behind c qs i o)) e)
