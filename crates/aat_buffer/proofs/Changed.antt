-- A span of a line that is changed in the cells on both sides of the gap.
use Rattle.std.proofs.Common.{◌≡◌, ◌∙◌, refl, ap, ℕ, ◌<◌, ◌≤◌, ◌+◌, ◌-◌, ◌⊎◌, inl, inr, List, ◌++◌, map, take, drop, length, get_or, max, min, arith}
use Rattle.std.proofs.lemmas.List.{same_lists, places, get_or-map, length-map, take-append-drop}
use Rattle.std.specs.Prelude.{slice_range}
use borrow.Rule.Slice.PartMut.{put_mid}
use Rattle.std.proofs.lemmas.Bool.{cases_lt}
use Rattle.aat_buffer.specs.inside.Gap.{around_gap}
use Rattle.aat_buffer.proofs.Gap.{length-around_gap}

-- f of each element from place s up to place e, and the others as they were
abbrev over : {X : Type 0} → (X → X) → ℕ → ℕ → List X → List X
over f s e xs = take s xs ++ (map f (slice_range xs s e) ++ drop e xs)

part_in_front : {X : Type 0} (xs ws : List X) (i j a b : ℕ) → i ≤ j → j ≤ length xs → a ≤ b → b ≤ i → length ws ≡ b - a → around_gap (put_mid a (b - a) xs ws) i j ≡ take a (around_gap xs i j) ++ (ws ++ drop b (around_gap xs i j))
part_in_front xs ws i j a b le within ordered before count = same_lists _ _ (grind (arith, places)) (λ k d h. grind (arith, places))

part_behind : {X : Type 0} (xs ws : List X) (i j a b c t : ℕ) → i ≤ j → a ≤ b → b + (j - i) ≤ length xs → i ≤ a → c ≡ a + (j - i) → t ≡ b + (j - i) → length ws ≡ b - a → around_gap (put_mid c (t - c) xs ws) i j ≡ take a (around_gap xs i j) ++ (ws ++ drop b (around_gap xs i j))
part_behind xs ws i j a b c t le ordered within behind is_c is_t count = same_lists _ _ (grind (arith, places)) (λ k d h. grind (arith, places))

read_in_front : {X : Type 0} (xs : List X) (i j a b : ℕ) → i ≤ j → j ≤ length xs → a ≤ b → b ≤ i → slice_range xs a b ≡ slice_range (around_gap xs i j) a b
read_in_front xs i j a b le within ordered before = same_lists _ _ (grind (arith, places)) (λ k d h. grind (arith, places))

read_behind : {X : Type 0} (xs : List X) (i j a b c t : ℕ) → i ≤ j → a ≤ b → b + (j - i) ≤ length xs → i ≤ a → c ≡ a + (j - i) → t ≡ b + (j - i) → slice_range xs c t ≡ slice_range (around_gap xs i j) a b
read_behind xs i j a b c t le ordered within behind is_c is_t = same_lists _ _ (grind (arith, places)) (λ k d h. grind (arith, places))

-- an element of a list that is changed throughout
at_map : {X : Type 0} (f : X → X) (xs : List X) (i : ℕ) (d : X) → i < length xs → get_or (map f xs) i d ≡ f (get_or xs i d)
at_map f xs i d lt = get_or-map f xs i d d lt

-- nothing is changed
over_none : {X : Type 0} (f : X → X) (i : ℕ) (xs : List X) → over f i i xs ≡ xs
over_none f i xs =
    let none : i - i ≡ 0 = omega arith in
    rw none (take-append-drop i xs)

-- a span is changed up to place i, and from there on
over_both : {X : Type 0} (f : X → X) (xs : List X) (s i e : ℕ) → s ≤ i → i ≤ e → e ≤ length xs → over f i e (over f s i xs) ≡ over f s e xs
over_both f xs s i e le ordered within = same_lists _ _ (grind (arith, places, length-map)) (λ k d h. grind (arith, places, at_map, length-map))

-- the same, wherever the span lies
over_parts : {X : Type 0} (f : X → X) (xs : List X) (s e i : ℕ) → s ≤ e → e ≤ length xs → over f (max s i) (max e i) (over f (min s i) (min e i) xs) ≡ over f s e xs
over_parts {X} f xs s e i ordered within = over_parts_by (cases_lt e i) (cases_lt s i)
  where
    over_parts_by : (e < i) ⊎ (i ≤ e) → (s < i) ⊎ (i ≤ s) → over f (max s i) (max e i) (over f (min s i) (min e i) xs) ≡ over f s e xs
    over_parts_by (inl low) starts =
        let (a, (b, (c, t))) : (max s i ≡ i) × ((max e i ≡ i) × ((min s i ≡ s) × (min e i ≡ e))) = (omega (arith, low, ordered), (omega (arith, low), (omega (arith, low, ordered), omega (arith, low)))) in
        rw (a, b, c, t) (over_none f i (over f s e xs))
    over_parts_by (inr high) (inr from) =
        let (a, (b, (c, t))) : (max s i ≡ s) × ((max e i ≡ e) × ((min s i ≡ i) × (min e i ≡ i))) = (omega (arith, from), (omega (arith, high), (omega (arith, from), omega (arith, high)))) in
        rw (a, b, c, t) (ap (over f s e) (over_none f i xs))
    over_parts_by (inr high) (inl before) =
        let (a, (b, (c, t))) : (max s i ≡ i) × ((max e i ≡ e) × ((min s i ≡ s) × (min e i ≡ i))) = (omega (arith, before), (omega (arith, high), (omega (arith, before), omega (arith, high)))) in
        rw (a, b, c, t) (over_both f xs s i e (omega (arith, before)) high within)

-- the span is changed before the gap and behind it
pub changed_parts : {X : Type 0} (f : X → X) (xs us vs : List X) (i j s e a b c t : ℕ) → i ≤ j → j ≤ length xs → s ≤ e → e ≤ i + (length xs - j) → a ≡ min s i → b ≡ min e i → c ≡ max s i + (j - i) → t ≡ max e i + (j - i) → us ≡ map f (slice_range xs a b) → vs ≡ map f (slice_range (put_mid a (b - a) xs us) c t) → around_gap (put_mid c (t - c) (put_mid a (b - a) xs us) vs) i j ≡ over f s e (around_gap xs i j)
changed_parts f xs us vs i j s e a b c t le within ordered in_line is_a is_b is_c is_t was_us was_vs =
    let line = around_gap xs i j in
    let half = put_mid a (b - a) xs us in
    let us_count : length us ≡ b - a = ap length was_us ∙ grind (arith, places, length-map) in
    let half_count : length half ≡ length xs = grind (arith, places, us_count) in
    let line_count : length line ≡ i + (length xs - j) = length-around_gap xs i j le within in
    let front : around_gap half i j ≡ over f a b line = part_in_front xs us i j a b le within (omega (arith, is_a, is_b, ordered)) (omega (arith, is_b)) us_count ∙ ap (λ ws. take a line ++ (ws ++ drop b line)) (was_us ∙ ap (map f) (read_in_front xs i j a b le within (omega (arith, is_a, is_b, ordered)) (omega (arith, is_b)))) in
    let vs_count : length vs ≡ max e i - max s i = ap length was_vs ∙ grind (arith, places, length-map, half_count) in
    let behind : around_gap (put_mid c (t - c) half vs) i j ≡ over f (max s i) (max e i) (around_gap half i j) = part_behind half vs i j (max s i) (max e i) c t le (omega (arith, ordered)) (omega (arith, half_count, in_line, le, within)) (omega arith) is_c is_t vs_count ∙ ap (λ ws. take (max s i) (around_gap half i j) ++ (ws ++ drop (max e i) (around_gap half i j))) (was_vs ∙ ap (map f) (read_behind half i j (max s i) (max e i) c t le (omega (arith, ordered)) (omega (arith, half_count, in_line, le, within)) (omega arith) is_c is_t)) in
    behind ∙ ap (over f (max s i) (max e i)) (front ∙ rw (is_a, is_b) refl) ∙ over_parts f line s e i ordered (omega (arith, line_count, in_line))

-- the span is read before the gap and behind it
pub read_parts : {X : Type 0} (xs : List X) (i j s e a b c t : ℕ) → i ≤ j → j ≤ length xs → s ≤ e → e ≤ i + (length xs - j) → a ≡ min s i → b ≡ min e i → c ≡ max s i + (j - i) → t ≡ max e i + (j - i) → slice_range xs a b ++ slice_range xs c t ≡ slice_range (around_gap xs i j) s e
read_parts xs i j s e a b c t le within ordered in_line is_a is_b is_c is_t = rw (is_a, is_b, is_c, is_t) (same_lists _ _ (grind (arith, places)) (λ k d h. grind (arith, places)))
