-- How a gap moves, and what stands round it.
use Rattle.std.proofs.Common.{◌≡◌, ap, Some, ◌∙◌, sym, refl, ℕ, ◌<◌, ◌≤◌, ◌+◌, ◌-◌, List, ◌++◌, take, drop, length, get_or, set, arith, rules}
use Rattle.std.proofs.lemmas.List.{drop_all, append-nil, get_or-append-add, get_or_append_left, length-take-le, drop-drop, same_lists, places, length-append, length-drop, get_or-set_same}
use Rattle.std.proofs.Math.Seq.{take-length}
use Rattle.std.proofs.lemmas.List.Edits.{remove-append_right}
use Rattle.std.proofs.lemmas.Option.{slice_get_read}
use Rattle.std.proofs.lemmas.Bool.{cases_eq}
use Rattle.std.specs.List.{All, slice_get, copy_within, insert, refill, remove, slice_range}
use Rattle.aat_buffer.specs.inside.Gap.{around_gap}

-- the gap moves to the right
pub carried_right : {X : Type 0} (xs : List X) (i j p : ℕ) → i ≤ p → i ≤ j → j + (p - i) ≤ length xs → around_gap (copy_within xs j (j + (p - i)) i) p (j + (p - i)) ≡ around_gap xs i j
carried_right xs i j p le leq within = same_lists _ _ (search (rules, places)) (λ k d h. grind (arith, places))

-- a gap without cells stands anywhere
pub moved_empty : {X : Type 0} (xs : List X) (i p : ℕ) → i ≤ length xs → p ≤ length xs → around_gap xs p p ≡ around_gap xs i i
moved_empty xs i p here there = same_lists _ _ (search (rules, places)) (λ k d h. grind (arith, places))

-- the gap moves to the left
pub carried_left : {X : Type 0} (xs : List X) (i j p : ℕ) → p ≤ i → i ≤ j → j ≤ length xs → around_gap (copy_within xs p i (j - (i - p))) p (j - (i - p)) ≡ around_gap xs i j
carried_left xs i j p le leq within = same_lists _ _ (search (rules, places)) (λ k d h. grind (arith, places))

-- a glyph goes into the gap
pub put_in_gap : {X : Type 0} (xs : List X) (i j : ℕ) (x : X) → i < j → j ≤ length xs → around_gap (set xs i x) (i + 1) j ≡ insert (around_gap xs i j) i x
put_in_gap xs i j x lt within = same_lists _ _ (search (rules, places)) (λ k d h. grind (arith, places, get_or-set_same, cases_eq k i))

-- glyphs go into the gap
pub all_put_in_gap : {X : Type 0} (xs gs : List X) (i j : ℕ) → i + length gs ≤ j → j ≤ length xs → around_gap (take i xs ++ (gs ++ drop (length gs) (drop i xs))) (i + length gs) j ≡ take i (around_gap xs i j) ++ (gs ++ drop i (around_gap xs i j))
all_put_in_gap xs gs i j room within = same_lists _ _ (search (rules, places)) (λ k d h. grind (arith, places))

-- glyphs go in before the gap, into which those between are carried
abbrev carried_before : {X : Type 0} → List X → List X → ℕ → ℕ → List X
carried_before xs gs p i = let ys = copy_within xs p i (p + length gs) in take p ys ++ (gs ++ drop (length gs) (drop p ys))

front_before : {X : Type 0} (xs gs : List X) (p i : ℕ) → p ≤ i → i + length gs ≤ length xs
    → take (i + length gs) (carried_before xs gs p i) ≡ take p xs ++ (gs ++ take (i - p) (drop p xs))
front_before xs gs p i before room = same_lists _ _ (search (rules, places)) (λ k d h. grind (arith, places))

back_before : {X : Type 0} (xs gs : List X) (p i j : ℕ) → p ≤ i → i + length gs ≤ j → j ≤ length xs
    → drop j (carried_before xs gs p i) ≡ drop j xs
back_before xs gs p i j before room within = same_lists _ _ (search (rules, places)) (λ k d h. grind (arith, places))

parts_before : {X : Type 0} (xs gs : List X) (p i j : ℕ) → p ≤ i → i ≤ j → j ≤ length xs
    → (take p xs ++ (gs ++ take (i - p) (drop p xs))) ++ drop j xs ≡ take p (around_gap xs i j) ++ (gs ++ drop p (around_gap xs i j))
parts_before xs gs p i j before le within = same_lists _ _ (search (rules, places)) (λ k d h. grind (arith, places))

pub all_put_before_gap : {X : Type 0} (xs gs : List X) (p i j : ℕ) → p ≤ i → i + length gs ≤ j → j ≤ length xs
    → around_gap (take p (copy_within xs p i (p + length gs)) ++ (gs ++ drop (length gs) (drop p (copy_within xs p i (p + length gs))))) (i + length gs) j
    ≡ take p (around_gap xs i j) ++ (gs ++ drop p (around_gap xs i j))
all_put_before_gap xs gs p i j before room within =
    ap (λ t. t ++ drop j (carried_before xs gs p i)) (front_before xs gs p i before (omega (arith, room, within)))
    ∙ ap (λ t. (take p xs ++ (gs ++ take (i - p) (drop p xs))) ++ t) (back_before xs gs p i j before room within)
    ∙ parts_before xs gs p i j before (omega (arith, room)) within

-- the gap takes the glyph behind it
pub taken_by_gap : {X : Type 0} (xs : List X) (i j : ℕ) → i ≤ j → j < length xs → around_gap xs i (j + 1) ≡ remove (around_gap xs i j) i
taken_by_gap xs i j le within =
    let n : length (take i xs) ≡ i = length-take-le i xs (omega arith) in
    let same : i - i ≡ 0 = omega arith in
    sym (remove-append_right (take i xs) (drop j xs) i i n (omega arith) ∙ rw (same, drop-drop) refl)

-- a write before the gap
pub set_before_gap : {X : Type 0} (xs : List X) (i j k : ℕ) (x : X) → k < i → i ≤ j → j ≤ length xs → around_gap (set xs k x) i j ≡ set (around_gap xs i j) k x
set_before_gap xs i j k x lt le within = same_lists _ _ (search (rules, places)) (λ m d h. grind (arith, places, get_or-set_same, cases_eq m k))

-- a write behind the gap
pub set_behind_gap : {X : Type 0} (xs : List X) (i j k : ℕ) (x : X) → i ≤ k → i ≤ j → k + (j - i) < length xs → around_gap (set xs (k + (j - i)) x) i j ≡ set (around_gap xs i j) k x
set_behind_gap xs i j k x lt le within = same_lists _ _ (search (rules, places)) (λ m d h. grind (arith, places, get_or-set_same, cases_eq m k))

-- what stands before the gap was written anew
front_written : {X : Type 0} (xs ws : List X) (i j : ℕ) → length ws ≡ i → i ≤ j → j ≤ length xs → around_gap (ws ++ drop i xs) i j ≡ ws ++ drop j xs
front_written xs ws i j n le within = same_lists _ _ (search (rules, places)) (λ k d h. grind (arith, places))

-- the whole line stands before the gap
pub whole_front : {X : Type 0} (xs ws : List X) (i j : ℕ) → length ws ≡ i → i ≤ j → j ≡ length xs → around_gap (ws ++ drop i xs) i j ≡ ws
whole_front xs ws i j n le e = front_written xs ws i j n le (omega arith) ∙ rw (drop_all j xs (omega arith)) (append-nil ws)

-- and is what those cells hold
pub whole_line : {X : Type 0} (xs : List X) (i j : ℕ) → j ≡ length xs → around_gap xs i j ≡ take i xs
whole_line xs i j e = rw (drop_all j xs (omega arith)) (append-nil (take i xs))

-- how many cells are not in the gap
pub length-around_gap : {X : Type 0} (xs : List X) (i j : ℕ) → i ≤ j → j ≤ length xs → length (around_gap xs i j) ≡ i + (length xs - j)
length-around_gap xs i j le within = omega (arith, length-append (take i xs) (drop j xs), length-take-le i xs (omega arith), length-drop j xs)

-- other cells, as many, in which the gap stands at the same places
pub line_length : {X : Type 0} (xs ys : List X) (i j : ℕ) → i ≤ j → j ≤ length xs → length ys ≡ length xs → length (around_gap ys i j) ≡ length (around_gap xs i j)
line_length xs ys i j le within same = length-around_gap ys i j le (omega (arith, same)) ∙ rw same (sym (length-around_gap xs i j le within))

-- a read before the gap
pub read_before_gap : {X : Type 0} (xs : List X) (i j k : ℕ) (x : X) → k < i → i ≤ j → j ≤ length xs → x ≡ get_or xs k x → slice_get (around_gap xs i j) k ≡ Some x
read_before_gap xs i j k x lt le within e =
    let r : get_or (around_gap xs i j) k x ≡ get_or xs k x = grind (arith, places) in
    slice_get_read (around_gap xs i j) _ k x refl (omega (arith, length-around_gap xs i j le within)) (e ∙ sym r)

-- a read behind the gap
pub read_behind_gap : {X : Type 0} (xs : List X) (i j k : ℕ) (x : X) → i ≤ k → i ≤ j → k + (j - i) < length xs → x ≡ get_or xs (k + (j - i)) x → slice_get (around_gap xs i j) k ≡ Some x
read_behind_gap xs i j k x lt le within e =
    let r : get_or (around_gap xs i j) k x ≡ get_or xs (k + (j - i)) x = grind (arith, places) in
    slice_get_read (around_gap xs i j) _ k x refl (omega (arith, length-around_gap xs i j le (omega arith))) (e ∙ sym r)

-- a line's whole range is the line
pub whole_range : {X : Type 0} (xs : List X) → slice_range xs 0 (length xs) ≡ xs
whole_range xs = let all : length xs - 0 ≡ length xs = omega arith in ap (λ n. take n xs) all ∙ take-length xs

-- two parts of a line's whole range are the line
pub parts_of_whole : {X : Type 0} (front back xs : List X) (n : ℕ) → front ++ back ≡ slice_range xs 0 n → n ≡ length xs → front ++ back ≡ xs
parts_of_whole front back xs n parts long = parts ∙ (ap (slice_range xs 0) long ∙ whole_range xs)

-- what holds of the cells on both sides holds before the gap
pub all_parts_first : {X : Type 0} (P : X → Type 0) (b c : List X) → All P (b ++ c) → All P b
all_parts_first P b c all = λ k d h. rw (get_or_append_left b c d k h) at (all k d (omega (arith, length-append b c)))

-- and behind it
pub all_parts_second : {X : Type 0} (P : X → Type 0) (b c : List X) → All P (b ++ c) → All P c
all_parts_second P b c all = λ k d h. rw (get_or-append-add b c k d) at (all (length b + k) d (omega (arith, length-append b c)))

-- the cells behind the gap are written anew, as many as there are
pub rest_written : {X : Type 0} (xs ws : List X) (i j n : ℕ) → n ≡ length xs → i ≤ j → j ≤ length xs → around_gap (take n ((take j xs ++ (ws ++ drop (length ws) (drop j xs))) ++ drop (length (take j xs ++ (ws ++ drop (length ws) (drop j xs)))) xs)) i j ≡ take i (around_gap xs i j) ++ refill (length (around_gap xs i j) - i) (drop i (around_gap xs i j)) ws
rest_written xs ws i j n e le within = same_lists _ _ (search (rules, places)) (λ k d h. grind (arith, places))

-- the cells behind the gap are the line from its place on
pub rest_read : {X : Type 0} (xs : List X) (i j n : ℕ) → n ≡ length xs → i ≤ j → j ≤ length xs → slice_range xs j n ≡ drop i (around_gap xs i j)
rest_read xs i j n e le within = same_lists _ _ (search (rules, places)) (λ k d h. grind (arith, places))

-- a glyph that is copied alone
pub one_copied : {X : Type 0} (xs : List X) (i n j : ℕ) (x : X) → n ≡ 1 → i + n ≤ length xs → j + n ≤ length xs → set xs j (get_or xs i x) ≡ copy_within xs i (i + n) j
one_copied xs i n j x one read written = same_lists _ _ (search (rules, places)) (λ k d h. grind (arith, places, get_or-set_same, cases_eq k j))
