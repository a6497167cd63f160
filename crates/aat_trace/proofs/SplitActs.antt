-- Acts on a line in two parts.
use Rattle.std.proofs.Common.{◌≡◌, ◌∙◌, ap, sym, refl, ◌+◌, ◌≤◌, ◌&&◌, ◌++◌, Bool, true, List, ℕ, Option, Some, None, drop, length, take, append_assoc, length-append, arith, nat_le}
use Rattle.std.proofs.lemmas.Bool.Decides.{Decides-eqb, nat_tests}
use Rattle.std.proofs.lemmas.List.{drop-append-le, drop_all, take-append-le, take_all}
use Rattle.std.proofs.lemmas.Slice.Eq.{slice_eq-Decides}
use Rattle.std.specs.Prelude.{nat_eq, if◌then◌else◌}
use Rattle.std.specs.Cmp.Lexicographic.{pointwise}
use Rattle.aat_trace.specs.Replay.{changed_by, has_taken}
use Rattle.aat_trace.specs.declared.traced.TracedAct.{TracedAct}

is_low : (n m : ℕ) → n ≤ m → nat_le n m ≡ true
is_low n m h = grind (arith, nat_tests, h)

-- a list is like itself
alike : (xs : List ℕ) → pointwise nat_eq xs xs ≡ true
alike xs = (slice_eq-Decides Decides-eqb xs xs (pointwise nat_eq xs xs) refl).1 refl

-- what an act leaves, by whether the line has what it takes
abbrev left_where : TracedAct → List ℕ → Bool → Option (List ℕ)
left_where act line taken =
    if taken then Some (take act.place line ++ (act.put.items ++ drop (length act.taken.items) (drop act.place line)))
    else None

-- the first of two parts
taken_front : (n : ℕ) (xs ys : List ℕ) → length xs ≡ n → take n (xs ++ ys) ≡ xs
taken_front n xs ys h =
    let low : n ≤ length xs = omega (arith, h) in
    let high : length xs ≤ n = omega (arith, h) in
    take-append-le n xs ys low ∙ take_all n xs high

-- the second of two parts
left_behind : (n : ℕ) (xs ys : List ℕ) → length xs ≡ n → drop n (xs ++ ys) ≡ ys
left_behind n xs ys h =
    let low : n ≤ length xs = omega (arith, h) in
    let high : length xs ≤ n = omega (arith, h) in
    drop-append-le n xs ys low ∙ ap (λ (zs : List ℕ). zs ++ ys) (drop_all n xs high)

-- an act on a line that has at its place what it takes
pub acted : (act : TracedAct) (line front rest : List ℕ) → length front ≡ act.place → line ≡ front ++ (act.taken.items ++ rest)
    → changed_by act line ≡ Some (front ++ (act.put.items ++ rest))
acted act line front rest at is =
    let taken : List ℕ = act.taken.items in
    let here : take act.place line ≡ front = ap (take act.place) is ∙ taken_front act.place front (taken ++ rest) at in
    let behind : drop act.place line ≡ taken ++ rest = ap (drop act.place) is ∙ left_behind act.place front (taken ++ rest) at in
    let had : take (length taken) (drop act.place line) ≡ taken =
    ap (take (length taken)) behind ∙ taken_front (length taken) taken rest refl in
    let left : drop (length taken) (drop act.place line) ≡ rest =
    ap (drop (length taken)) behind ∙ left_behind (length taken) taken rest refl in
    let long : length line ≡ length front + length (taken ++ rest) = ap length is ∙ length-append front (taken ++ rest) in
    let low : act.place ≤ length line = omega (arith, at, long) in
    let whole : has_taken act line ≡ true =
    ap (λ (t : Bool). t && pointwise nat_eq (take (length taken) (drop act.place line)) taken) (is_low act.place (length line) low)
    ∙ ap (λ (xs : List ℕ). pointwise nat_eq xs taken) had ∙ alike taken in
    ap (left_where act line) whole
    ∙ ap (λ (xs : List ℕ). Some (xs ++ (act.put.items ++ drop (length taken) (drop act.place line)))) here
    ∙ ap (λ (xs : List ℕ). Some (front ++ (act.put.items ++ xs))) left
