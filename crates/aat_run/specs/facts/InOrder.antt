-- Runs one after another.
use Rattle.std.proofs.Common.{drop, ◌≡◌, ◌∙◌, ap, sym, ℕ, arith, ◌<◌, ◌+◌, List, [], ◌∷◌, ◌++◌, take, length, get_or, ◌*◌, ◌≤◌}
use Rattle.std.proofs.lemmas.List.{take_more, take-append-drop}
use Rattle.std.proofs.lemmas.List.Sums.{fold_push, fold-append}
use Rattle.aat_buffer.specs.Buffer.{Buffer}
use Rattle.aat_run.specs.Outcome.{Outcome, in_order, then_run, untouched}
use Rattle.std.specs.Prelude.{fold}
use Rattle.aat_run.specs.Budget.{extent}
use Rattle.aat_run.specs.Laws.{IsBounded}

-- one run more, of x, which is the element at place i
pub in_order_more : {X : Type 0} (run : X → Buffer → Outcome) (xs : List X) (i : ℕ) (x : X) (b : Buffer) → i < length xs → x ≡ get_or xs i x → in_order run (take (i + 1) xs) b ≡ then_run (in_order run (take i xs) b) (run x)
in_order_more run xs i x b below read =
    ap (λ ys. in_order run ys b) (take_more xs i x below ∙ ap (λ y. take i xs ++ (y ∷ [])) (sym read))
    ∙ fold_push (λ o y. then_run o (run y)) (untouched b) (take i xs) x

pub stays_is_bounded : (b : Buffer) → IsBounded b (untouched b)
stays_is_bounded b = record { turns = omega arith; extent = omega arith; length = omega arith }

-- bounded runs one after another, behind what was run before
folded_is_bounded : {X : Type 0} (run : X → Buffer → Outcome) (xs : List X) (o : Outcome) (n : ℕ) → ((x : X) (b : Buffer) → IsBounded b (run x b)) → extent o.buffer ≤ n
    → ((fold (λ o x. then_run o (run x)) o xs).turns ≤ o.turns + length xs * (n + 1)) × (extent (fold (λ o x. then_run o (run x)) o xs).buffer ≤ n)
folded_is_bounded run [] o n each low = (omega arith, low)
folded_is_bounded run (x ∷ xs) o n each low =
    let k = each x o.buffer in
    let more = folded_is_bounded run xs (then_run o (run x)) n each (omega (arith, k.extent, low)) in
    (omega (arith, k.turns, low, more.0), more.1)

-- bounded runs in order
pub in_order_is_bounded : {X : Type 0} (run : X → Buffer → Outcome) (xs : List X) (b : Buffer) (n : ℕ) → ((x : X) (d : Buffer) → IsBounded d (run x d)) → extent b ≤ n
    → ((in_order run xs b).turns ≤ length xs * (n + 1)) × (extent (in_order run xs b).buffer ≤ n)
in_order_is_bounded run xs b n each low =
    let k = folded_is_bounded run xs (untouched b) n each low in
    (omega (arith, k.0), k.1)

-- runs behind what was run before, none of which shortens the line
folded_lengthens : {X : Type 0} (run : X → Buffer → Outcome) (xs : List X) (o : Outcome) → ((x : X) (b : Buffer) → length b.line ≤ length (run x b).buffer.line)
    → length o.buffer.line ≤ length (fold (λ o x. then_run o (run x)) o xs).buffer.line
folded_lengthens run [] o each = omega arith
folded_lengthens run (x ∷ xs) o each = omega (arith, each x o.buffer, folded_lengthens run xs (then_run o (run x)) each)

-- such runs in order do not shorten the line
pub in_order_lengthens : {X : Type 0} (run : X → Buffer → Outcome) (xs : List X) (b : Buffer) → ((x : X) (d : Buffer) → length d.line ≤ length (run x d).buffer.line)
    → length b.line ≤ length (in_order run xs b).buffer.line
in_order_lengthens run xs b each = folded_lengthens run xs (untouched b) each

-- and the first n of them leave at most as many glyphs as all
pub in_order_part : {X : Type 0} (run : X → Buffer → Outcome) (xs : List X) (n : ℕ) (b : Buffer) → ((x : X) (d : Buffer) → length d.line ≤ length (run x d).buffer.line)
    → length (in_order run (take n xs) b).buffer.line ≤ length (in_order run xs b).buffer.line
in_order_part run xs n b each =
    let whole : in_order run xs b ≡ fold (λ o x. then_run o (run x)) (in_order run (take n xs) b) (drop n xs) =
    ap (λ ys. in_order run ys b) (sym (take-append-drop n xs)) ∙ fold-append (λ o x. then_run o (run x)) (untouched b) (take n xs) (drop n xs) in
    rw whole (folded_lengthens run (drop n xs) (in_order run (take n xs) b) each)
