-- What is written of each of some subtables.
use Rattle.std.proofs.Common.{◌≡◌, ℕ, zero, suc, ◌+◌, ◌<◌, List, [], ◌∷◌, ◌++◌, length, get_or, drop, Result, Ok, Err, refl, sym, ap, ◌∙◌, append_assoc, arith}
use Rattle.aat_kerning_tables.specs.declared.kern.KernSubtable.{KernSubtable}
use Rattle.aat_write_truetype.specs.kern.KernBytes.{subtable_written, subtables_written}
use Rattle.aat_write_truetype.specs.kern.KernWriteErrors.{after_written}
use Rattle.aat_write_truetype.specs.declared.kern.error.KernWriteError.{KernWriteError}

-- what was written, and what is written behind it
abbrev pub behind : List ℕ → Result (List ℕ) KernWriteError → Result (List ℕ) KernWriteError
behind front written = after_written written (λ more. Ok (front ++ more))

-- the last elements from one on
dropped_from :
    {X : Type 0} (xs : List X) (i : ℕ) (x : X) → i < length xs → x ≡ get_or xs i x → drop i xs ≡ x ∷ drop (suc i) xs
dropped_from [] i x below is = absurd (omega arith)
dropped_from (y ∷ ys) zero x below is = ap (λ z. z ∷ ys) (sym is)
dropped_from (y ∷ ys) (suc i) x below is = dropped_from ys i x (omega arith) is

-- nothing in front changes nothing
pub behind_nothing : (written : Result (List ℕ) KernWriteError) → written ≡ behind [] written
behind_nothing (Ok bytes) = refl
behind_nothing (Err e) = refl

-- one part more in front
joined :
    (front bytes : List ℕ) (written : Result (List ℕ) KernWriteError)
    → behind front (after_written written (λ more. Ok (bytes ++ more))) ≡ behind (front ++ bytes) written
joined front bytes (Ok more) = ap Ok (sym (append_assoc front bytes more))
joined front bytes (Err e) = refl

-- what is left, with one subtable taken out of it
left_is :
    (ss : List KernSubtable) (i : ℕ) (s : KernSubtable) → i < length ss → s ≡ get_or ss i s
    → subtables_written (drop i ss)
    ≡ after_written (subtable_written s) (λ bytes. after_written (subtables_written (drop (suc i) ss)) (λ more. Ok (bytes ++ more)))
left_is ss i s below item = ap subtables_written (dropped_from ss i s below item)

-- the bytes of one subtable more
pub one_more :
    (ss : List KernSubtable) (i : ℕ) (s : KernSubtable) (front bytes new : List ℕ)
    → i < length ss → s ≡ get_or ss i s
    → subtables_written ss ≡ behind front (subtables_written (drop i ss))
    → subtable_written s ≡ Ok bytes → new ≡ front ++ bytes
    → subtables_written ss ≡ behind new (subtables_written (drop (i + 1) ss))
one_more ss i s front bytes new below item so_far written appended =
    let next : suc i ≡ i + 1 = omega arith in
    so_far
    ∙ ap (behind front) (left_is ss i s below item)
    ∙ ap (λ (r : Result (List ℕ) KernWriteError). behind front (after_written r (λ bytes. after_written (subtables_written (drop (suc i) ss)) (λ more. Ok (bytes ++ more))))) written
    ∙ joined front bytes (subtables_written (drop (suc i) ss))
    ∙ ap (λ k. behind (front ++ bytes) (subtables_written (drop k ss))) next
    ∙ ap (λ (b : List ℕ). behind b (subtables_written (drop (i + 1) ss))) (sym appended)

-- the error of one subtable
pub one_fails :
    (ss : List KernSubtable) (i : ℕ) (s : KernSubtable) (front : List ℕ) (e : KernWriteError)
    → i < length ss → s ≡ get_or ss i s
    → subtables_written ss ≡ behind front (subtables_written (drop i ss))
    → subtable_written s ≡ Err e
    → subtables_written ss ≡ Err e
one_fails ss i s front e below item so_far failed =
    so_far
    ∙ ap (behind front) (left_is ss i s below item)
    ∙ ap (λ (r : Result (List ℕ) KernWriteError). behind front (after_written r (λ bytes. after_written (subtables_written (drop (suc i) ss)) (λ more. Ok (bytes ++ more))))) failed
