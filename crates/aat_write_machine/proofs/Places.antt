-- Numbers of 16 bits stand where they were written.
use Rattle.std.proofs.Common.{◌≡◌, ℕ, zero, suc, ◌+◌, ◌*◌, ◌<◌, List, [], ◌∷◌, ◌++◌, length, get_or, All, sym, ap, ◌∙◌, append_assoc, arith}
use Rattle.std.specs.Int.{w16, to_be_bytes}
use Rattle.std.proofs.lemmas.List.{length-append}
use Rattle.aat_bytes.specs.Numbers.{be16}
use Rattle.aat_write_machine.specs.Words.{word_bytes}
use Rattle.aat_write_machine.specs.facts.WordPlaces.{number_at}
use Rattle.aat_write_machine.specs.MachineLaws.{IsWord}

-- a number of 16 bits stands at its place among others
pub word_alone :
    (words front rest : List ℕ) (place i : ℕ)
    → i < length words → IsWord (get_or words i 0) → length front + 2 * i ≡ place
    → be16 (front ++ (word_bytes words ++ rest)) place ≡ get_or words i 0
word_alone [] front rest place i below small at = absurd (omega arith)
word_alone (word ∷ words) front rest place zero below small at =
    ap (λ xs. be16 (front ++ xs) place) (append_assoc (to_be_bytes w16 word) (word_bytes words) rest)
    ∙ number_at front (word_bytes words ++ rest) place word (omega arith) small
word_alone (word ∷ words) front rest place (suc i) below small at =
    let bytes = to_be_bytes w16 word in
    let longer : length (front ++ bytes) ≡ length front + 2 = length-append front bytes in
    ap (λ xs. be16 (front ++ xs) place) (append_assoc bytes (word_bytes words) rest)
    ∙ ap (λ xs. be16 xs place) (sym (append_assoc front bytes (word_bytes words ++ rest)))
    ∙ word_alone words (front ++ bytes) rest place i (omega arith) small (omega arith)

-- each number of 16 bits stands at its place
pub word_at :
    (words front rest : List ℕ) (place i : ℕ)
    → i < length words → All IsWord words → length front + 2 * i ≡ place
    → be16 (front ++ (word_bytes words ++ rest)) place ≡ get_or words i 0
word_at words front rest place i below small at = word_alone words front rest place i below (small i 0 below) at
