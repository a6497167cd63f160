-- Numbers of 16 bits stand where they were written.
use Rattle.std.proofs.Common.{◌≡◌, ℕ, zero, suc, ◌+◌, ◌*◌, ◌/◌, ◌%◌, ◌<◌, List, [], ◌∷◌, ◌++◌, length, get_or, take, refl, sym, ap, ◌∙◌, append_assoc, arith}
use Rattle.std.specs.Int.{w16, from_be_bytes, to_be_bytes}
use Rattle.std.proofs.lemmas.List.{drop_at, take_at, length-append}
use Rattle.std.proofs.lemmas.Nat.{from_be_bytes-to_be_bytes_2}
use Rattle.aat_bytes.specs.Numbers.{be16}
use Rattle.aat_write_machine.specs.Words.{word_bytes}

-- a number at the end of a front
pub number_at :
    (front rest : List ℕ) (place n : ℕ) → length front ≡ place → n < 65536
    → be16 (front ++ (to_be_bytes w16 n ++ rest)) place ≡ n
number_at front rest place n long small =
    let bytes = to_be_bytes w16 n in
    ap (λ xs. from_be_bytes w16 (take 2 xs)) (drop_at front (bytes ++ rest) place long)
    ∙ ap (from_be_bytes w16) (take_at bytes rest 2 refl)
    ∙ from_be_bytes-to_be_bytes_2 n small

-- each number has 16 bits
abbrev pub AreWords : List ℕ → Type 0
AreWords [] = Unit {0}
AreWords (word ∷ words) = (word < 65536) × AreWords words

-- joined numbers of 16 bits
pub words_joined : (xs ys : List ℕ) → AreWords xs → AreWords ys → AreWords (xs ++ ys)
words_joined [] ys small smaller = smaller
words_joined (x ∷ xs) ys small smaller = (small.0, words_joined xs ys small.1 smaller)

-- each number of a list stands at its place
pub word_at :
    (words front rest : List ℕ) (place i : ℕ)
    → i < length words
    → AreWords words
    → length front + 2 * i ≡ place
    → be16 (front ++ (word_bytes words ++ rest)) place ≡ get_or words i 0
word_at [] front rest place i below small at = absurd (omega arith)
word_at (word ∷ words) front rest place zero below small at =
    ap (λ xs. be16 (front ++ xs) place) (append_assoc (to_be_bytes w16 word) (word_bytes words) rest)
    ∙ number_at front (word_bytes words ++ rest) place word (omega arith) small.0
word_at (word ∷ words) front rest place (suc i) below small at =
    let bytes = to_be_bytes w16 word in
    let longer : length (front ++ bytes) ≡ length front + 2 = length-append front bytes in
    ap (λ xs. be16 (front ++ xs) place) (append_assoc bytes (word_bytes words) rest)
    ∙ ap (λ xs. be16 xs place) (sym (append_assoc front bytes (word_bytes words ++ rest)))
    ∙ word_at words (front ++ bytes) rest place i (omega arith) small.1 (omega arith)

-- the bytes of numbers of 16 bits are twice as many
pub length_words : (words : List ℕ) → length (word_bytes words) ≡ 2 * length words
length_words [] = refl
length_words (word ∷ words) =
    length-append (to_be_bytes w16 word) (word_bytes words) ∙ omega (arith, length_words words)

-- the words of a number of 32 bits make it again
pub long_again : (n : ℕ) → 65536 * (n / 65536) + n % 65536 ≡ n
long_again n = omega arith
