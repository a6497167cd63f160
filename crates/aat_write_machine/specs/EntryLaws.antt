-- What is written of an entry is read again.
use Rattle.std.specs.Prelude.{◌≡◌, ℕ, ◌+◌, ◌*◌, ◌<◌, List, length, slice_index}
use Rattle.aat_bytes.specs.Numbers.{be16}

-- what is written has the size that is read
abbrev pub HasSize : {T : Type 0} → ℕ → (T → List ℕ) → Type 0
HasSize size words_of = (x : _) → 2 * length (words_of x) ≡ size

-- what is written is read again wherever its numbers stand
abbrev pub ReadsAgain : {T : Type 0} → (List ℕ → ℕ → T) → (T → List ℕ) → Type 0
ReadsAgain extra_at words_of =
    (bytes : List ℕ) (place : ℕ) (x : _)
    → ((i : ℕ) → i < length (words_of x) → be16 bytes (place + 2 * i) ≡ slice_index (words_of x) i)
    → extra_at bytes place ≡ x
