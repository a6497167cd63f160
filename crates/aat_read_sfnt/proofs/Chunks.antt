-- Bytes in chunks of four, and numbers that are written one after the other.
use Rattle.std.proofs.Common.{◌≡◌, ℕ, zero, suc, ◌+◌, ◌*◌, ◌<◌, ◌≢◌, ◌⊎◌, inl, inr, List, length, set, take, drop, get_or, refl, ap, ◌∙◌, arith}
use Rattle.std.specs.Int.{w16, from_be_bytes}
use Rattle.std.specs.Simd.{first_chunks}
use Rattle.std.proofs.lemmas.Bool.{cases_eq}
use Rattle.std.proofs.lemmas.Grind.{get_or-set_at}
use Rattle.std.proofs.lemmas.List.{take-take, drop-drop, get_or-set_other}
use Rattle.aat_bytes.specs.Numbers.{be16}

-- a chunk is four bytes of the list
chunk : (n k : ℕ) (bytes d : List ℕ) → k < n → get_or (first_chunks 4 n bytes) k d ≡ take 4 (drop (4 * k) bytes)
chunk zero k bytes d below = absurd (omega arith)
chunk (suc n) zero bytes d below = refl
chunk (suc n) (suc k) bytes d below =
    let place : 4 + 4 * k ≡ 4 * suc k = omega arith in
    chunk n k (drop 4 bytes) d (omega arith) ∙ ap (take 4) (drop-drop (4 * k) 4 bytes ∙ ap (λ (p : ℕ). drop p bytes) place)

-- the number at the start of a chunk
pub chunk_number :
    (n k : ℕ) (bytes d : List ℕ) → k < n → be16 (get_or (first_chunks 4 n bytes) k d) 0 ≡ be16 bytes (4 * k)
chunk_number n k bytes d below =
    ap (λ (c : List ℕ). be16 c 0) (chunk n k bytes d below)
    ∙ ap (from_be_bytes w16) (take-take 2 4 (drop (4 * k) bytes) (omega arith))

module _ (xs : List ℕ) (p v d is k : ℕ) where
  by_place : p < length xs → (k ≡ p → v ≡ is) → (k ≢ p → get_or xs k d ≡ is) → (k ≡ p) ⊎ (k ≢ p) → get_or (set xs p v) k d ≡ is
  by_place lt here there (inl e) = get_or-set_at xs p k v d e lt ∙ here e
  by_place lt here there (inr ne) = get_or-set_other xs p k v d ne ∙ there ne

  -- what stands at a place once a number is written at one
  pub written : p < length xs → (k ≡ p → v ≡ is) → (k ≢ p → get_or xs k d ≡ is) → get_or (set xs p v) k d ≡ is
  written lt here there = by_place lt here there (cases_eq k p)
