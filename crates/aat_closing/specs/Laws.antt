-- What a closing context asks of what it holds.
use Rattle.std.specs.Prelude.{◌≡◌, ℕ, Bool, true, false}
use Rattle.aat_buffer.specs.Buffer.{Buffer}

-- an entry that rests may not act, and looks at nothing before the cursor
pub record RestsOpen {S R E : Type 0} (resting : E → Bool) (acting : E → R → ℕ → ℕ → Bool) (from : S → E → R → Buffer → ℕ)
    : Type 0
  where
    pub unactionable : (e : E) → resting e ≡ true → (r : R) (p n : ℕ) → acting e r p n ≡ false
    pub stays_open : (e : E) → resting e ≡ true → (s : S) (r : R) (b : Buffer) → from s e r b ≡ b.cursor
