-- What a closing context holds: another context, and the subtable over which it runs.
use Rattle.std.specs.Prelude.{ℕ, Bool}
use Rattle.aat_buffer.specs.Buffer.{Buffer}
use Rattle.aat_run.specs.Context.{Moved}
use Rattle.aat_closing.specs.Closing.{closing}

pub record Watched (S R : Type 0) : Type 0 where
  pub inner : R
  pub subtable : S

-- what is said of the context's registers, said of what is held
abbrev pub watched_fit : {S R : Type 0} → (R → ℕ → ℕ → Type 0) → Watched S R → ℕ → ℕ → Type 0
watched_fit fits w p n = fits w.inner p n

module _ {S R E : Type 0} where
  abbrev pub watched_actionable : (E → R → ℕ → ℕ → Bool) → E → Watched S R → ℕ → ℕ → Bool
  watched_actionable actionable e w p n = actionable e w.inner p n

  -- the closing act over what is held
  abbrev pub watched_act : (S → E → R → Buffer → ℕ) → (E → R → Buffer → Moved R) → E → Watched S R → Buffer
      → Moved (Watched S R)
  watched_act from act e w b =
      let left = closing (from w.subtable) act e w.inner b in
      record { registers = record w { inner = left.registers }; buffer = left.buffer }
