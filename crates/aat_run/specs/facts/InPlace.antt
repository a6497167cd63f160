-- Acts that keep the length, the cursor and the budget.
use Rattle.std.proofs.Common.{◌≡◌, ℕ, length, arith}
use Rattle.aat_buffer.specs.Buffer.{Buffer}
use Rattle.aat_run.specs.Context.{Moved}
use Rattle.aat_run.specs.Laws.{Pays, Bounded, Lengthens}

module _ {R E : Type 0} (act : E → R → Buffer → Moved R) (fits : R → ℕ → ℕ → Type 0) where
  -- the length, the cursor and the budget
  pub record Keeps (old new : Buffer) : Type 0 where
    pub length : length new.line ≡ length old.line
    pub cursor : new.cursor ≡ old.cursor
    pub budget : new.max_ops ≡ old.max_ops

  abbrev pub KeepsAll : Type 0
  KeepsAll = (e : E) (r : R) (b : Buffer) → fits r b.cursor (length b.line) → Keeps b (act e r b).buffer

  module _ (keeps : KeepsAll) where
    pub pays_in_place : Pays act fits
    pays_in_place e r b fit = let k = keeps e r b fit in rw (k.length, k.cursor, k.budget) (omega arith)

    pub bounded_in_place : Bounded act fits
    bounded_in_place e r b fit = let k = keeps e r b fit in rw (k.length, k.budget) (omega arith)

    pub lengthens_in_place : Lengthens act fits
    lengthens_in_place e r b fit = let k = keeps e r b fit in rw k.length (omega arith)
