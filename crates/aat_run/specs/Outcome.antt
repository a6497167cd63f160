-- What a run leaves, and runs one after another.
use Rattle.std.specs.Prelude.{◌≡◌, ℕ, ◌+◌, List, fold}
use Rattle.aat_buffer.specs.Buffer.{Buffer}

-- a buffer, and the number of turns that were taken
pub record Outcome : Type 0 where
  pub buffer : Buffer
  pub turns : ℕ

-- it is what a run left: this buffer, in so many turns
abbrev pub IsOutcome : Outcome → Buffer → ℕ → Type 0
IsOutcome o b turns = ◌≡◌ {A = Outcome} (record { buffer = b; turns = turns }) o

-- nothing was run
abbrev pub untouched : Buffer → Outcome
untouched b = record { buffer = b; turns = 0 }

-- another run behind one: the turns are added up
abbrev pub then_run : Outcome → (Buffer → Outcome) → Outcome
then_run o run = record { buffer = (run o.buffer).buffer; turns = o.turns + (run o.buffer).turns }

-- one run after another, each with the line and the budget that the one before left
abbrev pub in_order : {X : Type 0} → (X → Buffer → Outcome) → List X → Buffer → Outcome
in_order run xs b = fold (λ o x. then_run o (run x)) (untouched b) xs
