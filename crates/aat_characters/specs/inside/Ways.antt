-- What only this crate's own calls say of the ways to write a character.
use Rattle.std.specs.Prelude.{ℕ, Bool, List, ◌∷◌, drop, Option, Some, None, if◌then◌else◌}

-- a character, and the parts from a place on
abbrev pub way_at : List ℕ → ℕ × ℕ → List ℕ
way_at parts way = way.0 ∷ drop way.1 parts

-- a value that passes a test
abbrev pub passing : {X : Type 0} → (X → Bool) → X → Option X
passing test x = if test x then Some x else None
