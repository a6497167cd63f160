-- Positions that are carried down over gone ones, as far as that has come.
use Rattle.std.specs.Prelude.{ℕ, List, ◌++◌, take, drop, Option, option_map}
use Rattle.std.specs.declared.vec.Vec.{Vec}

-- what stands before place p, and from place i on
abbrev pub carried : {X : Type 0} → ℕ → ℕ → List X → List X
carried p i qs = take p qs ++ drop i qs

-- the items of a vector, where there is one
abbrev pub items_of : {X Z : Type 0} → Option (Vec X Z) → Option (List X)
items_of o = option_map (λ v. v.items) o
