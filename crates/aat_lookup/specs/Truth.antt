-- Small words on truth and on options.
use Rattle.std.specs.Prelude.{not, Bool, true, false, Option, Some, None}

-- there is one, and it passes the test
abbrev pub is_some_and : {X : Type 0} → Option X → (X → Bool) → Bool
is_some_and None test = false
is_some_and (Some x) test = test x

-- both or neither
abbrev pub is_alike : Bool → Bool → Bool
is_alike true b = b
is_alike false b = not b
