-- What the contracts of the parts of the stack acts say.
use Rattle.std.specs.Prelude.{ℕ, ℤ, List, Bool, Option, if◌then◌else◌}
use Rattle.aat_kerning_machines.specs.Stack.{kerx_value, kern_value}

-- a value of a list that a missing one ends, or of one in which a missing one is 0
abbrev pub value_at : Bool → List ℤ → ℕ → ℕ → Option ℤ
value_at ends_at_missing values step index =
    if ends_at_missing then kerx_value values step index else kern_value values index
