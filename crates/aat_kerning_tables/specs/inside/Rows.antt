-- Left classes that kern nothing. No contract but those of the pairs by classes cites this.
use Rattle.std.specs.Prelude.{◌≡◌, ◌≤◌, ◌<◌, ◌+◌, ◌*◌, ℕ, ℤ, pos, List, Bool, false, slice_index_or}
use Rattle.aat_kerning_tables.specs.Classes.{value_of_classes}

-- each value of a left class is 0
abbrev pub IsQuiet : List ℤ → ℕ → ℕ → Type 0
IsQuiet values right_count left = (right : ℕ) → value_of_classes values right_count left right ≡ pos 0

-- a left class that is not told to kern has no value but 0
abbrev pub TellRows : List Bool → List ℤ → ℕ → Type 0
TellRows kerns values right_count =
    (left : ℕ) → left ≤ 65535 → slice_index_or kerns left false ≡ false → IsQuiet values right_count left

-- no left class at or above a number of them has one of so many values
abbrev pub HoldsRows : ℕ → ℕ → ℕ → Type 0
HoldsRows count right_count rows =
    (left right : ℕ) → left ≤ 65535 → rows ≤ left → right < right_count → count ≤ left * right_count + right
