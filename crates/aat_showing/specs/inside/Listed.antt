-- What only this crate's own calls say.
use Rattle.std.specs.Prelude.{ℕ, ◌≤◌, IfSome, List, Option, Some, option_and_then, slice_get}

-- what a list of places has for a place
abbrev pub listed_place : List (Option ℕ) → Option ℕ → Option ℕ
listed_place places place = option_and_then (λ i. option_and_then (λ kept. kept) (slice_get places i)) place

-- what a list of places has for a place is at most that place
abbrev pub AreAtMost : List (Option ℕ) → Type 0
AreAtMost places = (i : ℕ) → IfSome (listed_place places (Some i)) (λ kept. kept ≤ i)
