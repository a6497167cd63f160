-- Where a walk over rows that rise has come to. No contract but those of walks and of what they fill cites this.
use Rattle.std.specs.Prelude.{◌<◌, ◌≤◌, ℕ, List, length, slice_index_or}

module _ {X : Type 0} (key : X → ℕ) where
  -- the rows before a place have keys below one
  abbrev pub AreBelow : List X → ℕ → ℕ → Type 0
  AreBelow rows place k = (i : ℕ) (d : X) → i < place → i < length rows → key (slice_index_or rows i d) < k

  -- the rows from a place on have no keys below one
  abbrev pub AreNotBelow : List X → ℕ → ℕ → Type 0
  AreNotBelow rows place k = (i : ℕ) (d : X) → place ≤ i → i < length rows → k ≤ key (slice_index_or rows i d)

  -- a place parts rows at a key: those before it have keys below that one, and the others have not
  abbrev pub Parts : List X → ℕ → ℕ → Type 0
  Parts rows place k = (place ≤ length rows) × AreBelow rows place k × AreNotBelow rows place k
