-- What the clusters of glyphs count for C.
use Rattle.std.specs.Prelude.{ℕ, List, slice_get, unwrap_or}
use Rattle.aat_records.specs.declared.places.Places.{Places}
use Rattle.aat_records.specs.declared.places.Places.TheVariants.{Own, OfCharacters}

-- the place with a number, 0 where there are not so many
abbrev pub place_at : List ℕ → ℕ → ℕ
place_at places number = unwrap_or (slice_get places number) 0

-- a cluster for C
abbrev pub placed : Places → ℕ → ℕ
placed Own cluster = cluster
placed (OfCharacters places) cluster = place_at places.items cluster
