-- Records that name the place of a part, as those of a directory and of names do. The parts stand one behind the other.
use Rattle.std.specs.Prelude.{ℕ, ◌+◌, List, [], ◌∷◌, ◌++◌, length}

module _ {X : Type 0} (part : X → List ℕ) (record_of : ℕ → X → List ℕ) where
  -- the records of parts, the first of which stands at a place
  abbrev pub records : ℕ → List X → List ℕ
  records place [] = []
  records place (x ∷ xs) = record_of place x ++ records (place + length (part x)) xs
