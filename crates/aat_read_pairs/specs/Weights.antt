-- What pairs weigh that are read: the bytes of memory that they take.
use Rattle.std.specs.Prelude.{ℕ, ℤ, ◌+◌, ◌*◌, List, length}
use Rattle.aat_kerning_tables.specs.LeftGlyphs.{left_count}
use Rattle.aat_read_pairs.specs.declared.weights.TheConstants.{PAIR_SIZE, START_SIZE}

-- pairs that are listed, and the starts and words beside them
abbrev pub pairs_weight : List (ℕ × ℕ × ℤ) → ℕ
pairs_weight pairs = PAIR_SIZE * length pairs + START_SIZE * left_count pairs
