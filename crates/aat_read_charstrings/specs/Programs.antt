-- A table, and the subroutines that its charstrings may call.
use Rattle.std.specs.Prelude.{ℕ, List}
use Rattle.aat_read_charstrings.specs.declared.index.Index.{Index}

pub record Program : Type 0 where
  pub cff : List ℕ
  pub globals : Index
  pub locals : Index
