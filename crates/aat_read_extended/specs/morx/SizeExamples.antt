-- Worked examples of sizes: how many bytes the types take by which memory is counted.
use Rattle.std.specs.Prelude.{◌≡◌}
use Rattle.aat_read_extended.specs.declared.morx.weights.TheConstants.{CHAIN_SIZE, FEATURE_SIZE, SUBTABLE_SIZE}

-- the sizes, in bytes
pub record SizesAreKnown : Type 0 where
  pub chain : CHAIN_SIZE ≡ 56
  pub feature : FEATURE_SIZE ≡ 12
  pub subtable : SUBTABLE_SIZE ≡ 240
