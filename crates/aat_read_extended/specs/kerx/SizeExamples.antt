-- Worked examples of sizes: how many bytes the types take by which memory is counted.
use Rattle.std.specs.Prelude.{◌≡◌}
use Rattle.aat_read_pairs.specs.declared.weights.TheConstants.{LEFT_OUT_SIZE, PAIR_SIZE, START_SIZE}
use Rattle.aat_read_extended.specs.declared.kerx.weights.TheConstants.{ANCHOR_ROW_SIZE, KERX_RULE_SIZE, KERX_SUBTABLE_SIZE, POINT_SIZE}

-- the sizes, in bytes
pub record SizesAreKnown : Type 0 where
  pub anchor_row : ANCHOR_ROW_SIZE ≡ 32
  pub point : POINT_SIZE ≡ 4
  pub kerx_rule : KERX_RULE_SIZE ≡ 18
  pub pair : PAIR_SIZE ≡ 6
  pub start : START_SIZE ≡ 16
  pub kerx_subtable : KERX_SUBTABLE_SIZE ≡ 264
  pub left_out : LEFT_OUT_SIZE ≡ 24
