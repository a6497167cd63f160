-- Worked examples of sizes: how many bytes the types take by which memory is counted.
use Rattle.std.specs.Prelude.{◌≡◌}
use Rattle.aat_read_pairs.specs.declared.weights.TheConstants.{LEFT_OUT_SIZE, PAIR_SIZE, START_SIZE}
use Rattle.aat_read_kern.specs.declared.weights.TheConstants.{KERN_RULE_SIZE, KERN_SUBTABLE_SIZE}

-- the sizes, in bytes
pub record SizesAreKnown : Type 0 where
  pub kern_rule : KERN_RULE_SIZE ≡ 18
  pub pair : PAIR_SIZE ≡ 6
  pub start : START_SIZE ≡ 16
  pub kern_subtable : KERN_SUBTABLE_SIZE ≡ 264
  pub left_out : LEFT_OUT_SIZE ≡ 24
