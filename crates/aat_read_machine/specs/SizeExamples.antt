-- Worked examples of sizes: how many bytes the types take by which memory is counted.
use Rattle.std.specs.Prelude.{◌≡◌}
use Rattle.aat_read_machine.specs.declared.weights.TheConstants.{CONTEXTUAL_RULE_SIZE, INSERTION_RULE_SIZE, LIGATURE_RULE_SIZE, LOOKUP_SIZE, PLAIN_RULE_SIZE}

-- the sizes, in bytes
pub record SizesAreKnown : Type 0 where
  pub plain_rule : PLAIN_RULE_SIZE ≡ 14
  pub ligature_rule : LIGATURE_RULE_SIZE ≡ 18
  pub contextual_rule : CONTEXTUAL_RULE_SIZE ≡ 22
  pub insertion_rule : INSERTION_RULE_SIZE ≡ 22
  pub lookup : LOOKUP_SIZE ≡ 96
