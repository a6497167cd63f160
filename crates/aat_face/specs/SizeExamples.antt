-- Worked examples of sizes: how many bytes the types take by which memory is counted.
use Rattle.std.specs.Prelude.{◌≡◌}
use Rattle.aat_face.specs.declared.weights.TheConstants.{FACE_SIZE, FAULT_SIZE, FEATURE_NAME_SIZE}

-- the sizes, in bytes
pub record SizesAreKnown : Type 0 where
  pub face : FACE_SIZE ≡ 800
  pub fault : FAULT_SIZE ≡ 16
  pub feature_name : FEATURE_NAME_SIZE ≡ 6
