-- The flags of a chain, and how they switch its subtables. Apple's TrueType Reference Manual, "The 'morx' table",
-- chain header and feature subtables.
use Rattle.std.specs.Prelude.{ℕ, ◌==◌, not, Bool, true, false, bit_and}

-- two masks share a bit
abbrev pub meets : ℕ → ℕ → Bool
meets a b = not (bit_and a b == 0)

-- how a chain is switched: whether it has one range alone, and whether a subtable with some feature flags is on at
-- a cluster
pub record Switch : Type 0 where
  pub has_one_range : Bool
  pub is_on : ℕ → ℕ → Bool

-- no flags are compiled: every subtable is on everywhere
abbrev pub always_on : Switch
always_on = record { has_one_range = false; is_on = λ feature_flags cluster. true }

-- flags for each cluster: a subtable is on where its feature flags share a bit with them
abbrev pub by_flags : Bool → (ℕ → ℕ) → Switch
by_flags has_one_range flags = record {
  has_one_range = has_one_range;
  is_on = λ feature_flags cluster. meets (flags cluster) feature_flags;
}
