-- The features of a chain. Apple's TrueType Reference Manual, "The 'morx' table", feature subtables.
use Rattle.std.specs.Prelude.{ℕ, ◌+◌, ◌*◌, ◌-◌, ◌/◌, List, length, map, Result, Ok, Err, if◌then◌else◌, nat_lt}
use Rattle.std.specs.List.{range_with_len}
use Rattle.aat_bytes.specs.Faults.{fault_at}
use Rattle.aat_bytes.specs.Numbers.{be16, be32}
use Rattle.aat_bytes.specs.declared.error.Fault.{Fault}
use Rattle.aat_bytes.specs.declared.error.FaultKind.TheVariants.{PastEnd}
use Rattle.aat_bytes.specs.declared.tags.TheConstants.{MORX}
use Rattle.aat_machine_tables.specs.declared.morx.ChainFeature.{ChainFeature}

-- the record of a feature: type, selector, the flags that are set, and those that are kept
abbrev pub feature_at : List ℕ → ℕ → ChainFeature
feature_at bytes place = record {
  kind = be16 bytes place;
  setting = be16 bytes (place + 2);
  enable_flags = be32 bytes (place + 4);
  disable_flags = be32 bytes (place + 8);
}

-- so many records of 12 bytes from a place on
abbrev pub features_at : List ℕ → ℕ → ℕ → List ChainFeature
features_at bytes place count = map (λ i. feature_at bytes (place + 12 * i)) (range_with_len 0 count)

-- so many records, or the first that is not there as a whole
unfoldable pub whole_features : List ℕ → ℕ → ℕ → Result (List ChainFeature) Fault
whole_features bytes place count =
    if nat_lt (length bytes) (place + 12 * count) then
    Err (fault_at MORX PastEnd (place + 12 * ((length bytes - place) / 12))) else
    Ok (features_at bytes place count)
