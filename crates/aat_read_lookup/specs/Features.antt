-- What the bytes of the feature name table say. Apple's TrueType Reference Manual, "The 'feat' table".
use Rattle.std.specs.Prelude.{ℕ, ◌+◌, ◌*◌, ◌-◌, ◌/◌, List, length, map, find, Bool, false, Option, Result, Ok, Err, if◌then◌else◌, nat_lt, nat_le, ◌==◌, option_and_then, option_map}
use Rattle.std.specs.List.{range_with_len}
use Rattle.std.specs.Option.{option_map_or}
use Rattle.aat_bytes.specs.Bisection.{found_rows, row_found}
use Rattle.aat_bytes.specs.Faults.{after, fault_at}
use Rattle.aat_bytes.specs.Numbers.{be16, be32, u16_at}
use Rattle.aat_bytes.specs.declared.error.Fault.{Fault}
use Rattle.aat_bytes.specs.declared.error.FaultKind.TheVariants.{PastEnd, UnknownFormat}
use Rattle.aat_bytes.specs.declared.tags.TheConstants.{FEAT}
use Rattle.aat_lookup.specs.declared.feat.FeatureName.{FeatureName}

-- the number of features, whose records of 12 bytes stand behind a header of 12 bytes, of version 1
unfoldable pub feature_count : List ℕ → Result ℕ Fault
feature_count bytes =
    if nat_lt (length bytes) 12 then Err (fault_at FEAT PastEnd 0) else
    if be16 bytes 0 == 1 then
    (if nat_lt (length bytes) (12 + 12 * be16 bytes 4) then
    Err (fault_at FEAT PastEnd (12 + 12 * ((length bytes - 12) / 12))) else
    Ok (be16 bytes 4))
    else Err (fault_at FEAT UnknownFormat 0)

-- the place of the record of a feature: its type, the number of its settings, their offset from the start of the table,
-- flags, and its name
abbrev pub feature_place : ℕ → ℕ
feature_place i = 12 + 12 * i

-- what a record says: the highest bit of the flags is set where the settings exclude one another
abbrev pub feature_name : List ℕ → ℕ → FeatureName
feature_name bytes i = record {
  kind = be16 bytes (feature_place i);
  settings = be16 bytes (feature_place i + 2);
  exclusive = nat_le 32768 (be16 bytes (feature_place i + 8));
}

-- the type by which a record is searched
abbrev pub kind_at : List ℕ → ℕ → ℕ
kind_at bytes i = be16 bytes (feature_place i)

-- what those of so many records say that a bisection for their own types finds, as HarfBuzz does: all, where types rise
abbrev pub feature_names : List ℕ → ℕ → List FeatureName
feature_names bytes count = map (feature_name bytes) (found_rows (kind_at bytes) count)

-- the table, or its first fault
abbrev pub feat_of : List ℕ → Result (List FeatureName) Fault
feat_of bytes = after (feature_count bytes) (λ count. Ok (feature_names bytes count))

-- the number of records that are searched for a name: none in a table whose header or records have a fault
abbrev pub searched_count : List ℕ → ℕ
searched_count bytes = elim (feature_count bytes) [ Ok count ↦ count | Err fault ↦ 0 ]

-- the record of a feature type that a bisection finds
abbrev pub feature_record : List ℕ → ℕ → Option ℕ
feature_record bytes kind = row_found (kind_at bytes) (searched_count bytes) kind

-- the name of a feature type, as a number in the table of names
abbrev pub feature_name_id : List ℕ → ℕ → Option ℕ
feature_name_id bytes kind = option_map (λ i. be16 bytes (feature_place i + 10)) (feature_record bytes kind)

-- the place of a setting of a feature: a number and a name
abbrev pub setting_place : List ℕ → ℕ → ℕ → ℕ
setting_place bytes i j = be32 bytes (feature_place i + 4) + 4 * j

-- whether a number of 16 bits stands at a place
abbrev pub has_number : List ℕ → ℕ → ℕ → Bool
has_number bytes place number = option_map_or (λ found. found == number) (u16_at bytes place) false

-- the first record of a setting of a feature, in the order of the file; those past the end are missing
abbrev pub setting_record : List ℕ → ℕ → ℕ → Option ℕ
setting_record bytes setting i =
    find (λ j. has_number bytes (setting_place bytes i j) setting)
    (range_with_len 0 (be16 bytes (feature_place i + 2)))

-- the name of a setting of a feature
abbrev pub setting_name_in : List ℕ → ℕ → ℕ → Option ℕ
setting_name_in bytes setting i =
    option_and_then (λ j. u16_at bytes (setting_place bytes i j + 2)) (setting_record bytes setting i)

-- the name of a setting of a feature type
abbrev pub setting_name_id : List ℕ → ℕ → ℕ → Option ℕ
setting_name_id bytes kind setting = option_and_then (setting_name_in bytes setting) (feature_record bytes kind)
