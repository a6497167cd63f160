-- Chains as bytes, whose subtables have bodies of bytes. Apple's TrueType Reference Manual, "The 'morx' table".
use Rattle.std.specs.Prelude.{ℕ, ◌+◌, ◌*◌, ◌^◌, List, [], ◌∷◌, ◌++◌, length, sum_by, Result, Ok, Err, if◌then◌else◌, nat_le, nat_lt}
use Rattle.std.specs.List.{flat_map}
use Rattle.aat_machine_tables.specs.declared.morx.ChainFeature.{ChainFeature}
use Rattle.aat_machine_tables.specs.declared.morx.Coverage.{Coverage}
use Rattle.aat_write_machine.specs.Words.{long_bytes, word_bytes}
use Rattle.aat_write_machine.specs.declared.chain_error.ChainWriteError.{ChainWriteError}
use Rattle.aat_write_machine.specs.declared.chain_error.ChainWriteError.TheVariants.{TooLong, TooManySubtables}

-- a subtable to be written: the number of its kind, for which text it is and in which order, the flags that switch it,
-- and the bytes behind its header
pub record SubtableContent : Type 0 where
  pub kind : ℕ
  pub coverage : Coverage
  pub feature_flags : ℕ
  pub body : List ℕ

-- a chain to be written
pub record ChainContent : Type 0 where
  pub default_flags : ℕ
  pub features : List ChainFeature
  pub subtables : List SubtableContent

-- the length of a subtable, which counts its header
abbrev pub subtable_size : SubtableContent → ℕ
subtable_size s = 12 + length s.body

-- the coverage: text and order in the highest byte, and the kind in the lowest
abbrev pub coverage_number : SubtableContent → ℕ
coverage_number s = 16777216 * s.coverage.0 + s.kind

-- the header of a subtable: its length, coverage and feature flags
abbrev pub subtable_header : SubtableContent → List ℕ
subtable_header s = subtable_size s ∷ coverage_number s ∷ s.feature_flags ∷ []

-- a subtable: its header and its body
abbrev pub subtable_bytes : SubtableContent → List ℕ
subtable_bytes s = long_bytes (subtable_header s) ++ s.body

-- a feature: type and selector, the flags that are set, and those that are kept
abbrev pub feature_bytes : ChainFeature → List ℕ
feature_bytes f = word_bytes (f.kind ∷ f.setting ∷ []) ++ long_bytes (f.enable_flags ∷ f.disable_flags ∷ [])

-- the length of a chain, which counts its header, its features and its subtables
abbrev pub chain_size : ChainContent → ℕ
chain_size c = 16 + 12 * length c.features + sum_by subtable_size c.subtables

-- the header of a chain: default flags, its length, and the numbers of features and of subtables
abbrev pub chain_header : ChainContent → List ℕ
chain_header c = c.default_flags ∷ chain_size c ∷ length c.features ∷ length c.subtables ∷ []

-- a chain: its header, features and subtables
abbrev pub chain_bytes : ChainContent → List ℕ
chain_bytes c =
    long_bytes (chain_header c) ++ (flat_map feature_bytes c.features ++ flat_map subtable_bytes c.subtables)

-- the length of a table of chains
abbrev pub table_size : List ChainContent → ℕ
table_size chains = 8 + sum_by chain_size chains

-- a table: version 2, a word of 0, the number of chains, and the chains
abbrev pub table_bytes : List ChainContent → List ℕ
table_bytes chains = word_bytes (2 ∷ 0 ∷ []) ++ (long_bytes (length chains ∷ []) ++ flat_map chain_bytes chains)

-- the number of subtables of all chains
abbrev pub count_subtables : List ChainContent → ℕ
count_subtables chains = sum_by (λ (c : ChainContent). length c.subtables) chains

-- the bytes of chains, or why they are not written: a table has fewer than 2 ^ 32 bytes, and at most 65,535 subtables
abbrev pub chains_written : List ChainContent → Result (List ℕ) ChainWriteError
chains_written chains =
    if nat_le (2 ^ 32) (table_size chains) then Err TooLong else
    if nat_lt 65535 (count_subtables chains) then Err TooManySubtables else
    Ok (table_bytes chains)
