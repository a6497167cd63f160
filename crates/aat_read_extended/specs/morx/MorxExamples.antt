-- Worked examples of chains. Apple's TrueType Reference Manual, "The 'morx' table".
use Rattle.std.specs.Prelude.{◌≡◌, ℕ, List, [], ◌∷◌, ◌++◌, take, Result, Ok, Err}
use Rattle.aat_bytes.specs.Faults.{fault_at}
use Rattle.aat_bytes.specs.declared.error.Fault.{Fault}
use Rattle.aat_bytes.specs.declared.error.FaultKind.TheVariants.{PastEnd, UnknownFormat, ShortLength}
use Rattle.aat_bytes.specs.declared.tags.TheConstants.{MORX}
use Rattle.aat_machine_tables.specs.declared.morx.ChainFeature.{ChainFeature}
use Rattle.aat_machine_tables.specs.declared.morx.Subtable.{Subtable}
use Rattle.aat_machine_tables.specs.declared.morx.SubtableKind.TheVariants.{NonContextual}
use Rattle.aat_read_extended.specs.morx.Chains.{ChainValue, morx_of}
use Rattle.aat_read_extended.specs.morx.ChainsOfBytes.{chain_place, subtable_place}

-- the header of a table of a version, of so many chains
abbrev pub example_table : ℕ → ℕ → List ℕ
example_table version chains = 0 ∷ version ∷ 0 ∷ 0 ∷ 0 ∷ 0 ∷ 0 ∷ chains ∷ []

-- the header of a chain with default flags of 1: its length, and the numbers of its features and of its subtables, of
-- which the second is counted in 65,536s and in ones
abbrev pub example_chain : ℕ → ℕ → ℕ → ℕ → List ℕ
example_chain size features many subtables =
    0 ∷ 0 ∷ 0 ∷ 1 ∷ 0 ∷ 0 ∷ 0 ∷ size ∷ 0 ∷ 0 ∷ 0 ∷ features ∷ 0 ∷ many ∷ 0 ∷ subtables ∷ []

-- a feature of type 1 and selector 2: it sets the lowest flag, and keeps the flags of a byte
abbrev pub example_feature : List ℕ
example_feature = 0 ∷ 1 ∷ 0 ∷ 2 ∷ 0 ∷ 0 ∷ 0 ∷ 1 ∷ 0 ∷ 0 ∷ 0 ∷ 255 ∷ []

-- a subtable of a length and a kind for vertical text, with feature flags of 1, and a lookup in it: the value of glyph
-- 5 is 3
abbrev pub example_subtable : ℕ → ℕ → List ℕ
example_subtable size kind =
    0 ∷ 0 ∷ 0 ∷ size ∷ 128 ∷ 0 ∷ 0 ∷ kind ∷ 0 ∷ 0 ∷ 0 ∷ 1
    ∷ 0 ∷ 6 ∷ 0 ∷ 4 ∷ 0 ∷ 1 ∷ 0 ∷ 0 ∷ 0 ∷ 0 ∷ 0 ∷ 0 ∷ 0 ∷ 5 ∷ 0 ∷ 3 ∷ []

-- a table of one chain, with one feature and one subtable
abbrev pub one_chain : ℕ → ℕ → ℕ → List ℕ
one_chain chain_size subtable_size kind =
    example_table 2 1 ++ example_chain chain_size 1 0 1 ++ example_feature ++ example_subtable subtable_size kind

-- what an example says
abbrev pub read_chains : List ℕ → Result (List ChainValue) Fault
read_chains bytes = morx_of bytes 10

-- what the feature says
abbrev pub first_feature : ChainFeature
first_feature = record { kind = 1; setting = 2; enable_flags = 1; disable_flags = 255 }

-- a chain with the feature and a subtable
abbrev pub with_subtable : Subtable → ChainValue
with_subtable subtable = record {
  default_flags = 1;
  features = first_feature ∷ [];
  subtables = subtable ∷ [];
}

-- a subtable of the manual's kind 4 is noncontextual
abbrev pub ChainHasItsParts : Type 0
ChainHasItsParts = read_chains (one_chain 56 28 4) ≡ Ok (
    with_subtable (record { kind = NonContextual ((5, 3) ∷ []); coverage = record { 0 = 128 }; feature_flags = 1 })
    ∷ [])

-- a subtable of an unknown kind does nothing, and no flag switches it
abbrev pub UnknownKindDoesNothing : Type 0
UnknownKindDoesNothing = read_chains (one_chain 56 28 3) ≡ Ok (
    with_subtable (record { kind = NonContextual []; coverage = record { 0 = 128 }; feature_flags = 0 })
    ∷ [])

-- another feature, of type 3 and selector 4: it sets the second flag, and keeps none
abbrev pub other_feature : List ℕ
other_feature = 0 ∷ 3 ∷ 0 ∷ 4 ∷ 0 ∷ 0 ∷ 0 ∷ 2 ∷ 0 ∷ 0 ∷ 0 ∷ 0 ∷ []

-- what that feature says
abbrev pub second_feature : ChainFeature
second_feature = record { kind = 3; setting = 4; enable_flags = 2; disable_flags = 0 }

-- a table of two chains, of which the first has two features and two subtables
abbrev pub two_chains : List ℕ
two_chains =
    example_table 2 2 ++ example_chain 96 2 0 2 ++ example_feature ++ other_feature
    ++ example_subtable 28 4 ++ example_subtable 28 3 ++ example_chain 16 0 0 0

-- chains, features and subtables stand in their order, each behind the one before
abbrev pub PartsAreInOrder : Type 0
PartsAreInOrder =
    (read_chains two_chains ≡ Ok (
    record {
      default_flags = 1;
      features = first_feature ∷ second_feature ∷ [];
      subtables =
          record { kind = NonContextual ((5, 3) ∷ []); coverage = record { 0 = 128 }; feature_flags = 1 }
          ∷ record { kind = NonContextual []; coverage = record { 0 = 128 }; feature_flags = 0 } ∷ [];
    }
    ∷ record { default_flags = 1; features = []; subtables = [] }
    ∷ []))
    × (chain_place two_chains 0 ≡ 8)
    × (subtable_place two_chains 8 0 ≡ 48)
    × (subtable_place two_chains 8 1 ≡ 76)
    × (chain_place two_chains 1 ≡ 104)

-- a chain starts where the length of the one before ends
abbrev pub ChainsStartWhereLengthsEnd : Type 0
ChainsStartWhereLengthsEnd =
    read_chains (example_table 3 2 ++ example_chain 18 0 0 0 ++ 7 ∷ 7 ∷ [] ++ example_chain 16 0 0 0)
    ≡ Ok (
    record { default_flags = 1; features = []; subtables = [] }
    ∷ record { default_flags = 1; features = []; subtables = [] }
    ∷ [])

-- what a subtable does may reach behind its length by a fourth of its chain's length, here by 14 of 56 bytes. Its
-- lookup starts at 48, and its only unit stands at 60.
abbrev pub SubtableMayReachBehindItsEnd : Type 0
SubtableMayReachBehindItsEnd =
    (read_chains (one_chain 56 14 4) ≡ Ok (
    with_subtable (record { kind = NonContextual ((5, 3) ∷ []); coverage = record { 0 = 128 }; feature_flags = 1 })
    ∷ []))
    × (read_chains (one_chain 56 13 4) ≡ Err (fault_at MORX PastEnd 60))

-- each fault at its place: a header that is cut, another version, a length of a chain and of a subtable below its
-- header or past the end, of a subtable also past the end of its chain, 65,536 subtables, and features that are not
-- there or not in the chain
abbrev pub MorxFaultsHaveTheirPlaces : Type 0
MorxFaultsHaveTheirPlaces =
    (read_chains (take 7 (example_table 2 1)) ≡ Err (fault_at MORX PastEnd 0))
    × (read_chains (example_table 1 1) ≡ Err (fault_at MORX UnknownFormat 0))
    × (read_chains (example_table 2 1) ≡ Err (fault_at MORX PastEnd 8))
    × (read_chains (one_chain 15 28 4) ≡ Err (fault_at MORX ShortLength 12))
    × (read_chains (one_chain 57 28 4) ≡ Err (fault_at MORX PastEnd 12))
    × (read_chains (one_chain 56 11 4) ≡ Err (fault_at MORX ShortLength 36))
    × (read_chains (one_chain 56 29 4) ≡ Err (fault_at MORX PastEnd 36))
    × (read_chains (example_table 2 1 ++ example_chain 16 0 1 0) ≡ Err (fault_at MORX PastEnd 20))
    × (read_chains (one_chain 55 28 4) ≡ Err (fault_at MORX PastEnd 36))
    × (read_chains (example_table 2 1 ++ example_chain 28 2 0 0 ++ example_feature) ≡ Err (fault_at MORX PastEnd 36))
    × (read_chains (example_table 2 1 ++ example_chain 16 1 0 0 ++ example_feature) ≡ Err (fault_at MORX PastEnd 24))
