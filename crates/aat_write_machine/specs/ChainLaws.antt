-- Chains that are written are read again.
use Rattle.std.specs.Prelude.{◌≡◌, ℕ, ◌<◌, List, ◌++◌, length, All, true, bit_and, Ok}
use Rattle.std.specs.List.{AllZip}
use Rattle.aat_machine_tables.specs.declared.morx.ChainFeature.{ChainFeature}
use Rattle.aat_machine_tables.specs.declared.morx.Subtable.{Subtable}
use Rattle.aat_machine_tables.specs.declared.morx.SubtableKind.{SubtableKind}
use Rattle.aat_read_machine.specs.SubtableKinds.{subtable_kind_at}
use Rattle.aat_read_extended.specs.morx.ChainSubtables.{is_known}
use Rattle.aat_read_extended.specs.morx.Chains.{ChainValue, morx_of}
use Rattle.aat_write_machine.specs.MachineLaws.{IsLong, IsWord}
use Rattle.aat_write_machine.specs.ChainBytes.{ChainContent, SubtableContent, chains_written}

-- type and selector of a feature have 16 bits each, and its flags 32
abbrev pub IsFeature : ChainFeature → Type 0
IsFeature f = IsWord f.kind × IsWord f.setting × IsLong f.enable_flags × IsLong f.disable_flags

-- a byte has no more than the four bits of a coverage
abbrev pub IsCoverage : ℕ → Type 0
IsCoverage byte = (byte < 256) × (bit_and byte 240 ≡ byte)

-- the kind of a subtable is one that is known, and its coverage and its flags have their bits
abbrev pub IsSubtable : SubtableContent → Type 0
IsSubtable s = (s.kind < 256) × (is_known s.kind ≡ true) × IsCoverage s.coverage.0 × IsLong s.feature_flags

-- the numbers of a chain have their bits
abbrev pub IsChain : ChainContent → Type 0
IsChain c = IsLong c.default_flags × All IsFeature c.features × All IsSubtable c.subtables

-- the body of a subtable is read as what it does, at a place of some bytes
abbrev pub IsReadAt : ℕ → SubtableContent → SubtableKind → List ℕ → List ℕ → Type 0
IsReadAt glyph_count s does before after =
    subtable_kind_at (before ++ (s.body ++ after)) (length before) s.kind glyph_count ≡ Ok does

-- a body is read at any place, whatever stands behind it
abbrev pub IsReadable : ℕ → SubtableContent → Type 0
IsReadable glyph_count s = (before after : List ℕ) → (does : SubtableKind) × IsReadAt glyph_count s does before after

-- a subtable does what its body is read as at a place. What it does may depend on what stands behind it, since lists
-- have no length of their own
abbrev pub DoesAsRead : ℕ → SubtableContent → SubtableKind → Type 0
DoesAsRead glyph_count s does = (before : List ℕ) × (after : List ℕ) × IsReadAt glyph_count s does before after

-- a subtable that is read has the coverage and the flags that were written, and does what stands in a relation to what
-- was written
abbrev pub IsSameSubtable : (SubtableContent → SubtableKind → Type 0) → SubtableContent → Subtable → Type 0
IsSameSubtable Does s read =
    Does s read.kind × (read.coverage ≡ s.coverage) × (read.feature_flags ≡ s.feature_flags)

-- a chain that is read has the default flags and the features that were written, and such subtables in their order
abbrev pub IsSameChain : (SubtableContent → SubtableKind → Type 0) → ChainContent → ChainValue → Type 0
IsSameChain Does c read =
    (read.default_flags ≡ c.default_flags)
    × (read.features ≡ c.features)
    × AllZip (IsSameSubtable Does) c.subtables read.subtables

-- where each body is read at any place, the table is read as chains of the subtables that the bodies are read as
abbrev pub WrittenChainsAreRead : Type 0
WrittenChainsAreRead =
    (chains : List ChainContent) (bytes : List ℕ) (glyph_count : ℕ)
    → All IsChain chains
    → All (λ (c : ChainContent). All (IsReadable glyph_count) c.subtables) chains
    → chains_written chains ≡ Ok bytes
    → (read : List ChainValue)
    × (morx_of bytes glyph_count ≡ Ok read)
    × AllZip (IsSameChain (DoesAsRead glyph_count)) chains read
