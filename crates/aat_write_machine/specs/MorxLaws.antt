-- A table of chains that is written is read again. Apple's TrueType Reference Manual, "The 'morx' table".
use Rattle.std.specs.Prelude.{◌≡◌, ℕ, List, All, Ok}
use Rattle.std.specs.List.{AllZip}
use Rattle.aat_machine_tables.specs.declared.morx.Subtable.{Subtable}
use Rattle.aat_read_extended.specs.morx.Chains.{ChainValue, morx_of}
use Rattle.aat_write_machine.specs.SubtableKindLaws.{IsSubtableKind, ReadsAs}
use Rattle.aat_write_machine.specs.MachineLaws.{IsLong}
use Rattle.aat_write_machine.specs.ChainLaws.{IsCoverage, IsFeature}
use Rattle.aat_write_machine.specs.MorxBytes.{morx_written}

-- the numbers of a typed subtable have their bits
abbrev pub IsTypedSubtable : Subtable → Type 0
IsTypedSubtable s = IsSubtableKind s.kind × IsCoverage s.coverage.0 × IsLong s.feature_flags

-- the numbers of a typed chain have their bits
abbrev pub IsTypedChain : ChainValue → Type 0
IsTypedChain c = IsLong c.default_flags × All IsFeature c.features × All IsTypedSubtable c.subtables

-- a subtable that is read does the same as the one that was written, for the same text and with the same flags
abbrev pub SubtableReadsAs : Subtable → Subtable → Type 0
SubtableReadsAs s read =
    ReadsAs s.kind read.kind × (read.coverage ≡ s.coverage) × (read.feature_flags ≡ s.feature_flags)

-- a chain that is read has the default flags and the features of the one that was written, and the same subtables
abbrev pub ChainReadsAs : ChainValue → ChainValue → Type 0
ChainReadsAs c read =
    (read.default_flags ≡ c.default_flags)
    × (read.features ≡ c.features)
    × AllZip SubtableReadsAs c.subtables read.subtables

-- the reader gives the chains that were written: the same machines, lookups and pairs, and lists that begin with those
-- that were written
abbrev pub WrittenMorxIsRead : Type 0
WrittenMorxIsRead =
    (chains : List ChainValue) (bytes : List ℕ) (glyph_count : ℕ)
    → All IsTypedChain chains
    → morx_written chains ≡ Ok bytes
    → (read : List ChainValue) × (morx_of bytes glyph_count ≡ Ok read) × AllZip ChainReadsAs chains read
