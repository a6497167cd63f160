-- Worked examples of chains as bytes. Apple's TrueType Reference Manual, "The 'morx' table".
use Rattle.std.specs.Prelude.{◌≡◌, [], ◌∷◌, drop, Ok}
use Rattle.aat_read_extended.specs.morx.MorxExamples.{example_subtable, first_feature, one_chain}
use Rattle.aat_write_machine.specs.ChainBytes.{ChainContent, chains_written}

-- a chain with default flags of 1, the feature of the reader's example and a noncontextual subtable for vertical text,
-- whose body is that of the reader's example
abbrev pub example_chain : ChainContent
example_chain = record {
  default_flags = 1;
  features = first_feature ∷ [];
  subtables = record { kind = 4; coverage = record { 0 = 128 }; feature_flags = 1; body = drop 12 (example_subtable 28 4) } ∷ [];
}

-- it is written as the bytes that the reader's example reads: its length is 56, and that of its subtable 28
abbrev pub OneChainIsWritten : Type 0
OneChainIsWritten = chains_written (example_chain ∷ []) ≡ Ok (one_chain 56 28 4)

-- a table without chains is its header
abbrev pub NoChainsAreWritten : Type 0
NoChainsAreWritten = chains_written [] ≡ Ok (0 ∷ 2 ∷ 0 ∷ 0 ∷ 0 ∷ 0 ∷ 0 ∷ 0 ∷ [])
