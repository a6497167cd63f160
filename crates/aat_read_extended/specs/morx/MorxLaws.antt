-- What a table has that is read. Apple's TrueType Reference Manual, "The 'morx' table".
use Rattle.std.specs.Prelude.{◌≡◌, ℕ, ◌≤◌, List, length, sum_by, ◌*◌, Ok}
use Rattle.aat_bytes.specs.Numbers.{be32}
use Rattle.aat_read_machine.specs.InTurn.{AreInOrder}
use Rattle.aat_read_extended.specs.morx.Chains.{ChainValue, morx_of}
use Rattle.aat_read_extended.specs.morx.ChainsOfBytes.{IsChainAt, chain_place}
use Rattle.aat_read_extended.specs.morx.Weights.{morx_weight}

-- it has the chains of its bytes, in their order, as many as the number at 4 says
abbrev pub ChainsAreThoseOfBytes : Type 0
ChainsAreThoseOfBytes =
    (bytes : List ℕ) (glyph_count : ℕ) (chains : List ChainValue)
    → morx_of bytes glyph_count ≡ Ok chains
    → AreInOrder chains (be32 bytes 4) (λ i chain. IsChainAt bytes glyph_count (chain_place bytes i) chain)

-- it has as many chains as its header says, and no more than 65,535 subtables
abbrev pub ChainsAreCounted : Type 0
ChainsAreCounted =
    (bytes : List ℕ) (glyph_count : ℕ) (chains : List ChainValue)
    → morx_of bytes glyph_count ≡ Ok chains
    → (length chains ≡ be32 bytes 4) × (sum_by (λ (c : ChainValue). length c.subtables) chains ≤ 65535)

-- it takes at most 24 bytes of memory for each byte of the table
abbrev pub MemoryIsBounded : Type 0
MemoryIsBounded =
    (bytes : List ℕ) (glyph_count : ℕ) (chains : List ChainValue)
    → morx_of bytes glyph_count ≡ Ok chains → morx_weight bytes glyph_count ≤ 24 * length bytes
