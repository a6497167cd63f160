-- The chains of a table in the words of its bytes. Apple's TrueType Reference Manual, "The 'morx' table".
use Rattle.std.specs.Prelude.{◌≡◌, ℕ, ◌+◌, ◌*◌, ◌≤◌, List, length, take, Ok}
use Rattle.aat_bytes.specs.Numbers.{be32}
use Rattle.aat_machine_tables.specs.declared.morx.Subtable.{Subtable}
use Rattle.aat_read_machine.specs.InTurn.{AreInOrder, end_by, place_in_turn}
use Rattle.aat_read_machine.specs.SubtableKinds.{subtable_kind_at}
use Rattle.aat_read_extended.specs.morx.ChainFeatures.{feature_at}
use Rattle.aat_read_extended.specs.morx.ChainSubtables.{coverage_at, flags_at, kind_at}
use Rattle.aat_read_extended.specs.morx.Chains.{ChainValue}
use Rattle.aat_read_extended.specs.morx.Weights.{chain_reach}
use Rattle.aat_read_extended.specs.declared.morx.reach.Reach.{Reach}

-- the chains start behind a header of 8 bytes, and have their length at 4
abbrev pub chain_place : List ℕ → ℕ → ℕ
chain_place bytes i = place_in_turn bytes 4 8 i

-- the features of a chain start behind a header of 16 bytes, and have 12 bytes each
abbrev pub feature_place : ℕ → ℕ → ℕ
feature_place place i = place + 16 + 12 * i

-- the subtables of a chain start behind its features, and have their length at 0
abbrev pub subtable_place : List ℕ → ℕ → ℕ → ℕ
subtable_place bytes place i = place_in_turn bytes 0 (feature_place place (be32 bytes (place + 8))) i

-- a subtable is that of the bytes at a place of its chain: it has its header of 12 bytes and ends in the chain, coverage
-- and feature flags are those of the header, and what it does is what the bytes say by its kind, as far as it may reach
pub record IsSubtableAt (bytes : List ℕ) (glyph_count : ℕ) (reach : Reach) (place : ℕ) (s : Subtable) : Type 0 where
  pub header : place + 12 ≤ end_by bytes 0 place
  pub inside : end_by bytes 0 place ≤ reach.end
  pub coverage : s.coverage ≡ coverage_at bytes place
  pub feature_flags : s.feature_flags ≡ flags_at bytes place
  pub kind :
      subtable_kind_at (take (end_by bytes 0 place + reach.allowance) bytes) (place + 12) (kind_at bytes place) glyph_count
      ≡ Ok s.kind

-- a chain is that of the bytes at a place: it ends in the table, and its features in it; it has the flags at 0, as many
-- features as the number at 8 says, in order, and as many subtables as that at 12 says, in order
pub record IsChainAt (bytes : List ℕ) (glyph_count place : ℕ) (c : ChainValue) : Type 0 where
  pub inside : end_by bytes 4 place ≤ length bytes
  pub features_inside : feature_place place (be32 bytes (place + 8)) ≤ end_by bytes 4 place
  pub default_flags : c.default_flags ≡ be32 bytes place
  pub features :
      AreInOrder c.features (be32 bytes (place + 8)) (λ i feature. feature ≡ feature_at bytes (feature_place place i))
  pub subtables :
      AreInOrder c.subtables (be32 bytes (place + 12)) (λ i subtable.
      IsSubtableAt bytes glyph_count (chain_reach bytes place (end_by bytes 4 place)) (subtable_place bytes place i) subtable)
