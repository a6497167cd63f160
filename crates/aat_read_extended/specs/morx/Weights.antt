-- What a table that is read weighs: the bytes of memory that its chains, features and subtables take.
use Rattle.std.specs.Prelude.{ℕ, ◌+◌, ◌*◌, ◌-◌, List, length, take}
use Rattle.aat_bytes.specs.Numbers.{be32}
use Rattle.aat_machine_tables.specs.declared.morx.Subtable.{Subtable}
use Rattle.aat_read_machine.specs.InTurn.{weight_in_turn}
use Rattle.aat_read_machine.specs.Weights.{kind_weight}
use Rattle.aat_read_extended.specs.morx.Chains.{ChainStart, ChainValue, chain_at, first_chain}
use Rattle.aat_read_extended.specs.morx.ChainSubtables.{subtable_at}
use Rattle.aat_read_extended.specs.morx.Reaches.{allowance}
use Rattle.aat_read_extended.specs.declared.morx.reach.Reach.{Reach}
use Rattle.aat_read_extended.specs.declared.morx.weights.TheConstants.{CHAIN_SIZE, FEATURE_SIZE, SUBTABLE_SIZE}

-- a subtable that starts at a place and ends at another, with what it does
abbrev pub subtable_weight : List ℕ → ℕ → Reach → ℕ → Subtable → ℕ → ℕ
subtable_weight bytes glyph_count reach place subtable end =
    SUBTABLE_SIZE + kind_weight (take (end + reach.allowance) bytes) (place + 12) glyph_count subtable.kind

-- so many subtables, of which the first starts at a place
abbrev pub subtables_weight : List ℕ → ℕ → Reach → ℕ → ℕ → ℕ
subtables_weight bytes glyph_count reach count start =
    weight_in_turn (subtable_at bytes glyph_count reach) (subtable_weight bytes glyph_count reach) count start

-- how far the subtables of a chain may reach that starts at a place and ends at another
abbrev pub chain_reach : List ℕ → ℕ → ℕ → Reach
chain_reach bytes place end =
    record { end = end; allowance = allowance (end - place) (be32 bytes (place + 12)) }

-- a chain, with its features and with its subtables, which stand behind them
abbrev pub chain_weight : List ℕ → ℕ → ChainStart → ChainValue → ChainStart → ℕ
chain_weight bytes glyph_count start chain next =
    CHAIN_SIZE + FEATURE_SIZE * length chain.features
    + subtables_weight bytes glyph_count (chain_reach bytes start.place next.place) (be32 bytes (start.place + 12))
    (start.place + 16 + 12 * be32 bytes (start.place + 8))

-- all chains of a table
abbrev pub morx_weight : List ℕ → ℕ → ℕ
morx_weight bytes glyph_count =
    weight_in_turn (chain_at bytes glyph_count) (chain_weight bytes glyph_count) (be32 bytes 4) first_chain
