-- The chains of an extended glyph metamorphosis table. Apple's TrueType Reference Manual, "The 'morx' table".
use Rattle.std.specs.Prelude.{ℕ, ◌+◌, ◌*◌, ◌-◌, List, length, map, take, Result, Ok, Err, if◌then◌else◌, nat_lt, ◌==◌, ◌||◌}
use Rattle.aat_bytes.specs.Faults.{after, fault_at}
use Rattle.aat_bytes.specs.Numbers.{be16, be32}
use Rattle.aat_bytes.specs.declared.error.Fault.{Fault}
use Rattle.aat_bytes.specs.declared.error.FaultKind.TheVariants.{PastEnd, UnknownFormat}
use Rattle.aat_bytes.specs.declared.tags.TheConstants.{MORX}
use Rattle.aat_font.specs.Morx.{chains_of}
use Rattle.aat_machine_tables.specs.declared.morx.Chain.{Chain}
use Rattle.aat_machine_tables.specs.declared.morx.ChainFeature.{ChainFeature}
use Rattle.aat_font.specs.declared.morx.Morx.{Morx}
use Rattle.aat_machine_tables.specs.declared.morx.Subtable.{Subtable}
use Rattle.aat_read_extended.specs.morx.ChainFeatures.{whole_features}
use Rattle.aat_read_extended.specs.morx.ChainSubtables.{subtables_at}
use Rattle.aat_read_machine.specs.InTurn.{in_turn}
use Rattle.aat_read_extended.specs.morx.InTurn.{end_at}
use Rattle.aat_read_extended.specs.morx.Reaches.{allowance}
use Rattle.aat_read_extended.specs.declared.morx.reach.Reach.{Reach}

-- what a chain holds
pub record ChainValue : Type 0 where
  pub default_flags : ℕ
  pub features : List ChainFeature
  pub subtables : List Subtable

-- what a typed chain holds
abbrev pub value_of_chain : Chain → ChainValue
value_of_chain c =
    record { default_flags = c.default_flags; features = c.features.items; subtables = c.subtables.items }

-- what a typed table holds
abbrev pub values_of_morx : Morx → List ChainValue
values_of_morx morx = map value_of_chain (chains_of morx)

-- where a chain starts, and how many subtables it may have, so that all chains have no more than 65,535
pub record ChainStart : Type 0 where
  pub place : ℕ
  pub most_subtables : ℕ

-- the first chain stands behind the header of the table
abbrev pub first_chain : ChainStart
first_chain = record { place = 8; most_subtables = 65535 }

-- the chain of a header at a place, up to its end: default flags, its length, then the numbers of its features and of
-- its subtables, which stand behind it in this order
unfoldable pub chain_value_at : List ℕ → ℕ → ChainStart → ℕ → Result ChainValue Fault
chain_value_at bytes glyph_count start end =
    let feature_count = be32 bytes (start.place + 8) in
    let subtable_count = be32 bytes (start.place + 12) in
    let reach : Reach = record { end = end; allowance = allowance (end - start.place) subtable_count } in
    if nat_lt start.most_subtables subtable_count then Err (fault_at MORX PastEnd (start.place + 12)) else
    after (whole_features (take end bytes) (start.place + 16) feature_count) (λ features.
    after (subtables_at bytes glyph_count reach subtable_count (start.place + 16 + 12 * feature_count)) (λ subtables.
    Ok (record { default_flags = be32 bytes start.place; features = features; subtables = subtables })))

-- where the chain behind a chain starts
abbrev pub start_behind : ℕ → ChainValue → ℕ → ChainStart
start_behind most_subtables chain end =
    record { place = end; most_subtables = most_subtables - length chain.subtables }

-- what a typed chain holds, and where the chain behind it starts, from where it ends
abbrev pub value_and_next : ℕ → Chain × ℕ → ChainValue × ChainStart
value_and_next most_subtables read =
    (value_of_chain read.0, start_behind most_subtables (value_of_chain read.0) read.1)

-- the chain that starts there, and where the next one starts
unfoldable pub chain_at : List ℕ → ℕ → ChainStart → Result (ChainValue × ChainStart) Fault
chain_at bytes glyph_count start =
    after (end_at bytes start.place 16 4) (λ end.
    after (chain_value_at bytes glyph_count start end) (λ chain.
    Ok (chain, start_behind start.most_subtables chain end)))

-- the chains of the table, or its first fault: version 2 or 3, and behind it the number of chains
unfoldable pub morx_of : List ℕ → ℕ → Result (List ChainValue) Fault
morx_of bytes glyph_count =
    if nat_lt (length bytes) 8 then Err (fault_at MORX PastEnd 0) else
    if (be16 bytes 0 == 2) || (be16 bytes 0 == 3) then
    in_turn (chain_at bytes glyph_count) (be32 bytes 4) first_chain
    else Err (fault_at MORX UnknownFormat 0)
