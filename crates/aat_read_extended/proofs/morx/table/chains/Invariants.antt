use Rattle.std.proofs.Common.{◌≡◌, ◌+◌, ◌≤◌, length, map}
use Rattle.aat_machine_tables.specs.Chains.{subtable_count}
use Rattle.aat_read_extended.specs.morx.Chains.{ChainStart, chain_at, first_chain, value_of_chain}
use Rattle.aat_read_machine.specs.InTurn.{in_turn}
use Rattle.aat_read_machine.specs.facts.Turns.{behind}
use Rattle.aat_read_extended.proofs.morx.table.chains.Given as goal

abbrev pub invariant-loop : goal.invariant-loop
invariant-loop l =
    let start : ChainStart = record { place = l.place; most_subtables = l.most_subtables } in
    (in_turn (chain_at l.bytes l.glyph_count) l.count first_chain
    ≡ behind (chain_at l.bytes l.glyph_count) l.count (map value_of_chain l.chains.items) l.counter start)
    × (l.most_subtables + subtable_count l.chains.items ≡ 65535)
    × (l.place ≤ length l.bytes)
