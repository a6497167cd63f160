use Rattle.std.proofs.Common.{◌≡◌, ◌≤◌, vec_len}
use Rattle.aat_read_extended.specs.morx.ChainSubtables.{subtable_at}
use Rattle.aat_read_machine.specs.InTurn.{in_turn}
use Rattle.aat_read_machine.specs.facts.Turns.{behind}
use Rattle.aat_read_extended.proofs.morx.chain_subtables.subtables.Given as goal

abbrev pub invariant-loop : goal.invariant-loop
invariant-loop l =
    (in_turn (subtable_at l.bytes l.glyph_count l.reach) l.count l.start
    ≡ behind (subtable_at l.bytes l.glyph_count l.reach) l.count l.subtables.items l.counter l.place)
    × (vec_len l.subtables ≡ l.counter)
    × (l.place ≤ l.reach.end)
