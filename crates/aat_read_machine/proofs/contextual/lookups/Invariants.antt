use Rattle.std.proofs.Common.{◌≡◌}
use Rattle.aat_read_machine.specs.Contextual.{listed_lookup, lookups_at}
use Rattle.aat_read_machine.proofs.Listed.{behind}
use Rattle.aat_read_machine.proofs.contextual.lookups.Given as goal

abbrev pub invariant-loop-i : goal.invariant-loop-i
invariant-loop-i l =
    lookups_at l.bytes l.list l.glyph_count l.count
    ≡ behind (listed_lookup l.bytes l.list l.glyph_count) l.count l.lookups.items l.i
