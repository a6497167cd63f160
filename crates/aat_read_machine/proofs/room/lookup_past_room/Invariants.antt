use Rattle.std.proofs.Common.{◌≡◌, ◌+◌, ◌≤◌, ◌<◌, ℕ, false}
use Rattle.std.specs.Prelude.{nat_lt}
use Rattle.aat_read_machine.specs.Room.{lookups_cost}
use Rattle.aat_read_machine.proofs.room.lookup_past_room.Given as goal

abbrev pub invariant-loop-i : goal.invariant-loop-i
invariant-loop-i l = record {
  used : l.used ≡ lookups_cost l.bytes l.list l.glyph_count l.i;
  within : l.used ≤ l.room;
  before : (j : ℕ) → 0 ≤ j → j < l.i → nat_lt l.room (lookups_cost l.bytes l.list l.glyph_count (j + 1)) ≡ false;
}
