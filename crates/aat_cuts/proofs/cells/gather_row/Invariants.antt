use Rattle.std.proofs.Common.{◌≡◌, ◌<◌, ℕ, Some}
use Rattle.std.specs.List.{All, Contains}
use Rattle.aat_machine_tables.specs.Table.{Rule, entry_of}
use Rattle.aat_machine_tables.specs.declared.state_table.GenericStateEntry.{GenericStateEntry}
use Rattle.aat_cuts.specs.Reached.{IsCell}
use Rattle.aat_cuts.proofs.cells.gather_row.Given as goal

abbrev pub invariant-loop-class : goal.invariant-loop-class
invariant-loop-class g l = record {
  sound : All (IsCell l.table) l.cells.items;
  kept : (c : Rule (GenericStateEntry g.row.T.Denot)) → Contains l.initial.cells.items c → Contains l.cells.items c;
  row : (k : ℕ) (e : GenericStateEntry g.row.T.Denot) → k < l.class → entry_of l.table l.state k ≡ Some e → Contains l.cells.items (l.state, k, e);
}
