use Rattle.std.proofs.Common.{◌≡◌, ◌++◌, Ok, drop, length}
use Rattle.aat_write_machine.specs.Contextual.{byte_lists, lookups_written}
use Rattle.aat_write_machine.specs.MorxWriteErrors.{after_written}
use Rattle.aat_write_machine.proofs.tables.lookup_tables.Given as goal

abbrev pub invariant-loop-lookup : goal.invariant-loop-lookup
invariant-loop-lookup l = record {
  written : lookups_written l.lookups
      ≡ after_written (lookups_written (drop l.lookup-index l.lookups)) (λ rest. Ok (byte_lists l.tables.items ++ rest));
  count : length l.tables.items ≡ l.lookup-index;
}
