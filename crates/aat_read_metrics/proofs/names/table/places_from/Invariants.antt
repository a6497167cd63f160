use Rattle.std.proofs.Common.{◌≡◌, ◌+◌, ◌-◌, ◌*◌, ◌≤◌, ◌++◌}
use Rattle.aat_read_metrics.specs.names.Names.{places_from}
use Rattle.aat_read_metrics.proofs.names.table.places_from.Given as goal

abbrev pub invariant-loop-done : goal.invariant-loop-done
invariant-loop-done l = record {
  near : l.place ≤ l.start + 256 * l._done;
  rest : l.places.items ++ places_from l.post l.place (l.count - l._done) ≡ places_from l.post l.start l.count;
}
