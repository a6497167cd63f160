use Rattle.std.proofs.Common.{◌*◌, ◌≤◌}
use Rattle.aat_lookup.specs.Keys.{first}
use Rattle.aat_lookup.specs.inside.Walks.{AreBelow}
use Rattle.aat_lookup.proofs.pages.page_count.Given as goal

abbrev pub invariant-loop-page : goal.invariant-loop-page
invariant-loop-page l = record {
  few : l.count ≤ l.page;
  passed : AreBelow first l.fn.pairs l.at (l.page * 256);
}
