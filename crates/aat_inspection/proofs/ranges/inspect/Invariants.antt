use Rattle.std.proofs.Common.{◌≤◌, length, map}
use Rattle.std.specs.Prelude.{All}
use Rattle.aat_layout.specs.Face.{chains_in, tables_of}
use Rattle.aat_layout.specs.Requests.{requests_of}
use Rattle.aat_inspection.specs.Inspected.{IsAsked, Lead, table_line}
use Rattle.aat_inspection.proofs.ranges.inspect.Given as goal

abbrev pub invariant-loop-place : goal.invariant-loop-place
invariant-loop-place l = record {
  asked : All (IsAsked (requests_of (tables_of l.fn.face).feat l.fn.features) (chains_in (tables_of l.fn.face).morx)) (map table_line l.ranges.items);
  lead : Lead (0, 0) (l.place, 0) (map table_line l.ranges.items);
  within : l.place ≤ length (chains_in (tables_of l.fn.face).morx);
}
