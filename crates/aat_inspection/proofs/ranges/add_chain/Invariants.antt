use Rattle.std.proofs.Common.{◌≡◌, ◌++◌, map, take}
use Rattle.aat_inspection.specs.Inspected.{table_line}
use Rattle.aat_inspection.specs.inside.Lines.{line_over}
use Rattle.aat_inspection.proofs.ranges.add_chain.Given as goal

abbrev pub invariant-loop-range : goal.invariant-loop-range
invariant-loop-range l =
    map table_line l.inspected.items ≡ map table_line l.fn.inspected.items ++ map (line_over l.fn.place l.fn.chain) (take l.range-index l.fn.ranges)
