use Rattle.std.proofs.Common.{◌≡◌, ◌++◌, drop, take}
use Rattle.aat_shaper.specs.Lines.{stops_behind}
use Rattle.aat_shaper.proofs.lines.row.is_row.Given as goal

abbrev pub invariant-loop-stop : goal.invariant-loop-stop
invariant-loop-stop l =
    take l.stop-index l.stops ++ stops_behind l.place l.len (drop l.stop-index l.stops) ≡ stops_behind 0 l.len l.stops
