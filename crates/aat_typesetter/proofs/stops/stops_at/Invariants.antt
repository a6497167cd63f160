use Rattle.std.proofs.Common.{◌≡◌, map, take}
use Rattle.aat_text.specs.declared.lines.LineEnd.{LineEnd}
use Rattle.aat_typesetter.specs.Stops.{count_before, stop_behind}
use Rattle.aat_typesetter.proofs.stops.stops_at.Given as goal

abbrev pub invariant-loop-end : goal.invariant-loop-end
invariant-loop-end g l =
    l.stops.items
    ≡ map (λ (end : LineEnd). stop_behind l.space l.text end.is_forced (count_before end.place l.text)) (take l.end-index l.ends)
