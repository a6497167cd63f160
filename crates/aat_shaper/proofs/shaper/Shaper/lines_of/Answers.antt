use Rattle.std.proofs.Common.{◌≡◌, ◌∙◌, List, ap, length, subst, sym}
use Rattle.aat_shaper.proofs.Stops.{stops_are, stops_end}
use Rattle.aat_shaper.specs.Lines.{start_of, stops_behind}
use Rattle.aat_shaper.specs.declared.lines.LineStop.{LineStop}
use Rattle.aat_shaper.specs.inside.Filling.{AreStops}
use Rattle.aat_shaper.proofs.shaper.Shaper.lines_of.Goals as goal

pub lines_at-requires-clause-stops : goal.lines_at-requires-clause-stops
lines_at-requires-clause-stops g c =
    let n = length c.args.text.now in
    subst (λ (row : List LineStop). AreStops n row) (c.is_row.ensures c.if-is_row.true) (stops_are n c.args.stops.now)

pub returns-then-is_row-clause-end : goal.returns-then-is_row-clause-end
returns-then-is_row-clause-end g c =
    let n = length c.args.text.now in
    let stops = c.args.stops.now in
    let end : start_of stops (length stops) ≡ n =
    ap (λ (ts : List LineStop). start_of ts (length ts)) (sym (c.is_row.ensures c.if-is_row.true)) ∙ stops_end n stops
    in
    rw end at c.lines_at.ensures.end

pub lines_at-requires-2-clause-stops : goal.lines_at-requires-2-clause-stops
lines_at-requires-2-clause-stops g c =
    let n = length c.args.text.now in
    subst (λ (row : List LineStop). AreStops n row) (sym (c.deref.ensures.value ∙ c.in_ok-row.ensures))
    (stops_are n c.args.stops.now)

pub returns-clause-end : goal.returns-clause-end
returns-clause-end g c =
    let n = length c.args.text.now in
    let row : c.deref.result.now ≡ stops_behind 0 n c.args.stops.now = c.deref.ensures.value ∙ c.in_ok-row.ensures in
    let end : start_of c.deref.result.now (length c.deref.result.now) ≡ n =
    ap (λ (ts : List LineStop). start_of ts (length ts)) row ∙ stops_end n c.args.stops.now
    in
    rw end at c.lines_at-2.ensures.end
