use Rattle.std.proofs.Common.{◌∙◌, ap, arith, length, refl, ℕ}
use Rattle.std.specs.Prelude.{slice_range}
use Rattle.aat_shaper.proofs.Stops.{start_below, stop_read}
use Rattle.aat_shaper.proofs.Stretches.{drawn_by_itself}
use Rattle.aat_shaper.specs.Lines.{start_of, stop_at}
use Rattle.aat_shaper.specs.Shaper.{value_along}
use Rattle.aat_shaper.specs.declared.lines.LineStop.{LineStop}
use Rattle.aat_shaper.proofs.lines.filling.Filling.draw.Goals as goal

pub stretch_between-requires-clause-order : goal.stretch_between-requires-clause-order
stretch_between-requires-clause-order g c =
    let f = c.args.self.now in
    let row = f.stops.now in
    let below = start_below (length f.text.now) row c.requires.ready.stops c.args.first c.args.last c.requires.order
    c.requires.in_stops
    in
    let read = ap (λ (s : LineStop). s.place) (stop_read row c.args.last c.requires.in_stops) in
    omega (arith, below, read, c.start_of-start.ensures)

pub stretch_between-requires-clause-in_text : goal.stretch_between-requires-clause-in_text
stretch_between-requires-clause-in_text g c =
    let f = c.args.self.now in
    let row = f.stops.now in
    let within = c.requires.ready.stops.within c.args.last c.requires.in_stops in
    let read = ap (λ (s : LineStop). s.place) (stop_read row c.args.last c.requires.in_stops) in
    omega (arith, within, read)

pub part-requires-clause-order : goal.part-requires-clause-order
part-requires-clause-order g c =
    let f = c.args.self.now in
    let row = f.stops.now in
    let below = start_below (length f.text.now) row c.requires.ready.stops c.args.first c.args.last c.requires.order
    c.requires.in_stops
    in
    let read = ap (λ (s : LineStop). s.place) (stop_read row c.args.last c.requires.in_stops) in
    omega (arith, below, read, c.start_of-start.ensures)

pub part-requires-clause-in_text : goal.part-requires-clause-in_text
part-requires-clause-in_text g c =
    let f = c.args.self.now in
    let row = f.stops.now in
    let within = c.requires.ready.stops.within c.args.last c.requires.in_stops in
    let read = ap (λ (s : LineStop). s.place) (stop_read row c.args.last c.requires.in_stops) in
    omega (arith, within, read)

pub returns-clause-alone : goal.returns-clause-alone
returns-clause-alone g c =
    let f = c.args.self.now in
    let row = f.stops.now in
    let read = ap (λ (s : LineStop). s.place) (stop_read row c.args.last c.requires.in_stops) in
    drawn_by_itself c.shape.new.self.glyphs (value_along c.args.shaper.now.values f.direction) f.value
    c.args.shaper.now.font f.font.now f.direction f.features.now f.text.now c.part.result.now c.start_of-start.result
    (start_of row c.args.first) (stop_at row c.args.last).place (stop_at row c.args.last).place
    c.in_ok-shape.ensures.shaped c.requires.shaper.value c.requires.shaper.font
    (c.part.ensures ∙ ap (λ (m : ℕ). slice_range f.text.now c.start_of-start.result m) read) c.start_of-start.ensures refl
