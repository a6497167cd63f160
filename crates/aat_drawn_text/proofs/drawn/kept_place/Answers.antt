use Rattle.std.proofs.Common.{◌<◌, arith, length, refl}
use Rattle.aat_buffer.specs.Buffer.{glyph_at}
use Rattle.aat_drawn_text.proofs.DrawnPlaces.{place_kept}
use Rattle.aat_drawn_text.proofs.Kept.{length_counts}
use Rattle.aat_drawn_text.proofs.drawn.kept_place.Goals as goal

pub bounds-kept-j : goal.bounds-kept-j
bounds-kept-j c =
    let line = c.args.line.now in
    let low : c.in-Some.j < length line = rw c.in-Some.is at c.requires.in_line in
    omega (arith, low, length_counts line c.args.kept.now c.requires.kept)

pub offset_bounds-kept-j : goal.offset_bounds-kept-j
offset_bounds-kept-j c =
    let line = c.args.line.now in
    let low : c.in-Some.j < length line = rw c.in-Some.is at c.requires.in_line in
    omega (arith, low, length_counts line c.args.kept.now c.requires.kept)

pub returns-in-Some : goal.returns-in-Some
returns-in-Some c =
    place_kept c.args.line.now c.in-Some.j (glyph_at c.args.line.now c.in-Some.j) refl c.is_kept.result c.is_kept.ensures c.args.kept.now c.args.place
    c.requires.in_line c.in-Some.is c.requires.kept c.if-is_kept.true
