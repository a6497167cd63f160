use Rattle.std.proofs.Common.{rules, ◌≡◌, ◌<◌, ◌≤◌, ◌∙◌, Some, sym, ap, subst, arith, length, get_or}
use Rattle.std.proofs.lemmas.List.Sorted.{answers_always}
use Rattle.aat_lookup.specs.Segments.{last_of}
use Rattle.aat_lookup.specs.declared.segments.LookupSegment.{LookupSegment}
use Rattle.aat_lookup.specs.facts.Search.{search_sides}
use Rattle.aat_lookup.proofs.SegmentValues.{lasts_rise, value_at_last, value_between, value_inside}
use Rattle.aat_lookup.proofs.segments.value_in_segments.Goals as goal

pub returns-in-Ok : goal.returns-in-Ok
returns-in-Ok c =
    let segments = c.args.segments.now in
    let facts = c.binary_search_by_key.ensures in
    let by_key = facts.position last_of (search (rules, answers_always)) in
    let sides = rw c.in-Ok.is at (search_sides last_of segments (lasts_rise segments c.requires) c.args.glyph _ facts.bound by_key) in
    let d : LookupSegment = record { first_glyph = 0; last_glyph = 0; value = 0 } in
    sym (value_at_last segments c.requires c.args.glyph c.in-Ok.place d sides.0 (sides.1 d))

pub returns-else-glyph-segment : goal.returns-else-glyph-segment
returns-else-glyph-segment c =
    let segments = c.args.segments.now in
    let facts = c.binary_search_by_key.ensures in
    let by_key = facts.position last_of (search (rules, answers_always)) in
    let sides = rw c.in-Err.is at (search_sides last_of segments (lasts_rise segments c.requires) c.args.glyph _ facts.bound by_key) in
    let x : LookupSegment = c.in-Some.segment.now in
    let there : x ≡ get_or segments c.in-Err.place x = c.in-Some.ensures.lookup.1 in
    let within : c.in-Err.place < length segments = c.in-Some.ensures.lookup.3.0 in
    let low : (get_or segments c.in-Err.place x).first_glyph ≤ c.args.glyph = subst (λ (s : LookupSegment). s.first_glyph ≤ c.args.glyph) there c.if-glyph-segment.false in
    let high = (sides c.in-Err.place x within).1 (omega arith) in
    ap (λ (s : LookupSegment). Some s.value) there
    ∙ sym (value_inside segments c.requires c.args.glyph c.in-Err.place x within low high)

pub returns-then-glyph-segment : goal.returns-then-glyph-segment
returns-then-glyph-segment c =
    let segments = c.args.segments.now in
    let facts = c.binary_search_by_key.ensures in
    let by_key = facts.position last_of (search (rules, answers_always)) in
    let sides = rw c.in-Err.is at (search_sides last_of segments (lasts_rise segments c.requires) c.args.glyph _ facts.bound by_key) in
    let behind : (d : LookupSegment) → c.in-Err.place < length segments → c.args.glyph < (get_or segments c.in-Err.place d).first_glyph = λ d within. subst (λ (s : LookupSegment). c.args.glyph < s.first_glyph) (c.in-Some.ensures.lookup.4 (omega arith) d) c.if-glyph-segment.true in
    sym (value_between segments c.requires c.args.glyph c.in-Err.place (λ j d within. (sides j d within).0) behind)

pub returns-in_default : goal.returns-in_default
returns-in_default c =
    let segments = c.args.segments.now in
    let facts = c.binary_search_by_key.ensures in
    let by_key = facts.position last_of (search (rules, answers_always)) in
    let sides = rw c.in-Err.is at (search_sides last_of segments (lasts_rise segments c.requires) c.args.glyph _ facts.bound by_key) in
    let past : length segments ≤ c.in-Err.place = rw c.in_default.is at c.get.ensures.lookup.3 in
    sym (value_between segments c.requires c.args.glyph c.in-Err.place (λ j d within. (sides j d within).0) (λ d within. omega (arith, past, within)))
