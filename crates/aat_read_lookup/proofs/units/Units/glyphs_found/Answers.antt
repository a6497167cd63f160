use Rattle.std.proofs.Common.{◌≡◌, ℕ, ◌+◌, ◌-◌, ◌/◌, sym, ap, ◌∙◌, subst, arith}
use Rattle.aat_bytes.specs.Bisection.{nearest}
use Rattle.aat_bytes.specs.facts.FoundKeys.{Narrows, on_it, on_left, on_right}
use Rattle.aat_read_lookup.specs.Segments.{end_of}
use Rattle.aat_read_lookup.specs.declared.segment.Segment.{Segment}
use Rattle.aat_read_lookup.proofs.SoundUnits.{behind, low, wide}
use Rattle.aat_read_lookup.proofs.units.Units.glyphs_found.Goals as goal

pub way-preserved-then-wanted-middle : goal.way-preserved-then-wanted-middle
way-preserved-then-wanted-middle c =
    let bytes = c.args.bytes.now in
    let units = c.args.self in
    let way = c.way in
    let start = c.nearest-start.ensures ∙ ap (λ (u : Segment). nearest way.first way.end u.first) c.unit-unit.ensures.is in
    subst (λ (end : ℕ). Narrows (low bytes units) (behind bytes units) units.count 65536 c.args.i way.from ((way.from + (way.to - 1)) / 2) way.first end)
    (sym start)
    (on_left (low bytes units) (behind bytes units) (wide bytes units) units.count 65536 c.args.i way.from way.to way.first way.end way.invariant c.if-wanted-middle.true)

pub way-preserved : goal.way-preserved
way-preserved c =
    let bytes = c.args.bytes.now in
    let units = c.args.self in
    let way = c.way in
    let stop = c.nearest-stop.ensures ∙ ap (λ (u : Segment). nearest way.first way.end (end_of u)) c.unit-unit.ensures.is in
    subst (λ (first : ℕ). Narrows (low bytes units) (behind bytes units) units.count 65536 c.args.i ((way.from + (way.to - 1)) / 2 + 1) way.to first way.end)
    (sym stop)
    (on_right (low bytes units) (behind bytes units) (wide bytes units) units.count 65536 c.args.i way.from way.to way.first way.end way.invariant c.if-middle-wanted.true)

pub returns-else-middle-wanted-clause-is : goal.returns-else-middle-wanted-clause-is
returns-else-middle-wanted-clause-is c =
    let bytes = c.args.bytes.now in
    let units = c.args.self in
    let way = c.way in
    let start = c.nearest-start.ensures ∙ ap (λ (u : Segment). nearest way.first way.end u.first) c.unit-unit.ensures.is in
    let stop = c.nearest-stop.ensures ∙ ap (λ (u : Segment). nearest way.first way.end (end_of u)) c.unit-unit.ensures.is in
    let here : (way.from + (way.to - 1)) / 2 ≡ c.args.i = omega arith in
    let front : ℕ → ℕ × ℕ = λ first. (first, c.nearest-stop.result) in
    let back : ℕ → ℕ × ℕ = λ end. (nearest way.first way.end (low bytes units ((way.from + (way.to - 1)) / 2)), end) in
    ap front start ∙ ap back stop
    ∙ on_it (low bytes units) (behind bytes units) (wide bytes units) units.count 65536 c.args.i way.from way.to way.first way.end way.invariant here
