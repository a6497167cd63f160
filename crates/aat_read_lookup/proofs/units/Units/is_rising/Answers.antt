use Rattle.std.proofs.Common.{◌≡◌, ◌+◌, sym, ap, subst, arith}
use Rattle.aat_read_lookup.specs.Layouts.{unit_at}
use Rattle.aat_read_lookup.specs.Segments.{end_of}
use Rattle.aat_read_lookup.specs.declared.segment.Segment.{Segment}
use Rattle.aat_read_lookup.specs.inside.Sound.{RiseTo}
use Rattle.aat_read_lookup.proofs.RisingUnits.{rises_by, rises_more}
use Rattle.aat_read_lookup.proofs.units.Units.is_rising.Goals as goal

pub loop-i-init : goal.loop-i-init
loop-i-init c = (record { within = λ i below. absurd (omega arith); ordered = λ i j less below. absurd (omega arith) }, omega arith)

pub loop-i-preserved : goal.loop-i-preserved
loop-i-preserved c =
    let bytes = c.args.bytes.now in
    let units = c.args.self in
    let unit = c.unit-unit.ensures.is in
    let first : c.unit-unit.result.first ≡ (unit_at bytes units c.loop-i.i).first = ap (λ (u : Segment). u.first) unit in
    let end : end_of c.unit-unit.result ≡ end_of (unit_at bytes units c.loop-i.i) = ap end_of unit in
    let more = rises_more bytes units c.loop-i.i c.loop-i.end c.loop-i.invariant.0 (omega (arith, first, c.if-unit-end.false)) in (
      subst (RiseTo bytes units (c.loop-i.i + 1)) (sym end) more,
      c.unit-unit.ensures.glyphs,
    )

pub returns : goal.returns
returns c =
    let all : c.loop-i.i ≡ c.args.self.count = omega arith in
    λ is. rises_by c.args.bytes.now c.args.self c.loop-i.i c.args.self.count c.loop-i.end all c.loop-i.invariant.1 c.loop-i.invariant.0
