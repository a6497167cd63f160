use Rattle.std.proofs.Common.{sym, ◌∙◌}
use Rattle.aat_read_lookup.specs.Layouts.{unit_fault}
use Rattle.aat_read_lookup.proofs.Faultless.{met, passed}
use Rattle.aat_read_lookup.proofs.NoOffsets.{no_faults}
use Rattle.aat_read_lookup.proofs.units.Units.fault.Goals as goal

pub returns-in-Some : goal.returns-in-Some
returns-in-Some c =
    let fault_of = unit_fault c.args.table c.args.bytes.now c.args.self in
    met fault_of c.loop-i.i c.args.self.count _ c.in-Some.fault c.loop-i-test.true c.loop-i.invariant (sym c.in-Some.ensures)

pub loop-i-preserved : goal.loop-i-preserved
loop-i-preserved c =
    let fault_of = unit_fault c.args.table c.args.bytes.now c.args.self in
    passed fault_of c.loop-i.i c.args.self.count _ c.loop-i-test.true c.loop-i.invariant (sym c.unit_fault.ensures ∙ c.in_default.is)

pub returns-then-not-has_offset : goal.returns-then-not-has_offset
returns-then-not-has_offset c =
    no_faults c.args.table c.args.bytes.now c.args.self c.requires (sym c.has_offset.ensures ∙ c.if-not-has_offset.true)
