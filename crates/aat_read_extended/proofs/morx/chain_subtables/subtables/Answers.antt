use Rattle.std.proofs.Common.{rules, ◌≡◌, ◌+◌, vec_len, Ok, ◌∙◌, arith}
use Rattle.aat_read_machine.specs.Within.{RefusesWithin}
use Rattle.aat_read_extended.specs.morx.ChainSubtables.{subtable_at}
use Rattle.aat_read_machine.specs.InTurn.{in_turn}
use Rattle.aat_read_machine.specs.facts.Turns.{behind, fails, goes_on, refuses}
use Rattle.aat_read_extended.proofs.morx.chain_subtables.subtables.Goals as goal

pub returns-in_err-subtable-clause-gives : goal.returns-in_err-subtable-clause-gives
returns-in_err-subtable-clause-gives c =
    let f = subtable_at c.args.bytes.now c.args.glyph_count c.args.reach in
    let all = in_turn f c.args.count c.args.start in
    let refuse : RefusesWithin all c.in_err-subtable.field-0.0 =
    refuses (f c.loop.place) all c.in_err-subtable.field-0.0
    (λ fault is. c.loop.invariant.0 ∙ fails f c.args.count c.loop.subtables.items c.loop.counter c.loop.place fault c.loop-test.true is)
    c.in_err-subtable.ensures.gives
    in
    search rules

pub loop-preserved : goal.loop-preserved
loop-preserved c =
    let f = subtable_at c.args.bytes.now c.args.glyph_count c.args.reach in
    let is : f c.loop.place ≡ Ok (c.in_ok-subtable.subtable, c.in_ok-subtable.end) = c.in_ok-subtable.ensures.gives in
    let next : in_turn f c.args.count c.args.start ≡ behind f c.args.count c.push.new.self.items (c.loop.counter + 1) c.in_ok-subtable.end =
    rw c.in_ok-push.ensures.items
    (c.loop.invariant.0 ∙ goes_on f c.args.count c.loop.subtables.items c.loop.counter c.loop.place c.in_ok-subtable.end c.in_ok-subtable.subtable c.loop-test.true is)
    in
    let long : vec_len c.push.new.self ≡ c.loop.counter + 1 = omega (arith, c.in_ok-push.ensures.len, c.loop.invariant.1) in
    (next, long, c.in_ok-subtable.ensures.inside)
