use Rattle.std.proofs.Common.{rules, ◌≡◌, ◌+◌, Ok, ◌∙◌}
use Rattle.aat_read_machine.specs.Contextual.{listed_lookup, lookups_at}
use Rattle.aat_read_machine.specs.Within.{RefusesWithin}
use Rattle.aat_read_machine.proofs.Listed.{behind, fails, goes_on, is_done, refuses_within, starts}
use Rattle.aat_read_machine.proofs.contextual.lookups.Goals as goal

pub loop-i-init : goal.loop-i-init
loop-i-init c =
    let f = listed_lookup c.args.bytes.now c.args.list c.args.glyph_count in
    let start : lookups_at c.args.bytes.now c.args.list c.args.glyph_count c.args.count ≡ behind f c.args.count c.in_ok-lookups.lookups.items 0 =
    rw c.in_ok-lookups.ensures.items (starts f c.args.count)
    in
    start

pub loop-i-preserved : goal.loop-i-preserved
loop-i-preserved c =
    let f = listed_lookup c.args.bytes.now c.args.list c.args.glyph_count in
    let is : f c.loop-i.i ≡ Ok c.in_ok-lookup.lookup = c.in_ok-lookup.ensures in
    let next : lookups_at c.args.bytes.now c.args.list c.args.glyph_count c.args.count ≡ behind f c.args.count c.push.new.self.items (c.loop-i.i + 1) =
    rw c.in_ok-push.ensures.items
    (c.loop-i.invariant ∙ goes_on f c.args.count c.loop-i.lookups.items c.loop-i.i c.in_ok-lookup.lookup c.loop-i-test.true is)
    in
    next

pub returns-in_err-lookup : goal.returns-in_err-lookup
returns-in_err-lookup c =
    let f = listed_lookup c.args.bytes.now c.args.list c.args.glyph_count in
    let all = lookups_at c.args.bytes.now c.args.list c.args.glyph_count c.args.count in
    let refuses : RefusesWithin all c.in_err-lookup.field-0.0 =
    refuses_within (f c.loop-i.i) all c.in_err-lookup.field-0.0
    (λ fault is. c.loop-i.invariant ∙ fails f c.args.count c.loop-i.lookups.items c.loop-i.i fault c.loop-i-test.true is)
    c.in_err-lookup.ensures
    in
    search rules

pub returns : goal.returns
returns c =
    let f = listed_lookup c.args.bytes.now c.args.list c.args.glyph_count in
    c.loop-i.invariant ∙ is_done f c.args.count c.loop-i.lookups.items c.loop-i.i c.loop-i-test.false
