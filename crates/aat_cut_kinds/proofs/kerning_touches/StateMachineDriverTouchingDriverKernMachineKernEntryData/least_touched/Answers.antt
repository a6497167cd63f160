use Rattle.std.proofs.Common.{◌≡◌, ◌∙◌, ◌&&◌, not, ℤ, Bool, true, false, cond, List, [], ℕ, length, nat_lt, ap, arith}
use Rattle.std.proofs.lemmas.Bool.Decides.{nat_tests}
use Rattle.aat_machine_tables.specs.Entries.{has_flag, is_present}
use Rattle.aat_kerning_machines.specs.Stack.{kern_value, pushed_by, with_place_pushed}
use Rattle.aat_cut_kinds.specs.KerningClosing.{cleared_by, taken_by}
use Rattle.aat_cut_kinds.specs.inside.OpenRuns.{least_of}
use Rattle.aat_cut_kinds.proofs.Taking.{nothing_taken, taken_then}
use Rattle.aat_cut_kinds.proofs.kerning_touches.StateMachineDriverTouchingDriverKernMachineKernEntryData.least_touched.Goals as goal

pub returns : goal.returns
returns c =
    let e = c.args.entry.now in
    let index = e.extra.value_index in
    let values = c.args.aat.now.values in
    let stack = c.args.self.now in
    let cursor = c.args.cursor in
    let least = c.push_if-least.result in
    let view : c.aat.inside.values.items ≡ values = ap (λ m. m.values) c.aat.view_is in
    let count : c.len.result ≡ length values = (c.len.ensures ∙ c.aat.inside.values.ok.0) ∙ ap length view in
    let same_values : c.deref.result.now ≡ values = c.deref.ensures.value ∙ view in
    let made : c.of-stack.result ≡ stack = c.of-stack.ensures ∙ c.places.ensures.places in
    let given = c.if-first.false in
    let from = c.from.ensures in
    let below = c.if-from-len.false in
    let flag : c.has_push-2.result ≡ has_flag e 0x8000 = c.has_push-2.ensures in
    let is_given : (is_present index && nat_lt index (length values)) ≡ true = grind (arith, nat_tests, given, from, below, count) in
    let cleared : least ≡ least_of (cleared_by e stack) cursor =
    c.push_if-least.ensures.least
    ∙ (ap (λ (t : Bool). least_of (cond (t && not (nat_lt (length c.of-stack.result) 8)) c.of-stack.result []) cursor) flag
    ∙ ap (λ (s : List ℕ). least_of (cleared_by e s) cursor) made) in
    let filled : c.push_if-least.new.self ≡ pushed_by e cursor stack =
    c.push_if-least.ensures.pushed
    ∙ (ap (λ (t : Bool). cond t (with_place_pushed cursor c.of-stack.result) c.of-stack.result) flag
    ∙ ap (λ (s : List ℕ). pushed_by e cursor s) made) in
    let taken : c.least_taken.result ≡ least_of (taken_by (kern_value values) 1 c.args.len (pushed_by e cursor stack) index) least =
    c.least_taken.ensures
    ∙ (ap (λ (vs : List ℤ). least_of (taken_by (kern_value vs) 1 c.args.len c.push_if-least.new.self index) least) same_values
    ∙ ap (λ (s : List ℕ). least_of (taken_by (kern_value values) 1 c.args.len s index) least) filled) in
    taken_then (is_present index && nat_lt index (length values)) (cleared_by e stack)
    (taken_by (kern_value values) 1 c.args.len (pushed_by e cursor stack) index) cursor least c.least_taken.result is_given cleared taken

and_off : (a b : Bool) → a ≡ false → (a && b) ≡ false
and_off false b h = h
and_off true b h = absurd (let e = h in cc)

pub returns-then-touches_nothing : goal.returns-then-touches_nothing
returns-then-touches_nothing c =
    let e = c.args.entry.now in
    let index = e.extra.value_index in
    let values = c.args.aat.now.values in
    let stack = c.args.self.now in
    nothing_taken (is_present index) (has_flag e 0x8000) (is_present index && nat_lt index (length values)) stack
    (taken_by (kern_value values) 1 c.args.len (pushed_by e c.args.cursor stack) index) (length c.places-count.result.now) c.args.cursor
    c.places-count.ensures.count
    (c.if-touches_nothing.ensures ∙ ap (λ (t : Bool). not (is_present index) && not (t && not (nat_lt (length c.places-count.result.now) 8))) c.has_push.ensures)
    (and_off (is_present index) (nat_lt index (length values)))
