use Rattle.std.proofs.Common.{◌≡◌, ◌∙◌, ◌&&◌, not, ℤ, Bool, true, false, cond, List, [], ℕ, length, nat_lt, nat_le, max, refl, ap, sym, arith}
use Rattle.std.proofs.lemmas.Bool.Decides.{nat_tests}
use Rattle.aat_machine_tables.specs.Entries.{has_flag}
use Rattle.aat_kerning_machines.specs.KerningMachine.{has_action}
use Rattle.aat_kerning_machines.specs.Stack.{kerx_value, pushed_by, with_place_pushed}
use Rattle.aat_cut_kinds.specs.KerningClosing.{behind_reset, cleared_by, taken_by}
use Rattle.aat_cut_kinds.specs.inside.OpenRuns.{least_of}
use Rattle.aat_cut_kinds.proofs.Taking.{nothing_taken, taken_then}
use Rattle.aat_cut_kinds.proofs.kerning_touches.Driver1TouchingDriverSubtable1EntryData.least_touched.Goals as goal
use Rattle.aat_cut_kinds.proofs.kerning_touches.Driver1TouchingDriverSubtable1EntryData.least_touched.Goals.{then-not-has_reset, else-not-has_reset}

pub returns : goal.returns
returns c =
    let e = c.args.entry.now in
    let index = e.extra.action_index in
    let count = c.args.tuple_count in
    let values = c.args.aat.now.values in
    let cursor = c.args.cursor in
    let least = c.push_if-least.result in
    let view : c.aat.inside.values.items ≡ values = ap (λ m. m.values) c.aat.view_is in
    let same_values : c.deref.result.now ≡ values = c.deref.ensures.value ∙ view in
    let given = c.if-first.false in
    let few = c.if-tuple_count-gt-MAX_TUPLE_COUNT.false in
    let flag : c.has_push-2.result ≡ has_flag e 0x8000 = c.has_push-2.ensures in
    let is_given : (has_action e && nat_le count 65535) ≡ true = grind (arith, nat_tests, given, few) in
    let stack : c.if-not-has_reset.stack ≡ behind_reset e c.args.self.now =
    elim c.if-not-has_reset.branch [
      | then-not-has_reset w ↦ (let flag : has_flag e 0x2000 ≡ false = sym w.if-not-has_reset.ensures in rw flag (w.stack-is ∙ (w.of-stack.ensures ∙ w.places.ensures.places)))
      | else-not-has_reset w ↦ (let flag : has_flag e 0x2000 ≡ true = sym w.if-not-has_reset.ensures in rw flag (w.stack-is ∙ c.new-stack.ensures))
    ] in
    let cleared : least ≡ least_of (cleared_by e (behind_reset e c.args.self.now)) cursor =
    c.push_if-least.ensures.least
    ∙ (ap (λ (t : Bool). least_of (cond (t && not (nat_lt (length c.if-not-has_reset.stack) 8)) c.if-not-has_reset.stack []) cursor) flag
    ∙ ap (λ (s : List ℕ). least_of (cleared_by e s) cursor) stack) in
    let filled : c.push_if-least.new.self ≡ pushed_by e cursor (behind_reset e c.args.self.now) =
    c.push_if-least.ensures.pushed
    ∙ (ap (λ (t : Bool). cond t (with_place_pushed cursor c.if-not-has_reset.stack) c.if-not-has_reset.stack) flag
    ∙ ap (λ (s : List ℕ). pushed_by e cursor s) stack) in
    let taken : c.least_taken.result ≡ least_of (taken_by (kerx_value values (max count 1)) (max count 1) c.args.len (pushed_by e cursor (behind_reset e c.args.self.now)) index) least =
    c.least_taken.ensures
    ∙ (ap (λ (vs : List ℤ). least_of (taken_by (kerx_value vs c.max.result) c.max.result c.args.len c.push_if-least.new.self index) least) same_values
    ∙ (ap (λ (n : ℕ). least_of (taken_by (kerx_value values n) n c.args.len c.push_if-least.new.self index) least) c.max.ensures
    ∙ ap (λ (s : List ℕ). least_of (taken_by (kerx_value values (max count 1)) (max count 1) c.args.len s index) least) filled)) in
    taken_then (has_action e && nat_le count 65535) (cleared_by e (behind_reset e c.args.self.now))
    (taken_by (kerx_value values (max count 1)) (max count 1) c.args.len (pushed_by e cursor (behind_reset e c.args.self.now)) index) cursor least c.least_taken.result is_given cleared taken

and_off : (a b : Bool) → a ≡ false → (a && b) ≡ false
and_off false b h = h
and_off true b h = absurd (let e = h in cc)

-- behind a reset no more places wait
fewer : (resets pushes present : Bool) (stack : List ℕ) (count : ℕ) → count ≡ length stack
    → true ≡ (not present && not (pushes && not (nat_lt count 8)))
    → true ≡ (not present && not (pushes && not (nat_lt (length (cond resets [] stack)) 8)))
fewer true true false stack count is h = refl
fewer true false false stack count is h = refl
fewer true pushes true stack count is h = h
fewer false pushes present stack count is h = h ∙ ap (λ (n : ℕ). not present && not (pushes && not (nat_lt n 8))) is

pub returns-then-touches_nothing : goal.returns-then-touches_nothing
returns-then-touches_nothing c =
    let e = c.args.entry.now in
    let index = e.extra.action_index in
    let count = c.args.tuple_count in
    let values = c.args.aat.now.values in
    let stack = behind_reset e c.args.self.now in
    nothing_taken (has_action e) (has_flag e 0x8000) (has_action e && nat_le count 65535) stack
    (taken_by (kerx_value values (max count 1)) (max count 1) c.args.len (pushed_by e c.args.cursor stack) index) (length stack) c.args.cursor
    refl
    (fewer (has_flag e 0x2000) (has_flag e 0x8000) (has_action e) c.args.self.now (length c.places-count.result.now) c.places-count.ensures.count
    (c.if-touches_nothing.ensures ∙ ap (λ (t : Bool). not (has_action e) && not (t && not (nat_lt (length c.places-count.result.now) 8))) c.has_push.ensures))
    (and_off (has_action e) (nat_le count 65535))
