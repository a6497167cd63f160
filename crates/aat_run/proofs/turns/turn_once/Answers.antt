use Rattle.std.proofs.Common.{◌≡◌, ◌∙◌, ap, nat_lt, length, refl, subst, sym, true, false}
use Rattle.aat_buffer.specs.Buffer.{Buffer}
use Rattle.aat_buffer.specs.Clusters.{IsSmall}
use Rattle.aat_run.specs.Context.{Config, Machine, machine_with, cluster_seen}
use Rattle.aat_run.specs.Machine.{Turn, Goes, Ends, counted, off, passed, turn}
use Rattle.aat_run.specs.Ranges.{is_driven_on}
use Rattle.aat_run.specs.inside.Places.{config}
use Rattle.aat_run.specs.facts.MachineRuns.{turn_when_off, turn_when_on}
use Rattle.aat_run.proofs.turns.turn_once.Goals as goal

-- a turn that is off, before the end of the line and at it
goes_off : {R E : Type 0} (m : Machine R E) (c : Config R) (new : Buffer) → m.on (cluster_seen c.buffer c.last) ≡ false → nat_lt c.buffer.cursor (length c.buffer.line) ≡ true
    → new ≡ passed c.buffer → turn m c ≡ Goes (record (counted m c) { buffer = new; state = 0 })
unfolding off
goes_off m c new is_off inside step =
    let here : off m (counted m c) ≡ Goes (record (counted m c) { buffer = passed c.buffer; state = 0 }) = rw inside refl in
    turn_when_off m c is_off ∙ (here ∙ ap {B = Turn (Config _)} (λ (b : Buffer). Goes (record (counted m c) { buffer = b; state = 0 })) (sym step))

ends_off : {R E : Type 0} (m : Machine R E) (c : Config R) → m.on (cluster_seen c.buffer c.last) ≡ false → nat_lt c.buffer.cursor (length c.buffer.line) ≡ false → turn m c ≡ Ends (counted m c)
unfolding off
ends_off m c is_off outside =
    let here : off m (counted m c) ≡ Ends (counted m c) = rw outside refl in
    turn_when_off m c is_off ∙ here

pub returns-then-is_driven_on-clause-turn : goal.returns-then-is_driven_on-clause-turn
returns-then-is_driven_on-clause-turn g c =
    let context = g.C.driver_context_t in
    let on = is_driven_on c.args.ranges.now c.args.feature_flags in
    let m = machine_with on c.args.machine.now context.advances context.actionable context.act in
    let old = config c.args.buffer.now c.args.context.now c.args.run_state.now in
    let is_on : on (cluster_seen old.buffer old.last) ≡ true = rw (← c.if-is_driven_on.true) (sym (rw c.count.ensures at c.is_driven_on.ensures)) in
    rw (turn_when_on m old is_on) (rw c.count.ensures at (c.act_by_entry.ensures.turn on))

pub returns-then-is_driven_on-clause-reason : goal.returns-then-is_driven_on-clause-reason
returns-then-is_driven_on-clause-reason g c =
    let context = g.C.driver_context_t in
    let on = is_driven_on c.args.ranges.now c.args.feature_flags in
    let m = machine_with on c.args.machine.now context.advances context.actionable context.act in
    let old = config c.args.buffer.now c.args.context.now c.args.run_state.now in
    let is_on : on (cluster_seen old.buffer old.last) ≡ true = rw (← c.if-is_driven_on.true) (sym (rw c.count.ensures at c.is_driven_on.ensures)) in
    rw (turn_when_on m old is_on) (rw c.count.ensures at (c.act_by_entry.ensures.reason on))

pub returns-then-has_current-clause-turn : goal.returns-then-has_current-clause-turn
returns-then-has_current-clause-turn g c =
    let context = g.C.driver_context_t in
    let on = is_driven_on c.args.ranges.now c.args.feature_flags in
    let m = machine_with on c.args.machine.now context.advances context.actionable context.act in
    let old = config c.args.buffer.now c.args.context.now c.args.run_state.now in
    let is_off : on (cluster_seen old.buffer old.last) ≡ false = rw (← c.if-is_driven_on.false) (sym (rw c.count.ensures at c.is_driven_on.ensures)) in
    rw c.count.ensures (goes_off m old c.next_glyph.new.self is_off (sym c.has_current.ensures.current ∙ c.if-has_current.true) c.next_glyph.ensures)

pub returns-else-has_current-clause-turn : goal.returns-else-has_current-clause-turn
returns-else-has_current-clause-turn g c =
    let context = g.C.driver_context_t in
    let on = is_driven_on c.args.ranges.now c.args.feature_flags in
    let m = machine_with on c.args.machine.now context.advances context.actionable context.act in
    let old = config c.args.buffer.now c.args.context.now c.args.run_state.now in
    let is_off : on (cluster_seen old.buffer old.last) ≡ false = rw (← c.if-is_driven_on.false) (sym (rw c.count.ensures at c.is_driven_on.ensures)) in
    rw c.count.ensures (ends_off m old is_off (sym c.has_current.ensures.current ∙ c.if-has_current.false))

pub returns-then-has_current-clause-ids : goal.returns-then-has_current-clause-ids
returns-then-has_current-clause-ids g c = subst (λ (b : Buffer). IsSmall b) (sym c.next_glyph.ensures) c.requires.ids

pub returns-else-has_current-clause-ids : goal.returns-else-has_current-clause-ids
returns-else-has_current-clause-ids g c = c.requires.ids

pub returns-then-is_driven_on-clause-ids : goal.returns-then-is_driven_on-clause-ids
returns-then-is_driven_on-clause-ids g c = c.act_by_entry.ensures.ids

pub returns-then-is_driven_on-clause-refused : goal.returns-then-is_driven_on-clause-refused
returns-then-is_driven_on-clause-refused g c = c.act_by_entry.ensures.refused

pub count-requires : goal.count-requires
count-requires g c = c.requires.turns

pub is_driven_on-requires : goal.is_driven_on-requires
is_driven_on-requires g c = c.requires.gapless

pub act_by_entry-requires-clause-fit : goal.act_by_entry-requires-clause-fit
act_by_entry-requires-clause-fit g c = c.requires.fit

pub act_by_entry-requires-clause-ids : goal.act_by_entry-requires-clause-ids
act_by_entry-requires-clause-ids g c = c.requires.ids
