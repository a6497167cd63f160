use Rattle.std.proofs.Common.{◌≡◌, ℕ, ◌+◌, ◌<◌, ◌≤◌, true, false, zero-add, sym, ap, ◌∙◌, below_more, arith}
use Rattle.std.specs.Prelude.{nat_lt}
use Rattle.std.proofs.lemmas.Bool.Decides.{nat_tests}
use Rattle.aat_read_machine.specs.Room.{lookup_cost, lookups_cost}
use Rattle.aat_bytes.specs.facts.Ranges.{found_first, none_found, sum_more}
use Rattle.aat_read_machine.proofs.room.lookup_past_room.Goals as goal

below : (a b : ℕ) → a < b → nat_lt a b ≡ true
below a b lt = grind (arith, nat_tests)

not_below : (a b : ℕ) → b ≤ a → nat_lt a b ≡ false
not_below a b le = grind (arith, nat_tests)

pub returns-then-used-room-clause-first : goal.returns-then-used-room-clause-first
returns-then-used-room-clause-first c =
    let cost = lookups_cost c.args.bytes.now c.args.list c.args.glyph_count in
    let i = c.loop-i.i in
    let more = sum_more (lookup_cost c.args.bytes.now c.args.list c.args.glyph_count) i in
    let past : c.args.room < cost (i + 1) =
    omega (arith, more, c.loop-i.invariant.used, c.lookup_cost-used.ensures.is, c.if-used-room.true) in
    sym (found_first (λ j. nat_lt c.args.room (cost (j + 1))) 0 c.args.count i (omega arith) (rw zero-add c.loop-i-test.true)
    c.loop-i.invariant.before (below _ _ past))

pub loop-i-preserved : goal.loop-i-preserved
loop-i-preserved c =
    let cost = lookups_cost c.args.bytes.now c.args.list c.args.glyph_count in
    let i = c.loop-i.i in
    let more = sum_more (lookup_cost c.args.bytes.now c.args.list c.args.glyph_count) i in
    let used : c.loop-i.used + c.lookup_cost-used.result ≡ cost (i + 1) =
    ap (λ n. n + c.lookup_cost-used.result) c.loop-i.invariant.used
    ∙ ap (λ n. cost i + n) c.lookup_cost-used.ensures.is ∙ sym more in
    let fits = c.if-used-room.false in
    let here : nat_lt c.args.room (cost (i + 1)) ≡ false = not_below _ _ (omega (arith, used, fits)) in
    let before : (j : ℕ) → j < i + 1 → nat_lt c.args.room (cost (j + 1)) ≡ false =
    below_more _ _ (λ j lt. c.loop-i.invariant.before j (omega arith) lt) here in
    record { used = used; within = omega (arith, fits); before = λ j from lt. before j lt }

pub returns-clause-first : goal.returns-clause-first
returns-clause-first c =
    let cost = lookups_cost c.args.bytes.now c.args.list c.args.glyph_count in
    let past = c.loop-i-test.false in
    sym (none_found (λ j. nat_lt c.args.room (cost (j + 1))) 0 c.args.count
    (λ j from lt. c.loop-i.invariant.before j from (omega (arith, past))))
