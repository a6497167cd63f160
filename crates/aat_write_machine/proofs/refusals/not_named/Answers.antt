use Rattle.std.proofs.Common.{◌≡◌, ℕ, suc, ◌+◌, ◌-◌, ◌<◌, ◌≤◌, Bool, true, false, cond, Option, Some, find, length, subst, arith}
use Rattle.std.specs.List.{range_with_len}
use Rattle.std.specs.Prelude.{nat_lt}
use Rattle.std.proofs.lemmas.Bool.{le-ltb, lt-ltb}
use Rattle.std.proofs.Math.Nat.{mul-le-mul_left}
use Rattle.aat_write_machine.specs.MachineRefusals.{highest_named}
use Rattle.aat_write_machine.proofs.Rows.{row_is_read, row_within}
use Rattle.aat_write_machine.proofs.refusals.not_named.Goals as goal

module _ (p : ℕ → Bool) (i n : ℕ) (result : Option ℕ) (left : find p (range_with_len i (n - i)) ≡ result) where
  from_here : i < n → cond (p i) (Some i) (find p (range_with_len (i + 1) (n - (i + 1)))) ≡ result
  from_here lt =
      let more : n - i ≡ suc (n - (i + 1)) = omega arith in
      subst (λ (k : ℕ). find p (range_with_len i k) ≡ result) more left

  -- a number that does not pass is left behind
  passed : i < n → p i ≡ false → find p (range_with_len (i + 1) (n - (i + 1))) ≡ result
  passed lt fails =
      let rest = find p (range_with_len (i + 1) (n - (i + 1))) in
      subst (λ (b : Bool). cond b (Some i) rest ≡ result) fails (from_here lt)

  -- the first that passes is found
  met : i < n → p i ≡ true → Some i ≡ result
  met lt passes =
      let rest = find p (range_with_len (i + 1) (n - (i + 1))) in
      subst (λ (b : Bool). cond b (Some i) rest ≡ result) passes (from_here lt)

pub returns-then-highest-state : goal.returns-then-highest-state
returns-then-highest-state g c =
    let state = c.loop-state.state in
    let w = c.args.class_count in
    let highest : c.highest_from-highest.result ≡ highest_named w c.args.rules.now state =
    row_is_read w state _ _ c.args.rules.now (omega arith) c.loop-state.invariant.highest c.highest_from-highest.ensures in
    let passes : nat_lt (highest_named w c.args.rules.now state) state ≡ true = lt-ltb _ _ (omega (arith, highest)) in
    met (λ s. nat_lt (highest_named w c.args.rules.now s) s) state _ _ c.loop-state.invariant.found c.loop-state-test.true passes

pub loop-state-preserved : goal.loop-state-preserved
loop-state-preserved g c =
    let state = c.loop-state.state in
    let w = c.args.class_count in
    let highest : c.highest_from-highest.result ≡ highest_named w c.args.rules.now state =
    row_is_read w state _ _ c.args.rules.now (omega arith) c.loop-state.invariant.highest c.highest_from-highest.ensures in
    let fails : nat_lt (highest_named w c.args.rules.now state) state ≡ false = le-ltb _ _ (omega (arith, highest)) in
    let same : state + 1 - 1 ≡ state = omega arith in
    record {
      found = passed (λ s. nat_lt (highest_named w c.args.rules.now s) s) state _ _ c.loop-state.invariant.found c.loop-state-test.true fails;
      highest = rw same highest;
    }

pub overflow_mul-state : goal.overflow_mul-state
overflow_mul-state g c =
    let within = row_within c.args.class_count (c.loop-state.state - 1) (length c.args.rules.now) c.requires (omega arith) in
    omega (arith, within)

pub offset_bounds-rules-state : goal.offset_bounds-rules-state
offset_bounds-rules-state g c =
    row_within c.args.class_count (c.loop-state.state - 1) (length c.args.rules.now) c.requires (omega arith)

pub slice_bounds-highest_from-count : goal.slice_bounds-highest_from-count
slice_bounds-highest_from-count g c =
    let before : c.loop-state.state - 1 ≤ c.loop-state.state = omega arith in
    omega (arith, mul-le-mul_left c.args.class_count before)
