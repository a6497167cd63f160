-- A run with another budget, which it does not use up, and with another greatest length, leaves the same but for these.
use Rattle.std.proofs.Common.{◌≡◌, ◌∙◌, ℕ, ℤ, pos, zero, suc, ◌+◌, ◌<◌, ◌≤◌, ◌&&◌, not, Bool, true, false, cond, length, Option, Some, None, refl, ap, subst, sym, arith}
use Rattle.std.proofs.lemmas.Int.{ints}
use Rattle.std.specs.Prelude.{int_lt}
use Rattle.aat_buffer.specs.Buffer.{Buffer, with_cursor}
use Rattle.aat_machine_tables.specs.Table.{TableValue}
use Rattle.aat_machine_tables.specs.declared.state_table.GenericStateEntry.{GenericStateEntry}
use Rattle.aat_run.specs.Budget.{has_operations, operations_left, paid, potential}
use Rattle.aat_run.specs.Context.{Config, Context, Machine, Moved, class_at, is_at_end, is_inside, machine_of, start}
use Rattle.aat_run.specs.Driven.{comes_to_end, machine_run}
use Rattle.aat_run.specs.Laws.{FitsFresh, KeepsFit, PassesFit, Pays, Stands}
use Rattle.aat_run.specs.Machine.{Ends, Goes, OnGoes, Turn, acted, behind_act, break_marked_at, by_entry, counted, left_by, marked, off, passed, run_to_end, settled_by, stepped, turn}
use Rattle.aat_run.specs.Safe.{is_safe}
use Rattle.aat_run.specs.facts.MachineRuns.{buffer_kept, budget_of_marked, cursor_of_marked, length_of_marked, paid_less, turn_falls, whole_step}
use Rattle.aat_run.specs.facts.Runs.{followed}
use Rattle.aat_run.specs.facts.Turns.{Lower, settled_keeps}
use Rattle.aat_cut_kinds.specs.facts.BackRuns.{has_paid}
use Rattle.aat_cut_kinds.specs.facts.InsertionActs.{pay}
use Rattle.aat_closing.specs.ClosingRuns.{told_run}
use Rattle.aat_closing.specs.facts.Limited.{LimitedTold, with_limits}
use Rattle.aat_closing.specs.facts.ToldKeepsActs.{Spends}

-- what an act leaves, and where a run stands, with another budget and another greatest length
abbrev pub limited_left : {R : Type 0} → ℤ → ℕ → Moved R → Moved R
limited_left y most n = record n { buffer = with_limits y most n.buffer }

abbrev pub limited : {R : Type 0} → ℤ → ℕ → Config R → Config R
limited y most c = record c { buffer = with_limits y most c.buffer }

-- of two runs, which began with own and other operations left, the one has z left, the other y: it has taken no more
abbrev pub TakesNoMore : ℕ → ℕ → ℤ → ℤ → Type 0
TakesNoMore own other z y = other + operations_left z ≤ own + operations_left y

-- the one has some left, and has taken fewer operations than the other began with
pub record IsEnough (own other : ℕ) (z : ℤ) : Type 0 where
  pub some : 0 < operations_left z
  pub fewer : own < other + operations_left z

-- so had it before
pub enough_before : (own other : ℕ) (z y : ℤ) → IsEnough own other z → operations_left z ≤ operations_left y → IsEnough own other y
enough_before own other z y enough less =
    let some = enough.some in
    let fewer = enough.fewer in
    record { some = omega (arith, some, less); fewer = omega (arith, fewer, less) }

-- and so the other has some left
pub other_left : (own other : ℕ) (z y : ℤ) → IsEnough own other z → TakesNoMore own other z y → 0 < operations_left y
other_left own other z y enough less = let fewer = enough.fewer in omega (arith, fewer, less)

-- both pay
paid_fewer : (own other n : ℕ) (z y : ℤ) → 0 < operations_left (pay n z) → own < other + operations_left (pay n z) → other + operations_left z ≤ own + operations_left y → other + operations_left (pay n z) ≤ own + operations_left (pay n y)
paid_fewer own other n z y some fewer less = grind (arith, ints, some, fewer, less)

pub pay_both : (own other n : ℕ) (z y : ℤ) → IsEnough own other (pay n z) → TakesNoMore own other z y → TakesNoMore own other (pay n z) (pay n y)
pay_both own other n z y enough less = paid_fewer own other n z y enough.some enough.fewer less

-- a buffer is another one with limits of which no more is taken
pub record IsLimited (own other most : ℕ) (new old : Buffer) : Type 0 where
  pub budget : ℤ
  pub is : new ≡ with_limits budget most old
  pub less : TakesNoMore own other old.max_ops budget

-- so is what acts leave
pub record LeftLimited {R : Type 0} (own other most : ℕ) (new old : Moved R) : Type 0 where
  pub budget : ℤ
  pub is : new ≡ limited_left budget most old
  pub less : TakesNoMore own other old.buffer.max_ops budget

-- and so a run stands, where another one does with the same registers, state, last cluster and turns
pub record StandsLimited {R : Type 0} (own other most : ℕ) (new old : Config R) : Type 0 where
  pub budget : ℤ
  pub is : new ≡ limited budget most old
  pub less : TakesNoMore own other old.buffer.max_ops budget

-- both turns end so, or both go on so
abbrev pub TurnsLimited : {R : Type 0} → ℕ → ℕ → ℕ → Turn (Config R) → Turn (Config R) → Type 0
TurnsLimited own other most (Ends new) (Ends old) = StandsLimited own other most new old
TurnsLimited own other most (Ends new) (Goes old) = ⊥
TurnsLimited own other most (Goes new) (Ends old) = ⊥
TurnsLimited own other most (Goes new) (Goes old) = StandsLimited own other most new old

module _ {R E : Type 0} (act : E → R → Buffer → Moved R) (fits : R → ℕ → ℕ → Type 0) where
  -- an act that leaves enough leaves the same but for the limits, and takes no more, with others
  abbrev pub LimitedAct : Type 0
  LimitedAct =
      (own other most : ℕ) (e : E) (r : R) (b : Buffer) (y : ℤ) → fits r b.cursor (length b.line) → TakesNoMore own other b.max_ops y → IsEnough own other (act e r b).buffer.max_ops
      → LeftLimited own other most (act e r (with_limits y most b)) (act e r b)

-- no step adds to the budget
step_spends : (a : Bool) (b : Buffer) → operations_left (stepped a b).max_ops ≤ operations_left b.max_ops
step_spends true b = omega arith
step_spends false b = by_budget (has_operations b)
  where
    by_budget : (t : Bool) → operations_left (cond t (paid 1 b) (paid 1 (passed b))).max_ops ≤ operations_left b.max_ops
    by_budget true = paid_less 1 b.max_ops
    by_budget false = paid_less 1 b.max_ops

-- where enough is left behind a step, it is the same step with other limits
step_limited : (own other most : ℕ) (a : Bool) (b : Buffer) (y : ℤ) → TakesNoMore own other b.max_ops y → IsEnough own other (stepped a b).max_ops → IsLimited own other most (stepped a (with_limits y most b)) (stepped a b)
step_limited own other most true b y low enough = record { budget = y; is = refl; less = low }
step_limited own other most false b y low enough = by_budget (has_operations b) refl enough
  where
    by_budget : (t : Bool) → int_lt (pos 0) b.max_ops ≡ t → IsEnough own other (cond t (paid 1 b) (paid 1 (passed b))).max_ops
        → IsLimited own other most (cond (int_lt (pos 0) y) (paid 1 (with_limits y most b)) (paid 1 (passed (with_limits y most b)))) (cond t (paid 1 b) (paid 1 (passed b)))
    by_budget true has enough =
        let less : TakesNoMore own other (pay 1 b.max_ops) (pay 1 y) = pay_both own other 1 b.max_ops y enough low in
        let has_too : int_lt (pos 0) y ≡ true = has_paid y (other_left own other (pay 1 b.max_ops) (pay 1 y) enough less) in
        rw has_too (record { budget = pay 1 y; is = refl; less = less })
    by_budget false has enough = absurd (differ (sym has ∙ has_paid b.max_ops enough.some))
      where
        differ : false ≡ true → ⊥
        differ e = cc

module _ {R : Type 0} (own other most : ℕ) where
  -- what is settled behind an act
  settled_limited : (a : Bool) (c : Config R) (y : ℤ) → TakesNoMore own other c.buffer.max_ops y → IsEnough own other (left_by (settled_by (stepped a) c)).buffer.max_ops
      → TurnsLimited own other most (settled_by (stepped a) (limited y most c)) (settled_by (stepped a) c)
  settled_limited a c y low enough = by_end (is_at_end c.buffer) enough
    where
      by_end : (t : Bool) → IsEnough own other (left_by (cond t (Ends c) (Goes (record c { buffer = stepped a c.buffer })))).buffer.max_ops
          → TurnsLimited own other most (cond t (Ends (limited y most c)) (Goes (record c { buffer = stepped a (with_limits y most c.buffer) }))) (cond t (Ends c) (Goes (record c { buffer = stepped a c.buffer })))
      by_end true enough = record { budget = y; is = refl; less = low }
      by_end false enough =
          let it = step_limited own other most a c.buffer y low enough in
          record { budget = it.budget; is = ap (λ (b : Buffer). record c { buffer = b }) it.is; less = it.less }

module _ {R E : Type 0} (m : Machine R E) (fits : R → ℕ → ℕ → Type 0) (keeps : KeepsFit m.act fits) (passes : PassesFit fits) (pays : Pays m.act fits)
    (alike : LimitedAct m.act fits) (spends : Spends m.act fits) (own other most : ℕ)
  where
    -- marks do not see the limits
    marked_limited : (e : E) (c : Config R) (y : ℤ) → marked m e (limited y most c) ≡ with_limits y most (marked m e c)
    unfolding marked is_safe
    marked_limited e c y = by_test (is_inside c.buffer && not (is_safe m e (m.entry 0 (class_at m.class_of c.buffer)) (m.entry c.state 0) c))
      where
        by_test : (t : Bool) → cond t (break_marked_at (with_limits y most c.buffer)) (with_limits y most c.buffer) ≡ with_limits y most (cond t (break_marked_at c.buffer) c.buffer)
        by_test true = refl
        by_test false = refl

    -- what is left of an act and the step behind it
    acted_limited : (e : E) (c : Config R) (y : ℤ) → Stands fits c → TakesNoMore own other c.buffer.max_ops y → IsEnough own other (left_by (acted m e c)).buffer.max_ops
        → TurnsLimited own other most (acted m e (limited y most c)) (acted m e c)
    unfolding acted
    acted_limited e c y stands low enough =
        let b : Buffer = marked m e c in
        let fit : fits c.registers b.cursor (length b.line) = rw (length_of_marked m e c, cursor_of_marked m e c) stands in
        let lower : TakesNoMore own other b.max_ops y = rw (budget_of_marked m e c) low in
        let n : Moved R = m.act e c.registers b in
        let behind : Config R = behind_act n (m.next e) c in
        let spent : operations_left (left_by (settled_by (stepped (m.advances e)) behind)).buffer.max_ops ≤ operations_left n.buffer.max_ops =
        settled_keeps (stepped (m.advances e)) (λ (d : Buffer). operations_left d.max_ops ≤ operations_left n.buffer.max_ops) (λ d q. omega (arith, q, step_spends (m.advances e) d)) behind (omega arith) in
        let some : IsEnough own other n.buffer.max_ops = enough_before own other (left_by (settled_by (stepped (m.advances e)) behind)).buffer.max_ops n.buffer.max_ops enough spent in
        let left : LeftLimited own other most (m.act e c.registers (with_limits y most b)) n = alike own other most e c.registers b y fit lower some in
        let is : behind_act (m.act e c.registers (marked m e (limited y most c))) (m.next e) (limited y most c) ≡ limited left.budget most behind =
        ap (λ (d : Buffer). behind_act (m.act e c.registers d) (m.next e) c) (marked_limited e c y) ∙ ap (λ (x : Moved R). behind_act x (m.next e) c) left.is in
        subst (λ (t : Turn (Config R)). TurnsLimited own other most t (settled_by (stepped (m.advances e)) behind)) (sym (ap (settled_by (stepped (m.advances e))) is))
        (settled_limited own other most (m.advances e) behind left.budget left.less enough)

    by_entry_limited : (o : Option E) (c : Config R) (y : ℤ) → Stands fits c → TakesNoMore own other c.buffer.max_ops y → IsEnough own other (left_by (by_entry m o c)).buffer.max_ops
        → TurnsLimited own other most (by_entry m o (limited y most c)) (by_entry m o c)
    unfolding by_entry
    by_entry_limited None c y stands low enough = record { budget = y; is = refl; less = low }
    by_entry_limited (Some e) c y stands low enough = acted_limited e c y stands low enough

    off_limited : (c : Config R) (y : ℤ) → TakesNoMore own other c.buffer.max_ops y → TurnsLimited own other most (off m (limited y most c)) (off m c)
    unfolding off
    off_limited c y low = by_end (is_at_end c.buffer)
      where
        by_end : (t : Bool) → TurnsLimited own other most (cond t (Ends (limited y most c)) (Goes (record (limited y most c) { buffer = passed (with_limits y most c.buffer); state = 0 }))) (cond t (Ends c) (Goes (record c { buffer = passed c.buffer; state = 0 })))
        by_end true = record { budget = y; is = refl; less = low }
        by_end false = record { budget = y; is = refl; less = low }

    -- the turns
    turn_limited : (c : Config R) (y : ℤ) → Stands fits c → TakesNoMore own other c.buffer.max_ops y → IsEnough own other (left_by (turn m c)).buffer.max_ops
        → TurnsLimited own other most (turn m (limited y most c)) (turn m c)
    unfolding turn
    turn_limited c y stands low enough = by_switch (m.on (counted m c).last) enough
      where
        by_switch : (t : Bool) → IsEnough own other (left_by (cond t (by_entry m (m.entry c.state (class_at m.class_of c.buffer)) (counted m c)) (off m (counted m c)))).buffer.max_ops
            → TurnsLimited own other most (cond t (by_entry m (m.entry c.state (class_at m.class_of c.buffer)) (limited y most (counted m c))) (off m (limited y most (counted m c))))
            (cond t (by_entry m (m.entry c.state (class_at m.class_of c.buffer)) (counted m c)) (off m (counted m c)))
        by_switch true enough = by_entry_limited (m.entry c.state (class_at m.class_of c.buffer)) (counted m c) y stands low enough
        by_switch false enough = off_limited (counted m c) y low

    -- what is left at the end of a run was left behind its first turn
    spent_behind : (c : Config R) → Stands fits c → operations_left (run_to_end m c).buffer.max_ops ≤ operations_left (left_by (turn m c)).buffer.max_ops
    spent_behind c stands = rw (whole_step m fits keeps passes pays c stands) (by_turn (turn m c) (turn_falls m fits keeps passes pays c stands))
      where
        by_turn : (t : Turn (Config R)) → OnGoes (Lower fits (potential c.buffer)) t → operations_left (followed (run_to_end m) t).buffer.max_ops ≤ operations_left (left_by t).buffer.max_ops
        by_turn (Ends d) h = omega arith
        by_turn (Goes d) h =
            buffer_kept m fits keeps passes pays (λ (b : Buffer). operations_left b.max_ops ≤ operations_left d.buffer.max_ops)
            (λ b q. q) (λ e r b fit q. omega (arith, q, spends e r b fit)) (λ b q. q) (λ b q. omega (arith, q, paid_less 1 b.max_ops)) d h.1 (omega arith)

    -- what follows turns that go on alike
    behind_turns : (n : ℕ)
        → ((d : Config R) (y : ℤ) → potential d.buffer < n → Stands fits d → TakesNoMore own other d.buffer.max_ops y → IsEnough own other (run_to_end m d).buffer.max_ops → StandsLimited own other most (run_to_end m (limited y most d)) (run_to_end m d))
        → (s t : Turn (Config R)) → OnGoes (Lower fits n) t → TurnsLimited own other most s t → IsEnough own other (followed (run_to_end m) t).buffer.max_ops → StandsLimited own other most (followed (run_to_end m) s) (followed (run_to_end m) t)
    behind_turns n more (Ends new) (Ends old) falls both enough = both
    behind_turns n more (Ends new) (Goes old) falls both enough = absurd both
    behind_turns n more (Goes new) (Ends old) falls both enough = absurd both
    behind_turns n more (Goes new) (Goes old) falls both enough =
        subst (λ (x : Config R). StandsLimited own other most (run_to_end m x) (run_to_end m old)) (sym both.is) (more old both.budget falls.0 falls.1 both.less enough)

    -- by the potential
    runs : (k : ℕ) (c : Config R) (y : ℤ) → potential c.buffer < k → Stands fits c → TakesNoMore own other c.buffer.max_ops y → IsEnough own other (run_to_end m c).buffer.max_ops
        → StandsLimited own other most (run_to_end m (limited y most c)) (run_to_end m c)
    runs zero c y few stands low enough = absurd (omega (arith, few))
    runs (suc k) c y few stands low enough =
        let first : run_to_end m (limited y most c) ≡ followed (run_to_end m) (turn m (limited y most c)) = whole_step m fits keeps passes pays (limited y most c) stands in
        let second : run_to_end m c ≡ followed (run_to_end m) (turn m c) = whole_step m fits keeps passes pays c stands in
        let better : IsEnough own other (followed (run_to_end m) (turn m c)).buffer.max_ops = subst (λ (x : Config R). IsEnough own other x.buffer.max_ops) second enough in
        let both : TurnsLimited own other most (turn m (limited y most c)) (turn m c) = turn_limited c y stands low (enough_before own other (run_to_end m c).buffer.max_ops (left_by (turn m c)).buffer.max_ops enough (spent_behind c stands)) in
        rw (first, second)
        (behind_turns (potential c.buffer) (λ d z lower fit more some. runs k d z (omega (arith, few, lower)) fit more some) (turn m (limited y most c)) (turn m c) (turn_falls m fits keeps passes pays c stands) both better)

    -- A run that leaves enough leaves the same with other limits, but for these, and takes no more: registers, state, turns
    -- and the buffer are else the same.
    pub runs_limited : (c : Config R) (y : ℤ) → Stands fits c → TakesNoMore own other c.buffer.max_ops y → IsEnough own other (run_to_end m c).buffer.max_ops
        → StandsLimited own other most (run_to_end m (limited y most c)) (run_to_end m c)
    runs_limited c y stands low enough = runs (potential c.buffer + 1) c y (omega arith) stands low enough

-- The run of a context over a state table, from the front with fresh registers.
module _ {T R : Type 0} (on : ℕ → Bool) (table : TableValue (GenericStateEntry T)) (x : Context R (GenericStateEntry T)) (fits : R → ℕ → ℕ → Type 0)
    (fits_fresh : FitsFresh fits x.fresh) (keeps : KeepsFit x.act fits) (passes : PassesFit fits) (pays : Pays x.act fits) (alike : LimitedAct x.act fits) (spends : Spends x.act fits)
  where
    m : Machine R (GenericStateEntry T)
    m = machine_of on table x

    begun : Buffer → Config R
    begun b = start x.in_place b x.fresh

    -- other limits where a run begins
    begun_limited : (b : Buffer) (y : ℤ) (most : ℕ) → begun (with_limits y most b) ≡ limited y most (begun b)
    unfolding begun
    begun_limited b y most = by_place x.in_place
      where
        by_place : (t : Bool) → start t (with_limits y most b) x.fresh ≡ limited y most (start t b x.fresh)
        by_place true = refl
        by_place false = refl

    begun_stands : (b : Buffer) → Stands fits (begun b)
    unfolding begun
    begun_stands b = fits_fresh (length (begun b).buffer.line)

    begun_budget : (b : Buffer) → (begun b).buffer.max_ops ≡ b.max_ops
    unfolding begun
    begun_budget b = by_place x.in_place
      where
        by_place : (t : Bool) → (start t b x.fresh).buffer.max_ops ≡ b.max_ops
        by_place true = refl
        by_place false = refl

    -- it leaves the same with other limits, and tells the same
    pub told_limited : LimitedTold (told_run on table x)
    unfolding told_run machine_run comes_to_end m begun
    told_limited b y most some fewer =
        let own : ℕ = operations_left b.max_ops in
        let other : ℕ = operations_left y in
        let low : TakesNoMore own other (begun b).buffer.max_ops y = rw (begun_budget b) (omega arith) in
        let enough : IsEnough own other (run_to_end m (begun b)).buffer.max_ops = record { some = some; fewer = fewer } in
        let it : StandsLimited own other most (run_to_end m (limited y most (begun b))) (run_to_end m (begun b)) = runs_limited m fits keeps passes pays alike spends own other most (begun b) y (begun_stands b) low enough in
        let whole : run_to_end m (begun (with_limits y most b)) ≡ limited it.budget most (run_to_end m (begun b)) = ap (run_to_end m) (begun_limited b y most) ∙ it.is in
        let budget : (run_to_end m (begun (with_limits y most b))).buffer.max_ops ≡ it.budget = ap (λ (c : Config R). c.buffer.max_ops) whole in (
          ap (λ (c : Config R). c.buffer.line) whole,
          ap (λ (c : Config R). is_at_end c.buffer) whole,
          subst (λ (z : ℤ). TakesNoMore own other (run_to_end m (begun b)).buffer.max_ops z) (sym budget) it.less,
          ap (λ (c : Config R). with_cursor c.buffer 0) whole ∙ ap (λ (z : ℤ). with_limits z most (with_cursor (run_to_end m (begun b)).buffer 0)) (sym budget),
          ap (λ (c : Config R). c.turns) whole,
        )
