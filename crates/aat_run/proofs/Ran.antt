-- A run of the turns from the front is the run of the machine.
use Rattle.std.proofs.Common.{◌≡◌, ℕ, ◌+◌, ◌≤◌, Bool, true, false, cond, length, ap, refl, subst, sym, ◌∙◌, ◌<◌, arith}
use Rattle.aat_buffer.specs.Buffer.{Buffer, with_cursor, without_positions}
use Rattle.aat_machine_tables.specs.Table.{TableValue}
use Rattle.aat_machine_tables.specs.declared.state_table.GenericStateEntry.{GenericStateEntry}
use Rattle.aat_run.specs.Context.{Context, Machine, first_config, is_at_end, machine_of, start}
use Rattle.aat_run.specs.Driven.{machine_run, outcome_of, IsRefusal}
use Rattle.aat_run.specs.Laws.{KeepsFit, PassesFit, Pays, KeepsLength, SameSettings}
use Rattle.aat_run.specs.Machine.{run_to_end}
use Rattle.aat_run.specs.Outcome.{Outcome}
use Rattle.aat_run.specs.declared.error.AatError.{AatError}
use Rattle.aat_run.specs.declared.error.AatError.TheVariants.{AaltValue, TooLong, OutOfMemory, BufferFailed}
use Rattle.aat_run.specs.facts.MachineRuns.{whole_in_place}
use Rattle.aat_run.specs.facts.OffRuns.{passed_over}

-- the buffer before the turns, behind them, and with the cursor back at the front
pub ran : {T R : Type 0} (on : ℕ → Bool) (table : TableValue (GenericStateEntry T)) (x : Context R (GenericStateEntry T)) (b begun turned last : Buffer) (turns : ℕ) (in_place : Bool)
    → in_place ≡ x.in_place → begun ≡ with_cursor (cond in_place b (without_positions b)) 0
    → ◌≡◌ {A = Outcome} (record { buffer = with_cursor turned 0; turns = turns }) (outcome_of (run_to_end (machine_of on table x) (first_config begun x.fresh)))
    → last ≡ with_cursor turned 0 → record { buffer = last; turns = turns } ≡ machine_run on table x b
unfolding machine_run
ran on table x b begun turned last turns in_place place begins run ends =
    let from : begun ≡ (start x.in_place b x.fresh).buffer = begins ∙ ap (λ p. with_cursor (cond p b (without_positions b)) 0) place in
    ap {B = Outcome} (λ (d : Buffer). record { buffer = d; turns = turns }) ends
    ∙ run
    ∙ ap (λ (d : Buffer). outcome_of (run_to_end (machine_of on table x) (first_config d x.fresh))) from

-- the buffer before the turns has the line of the one before it
pub begun_line : (b begun : Buffer) (in_place : Bool) → begun ≡ with_cursor (cond in_place b (without_positions b)) 0 → begun.line ≡ b.line
begun_line b begun true begins = ap (λ (d : Buffer). d.line) begins
begun_line b begun false begins = ap (λ (d : Buffer). d.line) begins

begun_longest : (b begun : Buffer) (in_place : Bool) → begun ≡ with_cursor (cond in_place b (without_positions b)) 0 → begun.max_len ≡ b.max_len
begun_longest b begun true begins = ap (λ (d : Buffer). d.max_len) begins
begun_longest b begun false begins = ap (λ (d : Buffer). d.max_len) begins

-- and its settings
pub begun_settings : (b begun : Buffer) (in_place : Bool) → begun ≡ with_cursor (cond in_place b (without_positions b)) 0 → SameSettings b begun
begun_settings b begun true begins = subst (λ (d : Buffer). SameSettings b d) (sym begins) (record { direction = refl; cluster_level = refl; flags = refl; scratch_flags = refl; max_len = refl; successful = refl })
begun_settings b begun false begins = subst (λ (d : Buffer). SameSettings b d) (sym begins) (record { direction = refl; cluster_level = refl; flags = refl; scratch_flags = refl; max_len = refl; successful = refl })

refused_longer : (b d left : Buffer) → length d.line ≡ length b.line → d.max_len ≡ b.max_len → (e : AatError) → IsRefusal d left e → IsRefusal b (with_cursor left 0) e
refused_longer b d left line most (AaltValue value) none = none
refused_longer b d left line most TooLong long = omega (arith, long, most)
refused_longer b d left line most OutOfMemory long = (omega (arith, long.0, line), omega (arith, long.1, line, most))
refused_longer b d left line most BufferFailed none = none

-- a refusal of the turns is one of the run
pub refused_run : {T R : Type 0} (on : ℕ → Bool) (table : TableValue (GenericStateEntry T)) (x : Context R (GenericStateEntry T)) (b begun : Buffer) (in_place : Bool)
    → in_place ≡ x.in_place → begun ≡ with_cursor (cond in_place b (without_positions b)) 0
    → (e : AatError) → IsRefusal begun (run_to_end (machine_of on table x) (first_config begun x.fresh)).buffer e → IsRefusal b (machine_run on table x b).buffer e
unfolding machine_run
refused_run on table x b begun in_place place begins e refusal =
    let from : begun ≡ (start x.in_place b x.fresh).buffer = begins ∙ ap (λ p. with_cursor (cond p b (without_positions b)) 0) place in
    subst (λ (d : Buffer). IsRefusal b (with_cursor (run_to_end (machine_of on table x) (first_config d x.fresh)).buffer 0) e) from
    (refused_longer b begun (run_to_end (machine_of on table x) (first_config begun x.fresh)).buffer (ap length (begun_line b begun in_place begins)) (begun_longest b begun in_place begins) e refusal)

-- a run that is off at each cluster leaves the buffer, in a turn for each glyph and one more
pub ran_past : {R E : Type 0} (m : Machine R E) (b : Buffer) (r : R) (n : ℕ) → ((x : ℕ) → m.on x ≡ false) → b.cursor ≡ 0 → n ≡ length b.line
    → ◌≡◌ {A = Outcome} (record { buffer = with_cursor b 0; turns = n + 1 }) (outcome_of (run_to_end m (first_config b r)))
ran_past m b r n nowhere front count =
    let over = passed_over m nowhere (first_config b r) front in
    let turns : n + 1 ≡ (run_to_end m (first_config b r)).turns = omega (arith, count, over.counted) in
    λ i. record { buffer = sym over.buffer i; turns = turns i }

-- and the registers
pub kept_past : {R E : Type 0} (m : Machine R E) (b : Buffer) (r : R) → ((x : ℕ) → m.on x ≡ false) → b.cursor ≡ 0 → r ≡ (run_to_end m (first_config b r)).registers
kept_past m b r nowhere front = sym (passed_over m nowhere (first_config b r) front).registers

-- and comes to the end
pub through_past : {R E : Type 0} (m : Machine R E) (b : Buffer) (r : R) → ((x : ℕ) → m.on x ≡ false) → b.cursor ≡ 0 → true ≡ is_at_end (run_to_end m (first_config b r)).buffer
through_past m b r nowhere front = sym (passed_over m nowhere (first_config b r) front).at_end

-- a context that keeps the number of glyphs, over a line that has at most its greatest length, is never refused
module _ {T R : Type 0} (on : ℕ → Bool) (table : TableValue (GenericStateEntry T)) (x : Context R (GenericStateEntry T)) (fits : R → ℕ → ℕ → Type 0)
    (keeps : KeepsFit x.act fits) (passes : PassesFit fits) (pays : Pays x.act fits) (count : KeepsLength x.act fits)
    (b : Buffer) (fit : fits x.fresh 0 (length b.line)) (within : length b.line ≤ b.max_len)
  where
    by_error : (d : Buffer) → length d.line ≤ d.max_len → fits x.fresh d.cursor (length d.line) → (e : AatError) → IsRefusal d (run_to_end (machine_of on table x) (first_config d x.fresh)).buffer e → ⊥
    by_error d short stands (AaltValue value) none = none
    by_error d short stands TooLong long = omega (arith, long, short, whole_in_place (machine_of on table x) fits keeps passes pays count (first_config d x.fresh) stands)
    by_error d short stands OutOfMemory long = omega (arith, long.0, whole_in_place (machine_of on table x) fits keeps passes pays count (first_config d x.fresh) stands)
    by_error d short stands BufferFailed none = none

    pub never_refused : (d : Buffer) (in_place : Bool) → d ≡ with_cursor (cond in_place b (without_positions b)) 0
        → (e : AatError) → IsRefusal d (run_to_end (machine_of on table x) (first_config d x.fresh)).buffer e → ⊥
    never_refused d true begins e refusal = by_error (with_cursor b 0) within fit e (rw begins at refusal)
    never_refused d false begins e refusal = by_error (with_cursor (without_positions b) 0) within fit e (rw begins at refusal)
