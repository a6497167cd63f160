-- A run that passes a glyph in state 0.
use Rattle.std.proofs.Common.{◌≡◌, subst, refl, ℕ, zero, suc, ◌+◌, ◌<◌, ◌≤◌, ◌==◌, ◌&&◌, Bool, true, false, unwrap_or, length, arith}
use Rattle.std.proofs.lemmas.Bool.Decides.{nat_tests}
use Rattle.aat_buffer.specs.Buffer.{Buffer, with_cursor, glyph_at}
use Rattle.aat_font.specs.Idle.{has_entry}
use Rattle.aat_machine_tables.specs.Table.{TableValue, class_of, entry_of}
use Rattle.aat_machine_tables.specs.declared.state_table.GenericStateEntry.{GenericStateEntry}
use Rattle.aat_run.specs.Context.{Config, Moved, machine_with, is_at_end, cluster_seen, entry_at}
use Rattle.aat_run.specs.Laws.{KeepsFit, PassesFit, Pays, RestsBy}
use Rattle.aat_run.specs.Machine.{passed, turn}
use Rattle.aat_run.specs.facts.IdleRuns.{both, entry_there, idle_inside}
use Rattle.aat_run.specs.facts.MachineRuns.{turn_falls, turn_counts}
use Rattle.aat_run.specs.facts.Turns.{comes_on}
use Rattle.aat_run.specs.Waking.{passes_by}
use Rattle.aat_run.specs.inside.Passing.{last_seen}
use Rattle.aat_run.specs.inside.Standing.{HasCome}

module _ {R T : Type 0} (table : TableValue (GenericStateEntry T)) (advances : GenericStateEntry T → Bool)
    (actionable : GenericStateEntry T → R → ℕ → ℕ → Bool) (act : GenericStateEntry T → R → Buffer → Moved R)
    (rests : GenericStateEntry T → Bool) (law : RestsBy rests actionable act)
    (fits : R → ℕ → ℕ → Type 0) (keeps : KeepsFit act fits) (passes : PassesFit fits) (pays : Pays act fits)
    (end : has_entry rests (entry_of table 0 0) ≡ true)
  where
    -- behind a glyph that is passed
    pub passed_once :
        (from to : Config R) (on : ℕ → Bool) → ((x : ℕ) → on x ≡ true)
        → HasCome (turn (machine_with on table advances actionable act)) fits from to
        → to.state ≡ 0 → to.buffer.cursor < length to.buffer.line
        → has_entry (passes_by advances rests) (entry_at table 0 to.buffer) ≡ true
        → HasCome (turn (machine_with on table advances actionable act)) fits from
        (record to { buffer = passed to.buffer; state = 0; last = cluster_seen to.buffer to.last; turns = to.turns + 1 })
    passed_once from to on every come start below passes_here =
        let m = machine_with on table advances actionable act in
        let e = entry_there (passes_by advances rests) (entry_at table 0 to.buffer) passes_here in
        let parts = both (e.0.new_state == 0) (advances e.0 && rests e.0) e.2 in
        let more = both (advances e.0) (rests e.0) parts.1 in
        let next : e.0.new_state ≡ 0 = grind (arith, nat_tests, parts.0) in
        let f = entry_there rests (entry_of table 0 0) end in
        let goes = idle_inside on table advances actionable act rests law to start below e.0 e.1 next more.0 more.1 f.0 f.1 f.2 true (every (cluster_seen to.buffer to.last)) in
        (comes_on (turn m) fits (turn_falls m fits keeps passes pays) (turn_counts m) from to come _ goes).1

    -- where a run stands behind so many glyphs from a cursor on
    abbrev pub at_more : Config R → ℕ → Config R
    at_more c k = record c { buffer = with_cursor c.buffer (c.buffer.cursor + k); state = 0; last = last_seen c.buffer c.last k; turns = c.turns + k }

    -- behind so many glyphs that are passed
    pub passed_more :
        (from to : Config R) (on : ℕ → Bool) → ((x : ℕ) → on x ≡ true)
        → HasCome (turn (machine_with on table advances actionable act)) fits from to
        → to.state ≡ 0
        → (k : ℕ) → to.buffer.cursor + k ≤ length to.buffer.line
        → ((i : ℕ) → i < k → has_entry (passes_by advances rests)
        (entry_of table 0 (unwrap_or (class_of table (glyph_at to.buffer.line (to.buffer.cursor + i)).glyph_id) 1)) ≡ true)
        → HasCome (turn (machine_with on table advances actionable act)) fits from (at_more to k)
    passed_more from to on every come start zero within passes_each =
        let m = machine_with on table advances actionable act in
        let cursor : to.buffer.cursor ≡ to.buffer.cursor + 0 = omega arith in
        let turns : to.turns ≡ to.turns + 0 = omega arith in
        let begun = subst (λ (s : ℕ). HasCome (turn m) fits from (record to { state = s })) start come in
        let placed = subst (λ (p : ℕ). HasCome (turn m) fits from (record to { buffer = with_cursor to.buffer p; state = 0 })) cursor begun in
        subst (λ (t : ℕ). HasCome (turn m) fits from (record to { buffer = with_cursor to.buffer (to.buffer.cursor + 0); state = 0; turns = t })) turns placed
    passed_more from to on every come start (suc k) within passes_each =
        let before = passed_more from to on every come start k (omega (arith, within)) (λ i lt. passes_each i (omega (arith, lt))) in
        let d = at_more to k in
        let below : d.buffer.cursor < length d.buffer.line = omega (arith, within) in
        let inside : is_at_end d.buffer ≡ false = grind (arith, nat_tests, below) in
        let here : has_entry (passes_by advances rests) (entry_at table 0 d.buffer) ≡ true = rw inside (passes_each k (omega arith)) in
        let seen : cluster_seen d.buffer d.last ≡ (glyph_at to.buffer.line (to.buffer.cursor + k)).cluster = rw inside refl in
        let m = machine_with on table advances actionable act in
        let next = passed_once from d on every before refl below here in
        let last = subst (λ (x : ℕ). HasCome (turn m) fits from (record d { buffer = passed d.buffer; state = 0; last = x; turns = d.turns + 1 })) seen next in
        let cursor : d.buffer.cursor + 1 ≡ to.buffer.cursor + suc k = omega arith in
        let turns : d.turns + 1 ≡ to.turns + suc k = omega arith in
        let placed = subst (λ (p : ℕ). HasCome (turn m) fits from (record d { buffer = with_cursor to.buffer p; state = 0; last = last_seen to.buffer to.last (suc k); turns = d.turns + 1 })) cursor last in
        subst (λ (t : ℕ). HasCome (turn m) fits from (record d { buffer = with_cursor to.buffer (to.buffer.cursor + suc k); state = 0; last = last_seen to.buffer to.last (suc k); turns = t })) turns placed
