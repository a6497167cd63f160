-- What a machine does over a line of glyphs that it passes in state 0: whether it is on or off at each of them, it takes
-- a turn for each and one more, and the line and the registers stay.
use Rattle.std.proofs.Common.{◌≡◌, ◌∙◌, ap, refl, ℕ, zero, suc, ◌+◌, ◌<◌, ◌&&◌, Bool, true, false, cond, ◌==◌, Option, Some, None, unwrap_or, List, length, arith}
use Rattle.std.proofs.lemmas.Bool.Decides.{nat_tests}
use Rattle.aat_buffer.specs.Buffer.{Buffer, with_cursor, without_positions, glyph_at}
use Rattle.aat_machine_tables.specs.Entries.{goes_on}
use Rattle.aat_font.specs.Idle.{has_entry, passes, is_idle_at_end, is_idle_class, is_idle_glyph}
use Rattle.aat_machine_tables.specs.Table.{TableValue, class_of, entry_of}
use Rattle.aat_machine_tables.specs.declared.state_table.GenericStateEntry.{GenericStateEntry}
use Rattle.aat_glyph.specs.declared.glyph.hb_glyph_info_t.{hb_glyph_info_t}
use Rattle.aat_run.specs.Budget.{potential}
use Rattle.aat_run.specs.Context.{Context, Machine, Config, Moved, machine_of, machine_with, start, is_at_end, class_at, cluster_seen}
use Rattle.aat_run.specs.Driven.{machine_run}
use Rattle.aat_run.specs.Laws.{RestsBy}
use Rattle.aat_run.specs.Machine.{Ends, Goes, counted, passed, marked, acted, by_entry, off, run, turn, run_to_end}
use Rattle.aat_run.specs.Safe.{is_safe}
use Rattle.aat_run.specs.facts.MachineRuns.{turn_when_on, turn_when_off}
use Rattle.aat_run.specs.facts.OffRuns.{IsPassedOver}
use Rattle.aat_run.specs.facts.Runs.{run_step}

-- a context whose entries rest by a test, and advance where they go on
pub record Rests {R T : Type 0} (rests : GenericStateEntry T → Bool) (x : Context R (GenericStateEntry T)) : Type 0 where
  pub law : RestsBy rests x.actionable x.act
  pub advances : (e : GenericStateEntry T) → goes_on e ≡ true → x.advances e ≡ true

-- where no entry is said to rest
pub never_rests : {R E : Type 0} {actionable : E → R → ℕ → ℕ → Bool} {act : E → R → Buffer → Moved R} → RestsBy (λ e. false) actionable act
never_rests = record { unactionable = λ e h. cc; stays = λ e h. cc }

-- each glyph of a line is passed in state 0
abbrev pub IsIdleLine : {T : Type 0} → (GenericStateEntry T → Bool) → TableValue (GenericStateEntry T) → Buffer → Type 0
IsIdleLine rests table b = (i : ℕ) → i < length b.line → is_idle_glyph rests table (glyph_at b.line i).glyph_id ≡ true

pub both : (a b : Bool) → (a && b) ≡ true → (a ≡ true) × (b ≡ true)
both true b h = (refl, h)
both false b h = cc

-- what an entry says that is passed
parts_of : {T : Type 0} (rests : GenericStateEntry T → Bool) (e : GenericStateEntry T) → passes rests e ≡ true → (e.new_state ≡ 0) × (goes_on e ≡ true) × (rests e ≡ true)
parts_of rests e h =
    let first = both (e.new_state == 0) (goes_on e && rests e) h in
    let rest = both (goes_on e) (rests e) first.1 in
    let next : e.new_state ≡ 0 = grind (arith, nat_tests, first.0) in
    (next, rest.0, rest.1)

pub entry_there : {E : Type 0} (test : E → Bool) (o : Option E) → has_entry test o ≡ true → (e : E) × (o ≡ Some e) × (test e ≡ true)
entry_there test None h = cc
entry_there test (Some e) h = (e, refl, h)

module _ {R T : Type 0} (on : ℕ → Bool) (table : TableValue (GenericStateEntry T)) (advances : GenericStateEntry T → Bool)
    (actionable : GenericStateEntry T → R → ℕ → ℕ → Bool) (act : GenericStateEntry T → R → Buffer → Moved R)
    (rests : GenericStateEntry T → Bool) (law : RestsBy rests actionable act)
  where
    abbrev m : Machine R (GenericStateEntry T)
    m = machine_with on table advances actionable act

    -- such a turn leaves no mark
    unmarked : (e f : GenericStateEntry T) (c : Config R) → c.state ≡ 0 → rests e ≡ true → entry_of table 0 0 ≡ Some f → rests f ≡ true → marked m e c ≡ c.buffer
    unfolding marked is_safe
    unmarked e f c start e_rests at_end f_rests =
        let p = c.buffer.cursor in
        let n = length c.buffer.line in
        rw (start, at_end, law.unactionable e e_rests c.registers p n, law.unactionable f f_rests c.registers p n) (grind (arith, nat_tests))

    -- what the entry of a glyph that is passed does, and that for the end
    acted_inside :
        (e f : GenericStateEntry T) (d : Config R) → d.state ≡ 0 → is_at_end d.buffer ≡ false
        → e.new_state ≡ 0 → advances e ≡ true → rests e ≡ true
        → entry_of table 0 0 ≡ Some f → rests f ≡ true
        → acted m e d ≡ Goes (record d { buffer = passed d.buffer; state = 0 })
    unfolding acted
    acted_inside e f d start inside next goes e_rests at_end f_rests =
        rw (unmarked e f d start e_rests at_end f_rests) (rw (law.stays e e_rests d.registers d.buffer) (rw (goes, inside, next) refl))

    acted_at_end :
        (f : GenericStateEntry T) (d : Config R) → d.state ≡ 0 → is_at_end d.buffer ≡ true
        → entry_of table 0 0 ≡ Some f → rests f ≡ true → acted m f d ≡ Ends (record d { state = f.new_state })
    unfolding acted
    acted_at_end f d start end at_end f_rests =
        rw (unmarked f f d start f_rests at_end f_rests) (rw (law.stays f f_rests d.registers d.buffer) (rw end refl))

    -- the turn of the entry that the state has
    by_entry_of :
        (c : Config R) (e : GenericStateEntry T) (class : ℕ) → c.state ≡ 0 → class_at (class_of table) c.buffer ≡ class
        → entry_of table 0 class ≡ Some e → on (cluster_seen c.buffer c.last) ≡ true → turn m c ≡ acted m e (counted m c)
    unfolding by_entry
    by_entry_of c e class start class_is there is_on =
        let d = counted m c in
        turn_when_on m c is_on
        ∙ (ap (λ (s : ℕ). by_entry m (entry_of table s (class_at (class_of table) c.buffer)) d) start
        ∙ (ap (λ (k : ℕ). by_entry m (entry_of table 0 k) d) class_is
        ∙ ap (λ (o : Option (GenericStateEntry T)). by_entry m o d) there))

    -- a turn before the end
    pub idle_inside :
        (c : Config R) → c.state ≡ 0 → c.buffer.cursor < length c.buffer.line
        → (e : GenericStateEntry T) → entry_of table 0 (class_at (class_of table) c.buffer) ≡ Some e
        → e.new_state ≡ 0 → advances e ≡ true → rests e ≡ true
        → (f : GenericStateEntry T) → entry_of table 0 0 ≡ Some f → rests f ≡ true
        → (b : Bool) → on (cluster_seen c.buffer c.last) ≡ b
        → turn m c ≡ Goes (record (counted m c) { buffer = passed c.buffer; state = 0 })
    unfolding off
    idle_inside c start below e there next goes e_rests f at_end f_rests false is_off =
        let inside : is_at_end c.buffer ≡ false = grind (arith, nat_tests, below) in
        turn_when_off m c is_off ∙ rw inside refl
    idle_inside c start below e there next goes e_rests f at_end f_rests true is_on =
        let inside : is_at_end c.buffer ≡ false = grind (arith, nat_tests, below) in
        by_entry_of c e _ start refl there is_on ∙ acted_inside e f (counted m c) start inside next goes e_rests at_end f_rests

    -- one at the end
    idle_at_end :
        (c : Config R) → c.state ≡ 0 → c.buffer.cursor ≡ length c.buffer.line
        → (f : GenericStateEntry T) → entry_of table 0 0 ≡ Some f → rests f ≡ true
        → (b : Bool) → on (cluster_seen c.buffer c.last) ≡ b
        → (d : Config R) × (turn m c ≡ Ends d) × IsPassedOver c d 1
    unfolding off
    idle_at_end c start there f at_end f_rests false is_off =
        let end : is_at_end c.buffer ≡ true = grind (arith, nat_tests, there) in
        (counted m c, turn_when_off m c is_off ∙ rw end refl, record { buffer = refl; registers = refl; counted = refl; at_end = end })
    idle_at_end c start there f at_end f_rests true is_on =
        let end : is_at_end c.buffer ≡ true = grind (arith, nat_tests, there) in
        let class : class_at (class_of table) c.buffer ≡ 0 = rw end refl in (
          record (counted m c) { state = f.new_state },
          by_entry_of c f 0 start class at_end is_on ∙ acted_at_end f (counted m c) start end at_end f_rests,
          record { buffer = refl; registers = refl; counted = refl; at_end = end },
        )

    module _ (goes_on_advances : (e : GenericStateEntry T) → goes_on e ≡ true → advances e ≡ true) (f : GenericStateEntry T) (at_end : entry_of table 0 0 ≡ Some f) (f_rests : rests f ≡ true) where
      -- n turns are enough for k glyphs
      idle_by :
          (n k : ℕ) (c : Config R) → c.state ≡ 0 → c.buffer.cursor + k ≡ length c.buffer.line → k < n
          → IsIdleLine rests table c.buffer → IsPassedOver c (run (turn m) n c) (k + 1)
      idle_by zero k c start there enough idle = absurd (omega arith)
      idle_by (suc n) zero c start there enough idle =
          let last = idle_at_end c start (omega (arith, there)) f at_end f_rests (on (cluster_seen c.buffer c.last)) refl in
          rw (run_step (turn m) n c, last.1) last.2
      idle_by (suc n) (suc k) c start there enough idle =
          let below : c.buffer.cursor < length c.buffer.line = omega (arith, there) in
          let inside : is_at_end c.buffer ≡ false = grind (arith, nat_tests, below) in
          let passes_here = (both (is_idle_at_end rests table) (is_idle_class rests table (unwrap_or (class_of table (glyph_at c.buffer.line c.buffer.cursor).glyph_id) 1)) (idle c.buffer.cursor below)).1 in
          let here : has_entry (passes rests) (entry_of table 0 (class_at (class_of table) c.buffer)) ≡ true = rw inside passes_here in
          let e = entry_there (passes rests) (entry_of table 0 (class_at (class_of table) c.buffer)) here in
          let d : Config R = record (counted m c) { buffer = passed c.buffer; state = 0 } in
          let parts = parts_of rests e.0 e.2 in
          let goes = idle_inside c start below e.0 e.1 parts.0 (goes_on_advances e.0 parts.1) parts.2 f at_end f_rests (on (cluster_seen c.buffer c.last)) refl in
          let rest = idle_by n k d refl (omega (arith, there)) (omega (arith, enough)) idle in
          rw (run_step (turn m) n c, goes)
          (record { buffer = rest.buffer; registers = rest.registers; counted = omega (arith, rest.counted); at_end = rest.at_end })

-- the whole run from the front
module _ {R T : Type 0} (on : ℕ → Bool) (table : TableValue (GenericStateEntry T)) (x : Context R (GenericStateEntry T))
    (rests : GenericStateEntry T → Bool) (law : Rests rests x)
  where
    pub idle_run :
        (b : Buffer) → is_idle_at_end rests table ≡ true → IsIdleLine rests table b
        → machine_run on table x b
        ≡ record { buffer = with_cursor (cond x.in_place b (without_positions b)) 0; turns = length b.line + 1 }
    unfolding machine_run run_to_end
    idle_run b end idle =
        let f = entry_there rests (entry_of table 0 0) end in
        let c = start x.in_place b x.fresh in
        let same_line : c.buffer.line ≡ b.line = line_of x.in_place in
        let over = idle_by on table x.advances x.actionable x.act rests law.law law.advances f.0 f.1 f.2 (potential c.buffer + 1) (length c.buffer.line) c refl (omega arith) (omega arith) (rw same_line idle) in
        let turns : (run_to_end (machine_of on table x) c).turns ≡ length b.line + 1 = omega (arith, over.counted, ap (λ (gs : List hb_glyph_info_t). length gs) same_line) in
        rw (over.buffer, turns) refl
      where
        line_of : (in_place : Bool) → (cond in_place b (without_positions b)).line ≡ b.line
        line_of true = refl
        line_of false = refl
