-- The closing run of a subtable over a line on which no glyph wakes it: it leaves the line, in its turns, and tells.
use Rattle.std.proofs.Common.{◌≡◌, ◌∙◌, ap, refl, ℕ, zero, suc, ◌+◌, ◌<◌, ◌&&◌, ◌==◌, Bool, true, false, cond, Option, Some, unwrap_or, List, length, nat_lt, arith}
use Rattle.std.proofs.Math.Bool.{and-false}
use Rattle.std.proofs.lemmas.Bool.{not-true}
use Rattle.std.proofs.lemmas.Bool.Decides.{nat_tests}
use Rattle.aat_buffer.specs.Buffer.{Buffer, glyph_at, with_cursor, without_positions}
use Rattle.aat_font.specs.Idle.{contextual_rests, has_entry, insertion_rests, is_idle, is_idle_at_end, is_idle_class, is_idle_glyph, ligature_rests, passes, rearrangement_rests}
use Rattle.aat_lookup.specs.declared.glyph_id.GlyphId.{GlyphId}
use Rattle.aat_machine_tables.specs.Entries.{goes_on}
use Rattle.aat_machine_tables.specs.Judged.{rearrangement_acts}
use Rattle.aat_machine_tables.specs.Subtables.{ContextualTables, LigatureTables}
use Rattle.aat_machine_tables.specs.Table.{TableValue, class_of, entry_of}
use Rattle.aat_machine_tables.specs.declared.morx.SubtableKind.{SubtableKind}
use Rattle.aat_machine_tables.specs.declared.morx.SubtableKind.TheVariants.{Rearrangement, Contextual, Ligature, NonContextual, Insertion}
use Rattle.aat_machine_tables.specs.declared.state_table.GenericStateEntry.{GenericStateEntry}
use Rattle.aat_run.specs.Budget.{potential}
use Rattle.aat_run.specs.Context.{Config, Context, Machine, Moved, class_at, cluster_seen, is_at_end, is_inside, machine_of, start}
use Rattle.aat_run.specs.Driven.{comes_to_end}
use Rattle.aat_run.specs.Laws.{RestsBy}
use Rattle.aat_run.specs.Machine.{Ends, acted, by_entry, counted, marked, off, passed, run, run_to_end, turn}
use Rattle.aat_run.specs.Outcome.{Outcome}
use Rattle.aat_run.specs.facts.IdleRuns.{IsIdleLine, Rests, both, entry_there, idle_inside, idle_run}
use Rattle.aat_run.specs.facts.MachineRuns.{turn_when_off, turn_when_on}
use Rattle.aat_run.specs.facts.Runs.{run_step}
use Rattle.aat_kinds.specs.Contextual as contextual
use Rattle.aat_kinds.specs.Idle.{IsIdleLineOf, at_rest}
use Rattle.aat_kinds.specs.Insertion as insertion
use Rattle.aat_kinds.specs.Kinds.{Sizes}
use Rattle.aat_kinds.specs.Ligature as ligature
use Rattle.aat_kinds.specs.Rearrangement as rearrangement
use Rattle.aat_kinds.specs.facts.IdleKinds.{idle_kind}
use Rattle.aat_kinds.specs.facts.Resting.{contextual_rest, insertion_rest, ligature_rest, rearrangement_rest}
use Rattle.aat_closing.specs.Closing.{closed_from, closing, contextual_from, insertion_from, insertion_may_act, ligature_from, rearrangement_from}
use Rattle.aat_closing.specs.ClosingRuns.{Told, closing_run, contextual_closing, insertion_closing, ligature_closing, rearrangement_closing, told_run}
use Rattle.aat_closing.specs.facts.ClosedLaws.{one_glyph}
use Rattle.aat_closing.specs.facts.RestOpen.{contextual_rests_open, insertion_rests_open, ligature_rests_open, rearrangement_rests_open}

-- what a subtable leaves over such a line, told or not
abbrev pub told_at_rest : Bool → SubtableKind → Buffer → Told
told_at_rest tells kind b = let o = at_rest kind b in record { buffer = o.buffer; turns = o.turns; is_told = tells }

-- such a run comes to the end of the line
module _ {R T : Type 0} (on : ℕ → Bool) (table : TableValue (GenericStateEntry T)) (x : Context R (GenericStateEntry T))
    (rests : GenericStateEntry T → Bool) (law : Rests rests x)
  where
    abbrev m : Machine R (GenericStateEntry T)
    m = machine_of on table x

    module _ (f : GenericStateEntry T) (at_end : entry_of table 0 0 ≡ Some f) (f_rests : rests f ≡ true) where
      -- at the end no turn leaves a mark
      unmarked : (d : Config R) → is_at_end d.buffer ≡ true → marked m f d ≡ d.buffer
      unfolding marked
      unmarked d end =
          let outside : is_inside d.buffer ≡ false = ap (λ t. nat_lt 0 d.buffer.cursor && t) (not-true (nat_lt d.buffer.cursor (length d.buffer.line)) end) ∙ and-false (nat_lt 0 d.buffer.cursor) in
          rw outside refl

      acted_there : (d : Config R) → is_at_end d.buffer ≡ true → acted m f d ≡ Ends (record d { state = f.new_state })
      unfolding acted
      acted_there d end = rw (unmarked d end) (rw (law.law.stays f f_rests d.registers d.buffer) (rw end refl))

      -- a turn at the end ends the run there, whether the subtable is on or off
      ends_there : (c : Config R) → c.state ≡ 0 → is_at_end c.buffer ≡ true → (t : Bool) → on (cluster_seen c.buffer c.last) ≡ t → (d : Config R) × (turn m c ≡ Ends d) × (is_at_end d.buffer ≡ true)
      unfolding off by_entry
      ends_there c begun end false is_off = (counted m c, turn_when_off m c is_off ∙ rw end refl, end)
      ends_there c begun end true is_on =
          let d : Config R = counted m c in
          let class : class_at (class_of table) c.buffer ≡ 0 = rw end refl in (
            record d { state = f.new_state },
            turn_when_on m c is_on
                ∙ (ap (λ (s : ℕ). by_entry m (entry_of table s (class_at (class_of table) c.buffer)) d) begun
                ∙ (ap (λ (k : ℕ). by_entry m (entry_of table 0 k) d) class
                ∙ (ap (λ (o : Option (GenericStateEntry T)). by_entry m o d) at_end ∙ acted_there d end))),
            end,
          )

      -- n turns are enough for k glyphs
      ends_by : (n k : ℕ) (c : Config R) → c.state ≡ 0 → c.buffer.cursor + k ≡ length c.buffer.line → k < n → IsIdleLine rests table c.buffer → is_at_end (run (turn m) n c).buffer ≡ true
      ends_by zero k c start there enough idle = absurd (omega arith)
      ends_by (suc n) zero c start there enough idle =
          let past : c.buffer.cursor ≡ length c.buffer.line = omega (arith, there) in
          let last = ends_there c start (grind (arith, nat_tests, past)) (on (cluster_seen c.buffer c.last)) refl in
          rw (run_step (turn m) n c, last.1) last.2
      ends_by (suc n) (suc k) c start there enough idle =
          let below : c.buffer.cursor < length c.buffer.line = omega (arith, there) in
          let inside : is_at_end c.buffer ≡ false = grind (arith, nat_tests, below) in
          let passes_here = (both (is_idle_at_end rests table) (is_idle_class rests table (unwrap_or (class_of table (glyph_at c.buffer.line c.buffer.cursor).glyph_id) 1)) (idle c.buffer.cursor below)).1 in
          let here : has_entry (passes rests) (entry_of table 0 (class_at (class_of table) c.buffer)) ≡ true = rw inside passes_here in
          let e = entry_there (passes rests) (entry_of table 0 (class_at (class_of table) c.buffer)) here in
          let first = both (e.0.new_state == 0) (goes_on e.0 && rests e.0) e.2 in
          let rest = both (goes_on e.0) (rests e.0) first.1 in
          let next : e.0.new_state ≡ 0 = grind (arith, nat_tests, first.0) in
          let d : Config R = record (counted m c) { buffer = passed c.buffer; state = 0 } in
          let goes = idle_inside on table x.advances x.actionable x.act rests law.law c start below e.0 e.1 next (law.advances e.0 rest.0) rest.1 f at_end f_rests (on (cluster_seen c.buffer c.last)) refl in
          rw (run_step (turn m) n c, goes) (ends_by n k d refl (omega (arith, there)) (omega (arith, enough)) idle)

    idle_comes : (b : Buffer) → is_idle_at_end rests table ≡ true → IsIdleLine rests table b → comes_to_end on table x b ≡ true
    unfolding comes_to_end run_to_end
    idle_comes b end idle =
        let f = entry_there rests (entry_of table 0 0) end in
        let c = start x.in_place b x.fresh in
        ends_by f.0 f.1 f.2 (potential c.buffer + 1) (length c.buffer.line) c refl (omega arith) (omega arith) (rw (line_of x.in_place) idle)
      where
        line_of : (in_place : Bool) → (cond in_place b (without_positions b)).line ≡ b.line
        line_of true = refl
        line_of false = refl

    idle_told : (b : Buffer) → is_idle_at_end rests table ≡ true → IsIdleLine rests table b
        → told_run on table x b ≡ record { buffer = with_cursor (cond x.in_place b (without_positions b)) 0; turns = length b.line + 1; is_told = true }
    unfolding told_run
    idle_told b end idle =
        let left = idle_run on table x rests law b end idle in
        let told = idle_comes b end idle in
        λ i. record { buffer = (left i).buffer; turns = (left i).turns; is_told = told i }

-- an act that closes nothing where an entry rests
closed_rest : {R E : Type 0} (resting : E → Bool) (actionable acting : E → R → ℕ → ℕ → Bool) (act : E → R → Buffer → Moved R) (from : E → R → Buffer → ℕ)
    → RestsBy resting actionable act → ((e : E) → resting e ≡ true → (r : R) (p n : ℕ) → acting e r p n ≡ false) → ((e : E) → resting e ≡ true → (r : R) (b : Buffer) → from e r b ≡ b.cursor)
    → RestsBy resting acting (closing from act)
closed_rest resting actionable acting act from alone unactionable is_open = record {
  unactionable = unactionable;
  stays = λ e rests r b. ap (act e r) (ap (λ (i : ℕ). closed_from i b) (is_open e rests r b) ∙ one_glyph b b.cursor) ∙ alone.stays e rests r b;
}

rearrangement_closed : (bound : ℕ) (table : TableValue rearrangement.Entry) → Rests rearrangement_rests (rearrangement_closing bound)
rearrangement_closed bound table = record {
  law = closed_rest rearrangement_rests rearrangement.actionable (λ e r p n. rearrangement_acts e) (rearrangement.act bound) rearrangement_from (rearrangement_rest bound)
      rearrangement_rests_open.unactionable (λ e rests r b. rearrangement_rests_open.stays_open e rests table r b);
  advances = λ e goes. goes;
}

contextual_closed : (classes : Option (List (ℕ × ℕ))) (s : ContextualTables) → Rests contextual_rests (contextual_closing classes s.lookups)
contextual_closed classes s = record {
  law = closed_rest contextual_rests contextual.actionable contextual.actionable (contextual.act classes s.lookups) contextual_from (contextual_rest classes s.lookups)
      (contextual_rest classes s.lookups).unactionable
      (λ e rests r b. contextual_rests_open.stays_open e rests s (record { classes = classes; lookups = s.lookups; registers = r }) b);
  advances = λ e goes. goes;
}

ligature_closed : (s : LigatureTables) (slots : ℕ) → Rests ligature_rests (ligature_closing s.state s.actions s.components s.ligatures slots)
ligature_closed s slots = record {
  law = closed_rest ligature_rests ligature.actionable ligature.actionable (ligature.act s.actions s.components s.ligatures) (ligature_from s.actions s.state) (ligature_rest s.actions s.components s.ligatures)
      (ligature_rest s.actions s.components s.ligatures).unactionable
      (λ e rests r b. ligature_rests_open.stays_open e rests s (record { actions = s.actions; components = s.components; ligatures = s.ligatures; registers = r }) b);
  advances = λ e goes. goes;
}

insertion_closed : (glyphs : List GlyphId) → Rests insertion_rests (insertion_closing glyphs)
insertion_closed glyphs = record {
  law = closed_rest insertion_rests insertion.actionable (λ e r p n. insertion_may_act e) (insertion.act glyphs) insertion_from (insertion_rest glyphs)
      (λ e rests r p n. insertion_rests_open.unactionable e rests (record { glyphs = glyphs; registers = r }) p n) (λ e rests r b. refl);
  advances = λ e goes. goes;
}

-- the end's entry rests where a glyph is idle
end_of : {T : Type 0} (rests : GenericStateEntry T → Bool) (table : TableValue (GenericStateEntry T)) (g : ℕ) → is_idle_glyph rests table g ≡ true → is_idle_at_end rests table ≡ true
end_of rests table g h = (both (is_idle_at_end rests table) (is_idle_class rests table (unwrap_or (class_of table g) 1)) h).0

-- the closing run of a subtable that no glyph of a line wakes
pub idle_closing : (z : Sizes) (on : ℕ → Bool) (kind : SubtableKind) (b : Buffer) → 0 < length b.line → IsIdleLineOf kind b.line → closing_run z on kind b ≡ told_at_rest true kind b
unfolding is_idle
idle_closing z on (Rearrangement table) b some idle =
    idle_told on table (rearrangement_closing z.bound) rearrangement_rests (rearrangement_closed z.bound table) b (end_of rearrangement_rests table _ (idle 0 some)) idle
idle_closing z on (Contextual s) b some idle =
    idle_told on s.state (contextual_closing z.classes s.lookups) contextual_rests (contextual_closed z.classes s) b (end_of contextual_rests s.state _ (idle 0 some)) idle
idle_closing z on (Ligature s) b some idle =
    idle_told on s.state (ligature_closing s.state s.actions s.components s.ligatures z.slots) ligature_rests (ligature_closed s z.slots) b (end_of ligature_rests s.state _ (idle 0 some)) idle
idle_closing z on (NonContextual lookup) b some idle =
    ap (λ (o : Outcome). record { buffer = o.buffer; turns = o.turns; is_told = true }) (idle_kind z on (NonContextual lookup) b some idle)
idle_closing z on (Insertion s) b some idle =
    idle_told on s.state (insertion_closing s.glyphs) insertion_rests (insertion_closed s.glyphs) b (end_of insertion_rests s.state _ (idle 0 some)) idle
