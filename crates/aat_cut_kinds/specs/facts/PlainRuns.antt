-- A run of an insertion subtable, and that of its plain table: where some of the budget is left they leave the same, but
-- that the plain one leaves fewer marks.
use Rattle.std.proofs.Common.{◌≡◌, ◌∙◌, ◌⊎◌, inl, inr, ℕ, ℤ, zero, suc, ◌+◌, ◌-◌, ◌<◌, ◌≤◌, ◌&&◌, not, Bool, true, false, cond, List, length, Option, Some, None, option_map, refl, ap, subst, subst₂, sym, arith}
use Rattle.aat_buffer.specs.Buffer.{Buffer, with_cursor, with_line}
use Rattle.aat_machine_tables.specs.Entries.{goes_on}
use Rattle.aat_machine_tables.specs.Table.{TableValue, class_of, entry_of}
use Rattle.aat_lookup.specs.declared.glyph_id.GlyphId.{GlyphId}
use Rattle.aat_glyph.specs.declared.glyph.hb_glyph_info_t.{hb_glyph_info_t}
use Rattle.aat_run.specs.Budget.{has_operations, operations_left, paid, potential}
use Rattle.aat_run.specs.Context.{Config, Machine, Moved, class_at, cluster_seen, is_at_end, is_inside, start}
use Rattle.aat_run.specs.Driven.{machine_run}
use Rattle.aat_run.specs.Laws.{Stands}
use Rattle.aat_run.specs.Machine.{Ends, Goes, OnGoes, Turn, acted, behind_act, break_marked_at, by_entry, counted, marked, off, passed, run, run_to_end, settled_by, stepped, turn}
use Rattle.aat_run.specs.Safe.{is_safe}
use Rattle.aat_run.specs.facts.MachineRuns.{budget_of_marked, paid_less, turn_falls, turn_keeps}
use Rattle.aat_run.specs.facts.Runs.{followed, run_keeps, run_step}
use Rattle.aat_run.specs.facts.Turns.{Lower}
use Rattle.aat_kinds.specs.Insertion.{Entry, IsFit, Registers, act, fresh}
use Rattle.aat_kinds.specs.Kinds.{insertion_run}
use Rattle.aat_kinds.specs.facts.InsertionLaws as laws
use Rattle.aat_cut_kinds.specs.facts.EmptyRuns.{IsBarerBuffer, LeftBarer, barer_act}
use Rattle.aat_cut_kinds.specs.facts.FewerMarks.{AreBarer, barer_itself, barer_unsafe, class_same, end_same, inside_same, seen_same}
use Rattle.aat_cut_kinds.specs.facts.PlainTables.{entry_same, machine, plain_entry, plain_machine, plain_table, safe_same}

-- where the two runs stand
record StandsBarer (c d : Config Registers) : Type 0 where
  buffer : IsBarerBuffer c.buffer d.buffer
  rest : d ≡ record c { buffer = d.buffer }

-- both turns end so, or both go on
BothTurns : Turn (Config Registers) → Turn (Config Registers) → Type 0
BothTurns (Ends c) (Ends d) = StandsBarer c d
BothTurns (Ends c) (Goes d) = ⊥
BothTurns (Goes c) (Ends d) = ⊥
BothTurns (Goes c) (Goes d) = StandsBarer c d

-- behind a step
step_both : (a : Bool) (b : Buffer) (hs : List hb_glyph_info_t) → b.positions ≡ None → AreBarer b.line hs → IsBarerBuffer (stepped a b) (stepped a (with_line b hs))
step_both true b hs none k = record { line = k; rest = refl; none = none }
step_both false b hs none k = by_budget (has_operations b)
  where
    by_budget : (t : Bool) → IsBarerBuffer (cond t (paid 1 b) (paid 1 (passed b))) (cond t (paid 1 (with_line b hs)) (paid 1 (passed (with_line b hs))))
    by_budget true = record { line = k; rest = refl; none = none }
    by_budget false = record { line = k; rest = refl; none = none }

module _ (c : Config Registers) (hs : List hb_glyph_info_t) (none : c.buffer.positions ≡ None) (k : AreBarer c.buffer.line hs) where
  -- where the run of the plain table stands
  abbrev barer : Config Registers
  barer = record c { buffer = with_line c.buffer hs }

  -- what is settled behind an act
  settled_both : (a : Bool) → BothTurns (settled_by (stepped a) c) (settled_by (stepped a) barer)
  unfolding BothTurns
  settled_both a =
      subst (λ (t : Bool). BothTurns (settled_by (stepped a) c) (cond t (Ends barer) (Goes (record barer { buffer = stepped a (with_line c.buffer hs) })))) (end_same c.buffer hs k) (by_end (is_at_end c.buffer))
    where
      by_end : (t : Bool) → BothTurns (cond t (Ends c) (Goes (record c { buffer = stepped a c.buffer }))) (cond t (Ends barer) (Goes (record barer { buffer = stepped a (with_line c.buffer hs) })))
      by_end true = record { buffer = record { line = k; rest = refl; none = none }; rest = refl }
      by_end false = record { buffer = step_both a c.buffer hs none k; rest = refl }

module _ (table : TableValue Entry) (on : ℕ → Bool) (glyphs : List GlyphId) where
  -- the machine of the table, and that of the plain one
  abbrev m : Machine Registers Entry
  m = machine table on glyphs

  abbrev plain : Machine Registers Entry
  plain = plain_machine table on glyphs

  module _ (c : Config Registers) (hs : List hb_glyph_info_t) (none : c.buffer.positions ≡ None) (k : AreBarer c.buffer.line hs) where
    -- a turn where the subtable is off
    off_both : BothTurns (off m c) (off plain (barer c hs none k))
    unfolding off BothTurns
    off_both =
        subst (λ (t : Bool). BothTurns (off m c) (cond t (Ends (barer c hs none k)) (Goes (record (barer c hs none k) { buffer = passed (with_line c.buffer hs); state = 0 })))) (end_same c.buffer hs k) (by_end (is_at_end c.buffer))
      where
        by_end : (t : Bool) → BothTurns (cond t (Ends c) (Goes (record c { buffer = passed c.buffer; state = 0 }))) (cond t (Ends (barer c hs none k)) (Goes (record (barer c hs none k) { buffer = passed (with_line c.buffer hs); state = 0 })))
        by_end true = record { buffer = record { line = k; rest = refl; none = none }; rest = refl }
        by_end false = record { buffer = record { line = k; rest = refl; none = none }; rest = refl }

    -- the entry at the cursor
    entry_there : (s : ℕ) → option_map plain_entry (entry_of table s (class_at (class_of table) c.buffer)) ≡ entry_of (plain_table table) s (class_at (class_of table) (with_line c.buffer hs))
    entry_there s = sym (entry_same table s (class_at (class_of table) c.buffer)) ∙ ap (λ (x : ℕ). entry_of (plain_table table) s x) (class_same c.buffer hs k (class_of table))

    -- whether a turn leaves a mark
    test_same : (e : Entry) → (is_inside c.buffer && not (is_safe m e (entry_of table 0 (class_at (class_of table) c.buffer)) (entry_of table c.state 0) c))
        ≡ (is_inside (with_line c.buffer hs) && not (is_safe plain (plain_entry e) (entry_of (plain_table table) 0 (class_at (class_of table) (with_line c.buffer hs))) (entry_of (plain_table table) c.state 0) (barer c hs none k)))
    test_same e =
        let from : Option Entry = entry_of table 0 (class_at (class_of table) c.buffer) in
        let end : Option Entry = entry_of table c.state 0 in
        let there : is_safe plain (plain_entry e) (option_map plain_entry from) (option_map plain_entry end) (barer c hs none k) ≡ is_safe plain (plain_entry e) (entry_of (plain_table table) 0 (class_at (class_of table) (with_line c.buffer hs))) (entry_of (plain_table table) c.state 0) (barer c hs none k) =
        λ i. is_safe plain (plain_entry e) (entry_there 0 i) (sym (entry_same table c.state 0) i) (barer c hs none k) in
        let safe = safe_same table on glyphs e from end c (barer c hs none k) refl ∙ there in
        λ i. inside_same c.buffer hs k i && not (safe i)

    -- the buffers that the acts find
    marks_both : (e : Entry) → IsBarerBuffer (marked m e c) (marked plain (plain_entry e) (barer c hs none k))
    unfolding marked
    marks_both e =
        subst (λ (t : Bool). IsBarerBuffer (marked m e c) (cond t (break_marked_at (with_line c.buffer hs)) (with_line c.buffer hs))) (test_same e)
        (by_test (is_inside c.buffer && not (is_safe m e (entry_of table 0 (class_at (class_of table) c.buffer)) (entry_of table c.state 0) c)))
      where
        by_test : (t : Bool) → IsBarerBuffer (cond t (break_marked_at c.buffer) c.buffer) (cond t (break_marked_at (with_line c.buffer hs)) (with_line c.buffer hs))
        by_test true = record { line = barer_unsafe c.buffer hs (Some (c.buffer.cursor - 1)) (Some (c.buffer.cursor + 1)) k; rest = refl; none = none }
        by_test false = record { line = k; rest = refl; none = none }

    module _ (some : 0 < operations_left c.buffer.max_ops) where
      -- what the acts leave
      left_both : (e : Entry) → LeftBarer (act glyphs e c.registers (marked m e c)) (act glyphs (plain_entry e) c.registers (marked plain (plain_entry e) (barer c hs none k)))
      left_both e =
          let both = marks_both e in
          let b : Buffer = marked m e c in
          let rich : 0 < operations_left b.max_ops = subst (λ (z : ℤ). 0 < operations_left z) (sym (budget_of_marked m e c)) some in
          subst (λ (x : Buffer). LeftBarer (act glyphs e c.registers b) (act glyphs (plain_entry e) c.registers x)) (sym both.rest)
          (barer_act glyphs e c.registers b (marked plain (plain_entry e) (barer c hs none k)).line rich both.none both.line)

      -- a turn by an entry
      acted_both : (e : Entry) → BothTurns (acted m e c) (acted plain (plain_entry e) (barer c hs none k))
      unfolding acted
      acted_both e =
          let x : Moved Registers = act glyphs e c.registers (marked m e c) in
          let y : Moved Registers = act glyphs (plain_entry e) c.registers (marked plain (plain_entry e) (barer c hs none k)) in
          let both = left_both e in
          let d : Config Registers = behind_act x e.new_state c in
          let there : record d { buffer = with_line x.buffer y.buffer.line } ≡ behind_act y e.new_state (barer c hs none k) =
          λ i. record d { buffer = sym both.buffer.rest i; registers = sym both.registers i } in
          subst (λ (z : Config Registers). BothTurns (settled_by (stepped (goes_on e)) d) (settled_by (stepped (goes_on e)) z)) there
          (settled_both d y.buffer.line both.buffer.none both.buffer.line (goes_on e))

      by_entry_both : (o : Option Entry) → BothTurns (by_entry m o c) (by_entry plain (option_map plain_entry o) (barer c hs none k))
      unfolding by_entry BothTurns
      by_entry_both None = record { buffer = record { line = k; rest = refl; none = none }; rest = refl }
      by_entry_both (Some e) = acted_both e

  -- the turns
  turn_both : (c : Config Registers) (hs : List hb_glyph_info_t) (none : c.buffer.positions ≡ None) (k : AreBarer c.buffer.line hs) → 0 < operations_left c.buffer.max_ops → BothTurns (turn m c) (turn plain (barer c hs none k))
  unfolding turn
  turn_both c hs none k some =
      let there : record (counted m c) { buffer = with_line c.buffer hs } ≡ counted plain (barer c hs none k) = λ i. record (counted m c) { buffer = with_line c.buffer hs; last = seen_same c.buffer hs k c.last i } in
      subst (λ (d : Config Registers). BothTurns (turn m c) (cond (on d.last) (by_entry plain (entry_of (plain_table table) c.state (class_at (class_of table) (with_line c.buffer hs))) d) (off plain d))) there
      (subst (λ (o : Option Entry). BothTurns (turn m c) (cond (on (cluster_seen c.buffer c.last)) (by_entry plain o (barer (counted m c) hs none k)) (off plain (barer (counted m c) hs none k)))) (entry_there c hs none k c.state)
      (by_on (on (cluster_seen c.buffer c.last))))
    where
      by_on : (t : Bool) → BothTurns (cond t (by_entry m (entry_of table c.state (class_at (class_of table) c.buffer)) (counted m c)) (off m (counted m c)))
          (cond t (by_entry plain (option_map plain_entry (entry_of table c.state (class_at (class_of table) c.buffer))) (barer (counted m c) hs none k)) (off plain (barer (counted m c) hs none k)))
      by_on true = by_entry_both (counted m c) hs none k some (entry_of table c.state (class_at (class_of table) c.buffer))
      by_on false = off_both (counted m c) hs none k

-- no turns add to the budget
spends : (table : TableValue Entry) (on : ℕ → Bool) (glyphs : List GlyphId) (n : ℕ) (c : Config Registers) → Stands IsFit c
    → operations_left (run (turn (machine table on glyphs)) n c).buffer.max_ops ≤ operations_left c.buffer.max_ops
spends table on glyphs n c stands =
    let m = machine table on glyphs in
    let P = λ (b : Buffer). operations_left b.max_ops ≤ operations_left c.buffer.max_ops in
    run_keeps (turn m) (λ (d : Config Registers). potential d.buffer) (Stands IsFit) (turn_falls m IsFit (laws.keeps_fit glyphs) laws.passes_fit (laws.pays glyphs)) (λ (d : Config Registers). P d.buffer)
    (turn_keeps m IsFit (laws.keeps_fit glyphs) laws.passes_fit (laws.pays glyphs) P (λ b q. q)
    (λ e r b fit q. laws.of_act glyphs P (λ k d q. let less = paid_less k d.max_ops in omega (arith, q, less)) (λ d i j q. q) (λ index count i behind by d q. q) e r b q)
    (λ b q. q) (λ b q. let less = paid_less 1 b.max_ops in omega (arith, q, less)))
    n c stands (omega arith)

module _ (table : TableValue Entry) (on : ℕ → Bool) (glyphs : List GlyphId) where
  -- some of the budget is left of the run, or of that of the plain table
  abbrev pub SomeLeft : Config Registers → Config Registers → Type 0
  SomeLeft c d = (0 < operations_left c.buffer.max_ops) ⊎ (0 < operations_left d.buffer.max_ops)

  -- the turns of the two machines
  abbrev turned : Config Registers → Turn (Config Registers)
  turned = turn (machine table on glyphs)

  abbrev plain_turned : Config Registers → Turn (Config Registers)
  plain_turned = turn (plain_machine table on glyphs)

  -- where they stand behind so many turns
  runs_both : (i : ℕ) (c d : Config Registers) → StandsBarer c d → Stands IsFit c → Stands IsFit d → SomeLeft (run turned i c) (run plain_turned i d) → StandsBarer (run turned i c) (run plain_turned i d)
  unfolding run BothTurns
  runs_both zero c d both stands stands_plain some = both
  runs_both (suc i) c d both stands stands_plain some =
      let left : 0 < operations_left c.buffer.max_ops = rich some in
      let same : record c { buffer = with_line c.buffer d.buffer.line } ≡ d = (λ j. record c { buffer = sym both.buffer.rest j }) ∙ sym both.rest in
      let turns : BothTurns (turned c) (plain_turned d) = subst (λ (x : Config Registers). BothTurns (turned c) (plain_turned x)) same (turn_both table on glyphs c d.buffer.line both.buffer.none both.buffer.line left) in
      subst₂ (λ (x y : Config Registers). StandsBarer x y) (sym (run_step turned i c)) (sym (run_step plain_turned i d))
      (behind (λ x y k f g some. runs_both i x y k f g some) (turned c) (plain_turned d) turns
      (turn_falls (machine table on glyphs) IsFit (laws.keeps_fit glyphs) laws.passes_fit (laws.pays glyphs) c stands)
      (turn_falls (plain_machine table on glyphs) IsFit (laws.keeps_fit glyphs) laws.passes_fit (laws.pays glyphs) d stands_plain)
      (subst₂ (λ (x y : Config Registers). SomeLeft x y) (run_step turned i c) (run_step plain_turned i d) some))
    where
      rich : SomeLeft (run turned (suc i) c) (run plain_turned (suc i) d) → 0 < operations_left c.buffer.max_ops
      rich (inl some) = let less = spends table on glyphs (suc i) c stands in omega (arith, some, less)
      rich (inr some) =
          let less = spends (plain_table table) on glyphs (suc i) d stands_plain in
          let budget : operations_left d.buffer.max_ops ≡ operations_left c.buffer.max_ops = ap (λ (b : Buffer). operations_left b.max_ops) both.buffer.rest in
          omega (arith, some, less, budget)

      behind : ((x y : Config Registers) → StandsBarer x y → Stands IsFit x → Stands IsFit y → SomeLeft (run turned i x) (run plain_turned i y) → StandsBarer (run turned i x) (run plain_turned i y))
          → (x y : Turn (Config Registers)) → BothTurns x y → OnGoes (Lower IsFit (potential c.buffer)) x → OnGoes (Lower IsFit (potential d.buffer)) y → SomeLeft (followed (run turned i) x) (followed (run plain_turned i) y) → StandsBarer (followed (run turned i) x) (followed (run plain_turned i) y)
      behind more (Ends x) (Ends y) k f g some = k
      behind more (Ends x) (Goes y) k f g some = absurd k
      behind more (Goes x) (Ends y) k f g some = absurd k
      behind more (Goes x) (Goes y) k f g some = more x y k f.1 g.1 some

  -- the runs over a line
  pub plain_run_is_barer : (b : Buffer) → (0 < operations_left (insertion_run on table glyphs b).buffer.max_ops) ⊎ (0 < operations_left (insertion_run on (plain_table table) glyphs b).buffer.max_ops)
      → IsBarerBuffer (insertion_run on table glyphs b).buffer (insertion_run on (plain_table table) glyphs b).buffer
  unfolding insertion_run machine_run run_to_end
  plain_run_is_barer b some =
      let c : Config Registers = start false b fresh in
      let fit = laws.fits_fresh (length b.line) in
      let both = runs_both (potential c.buffer + 1) c c (record { buffer = record { line = barer_itself b.line; rest = refl; none = refl }; rest = refl }) fit fit some in
      record { line = both.buffer.line; rest = ap (λ (x : Buffer). with_cursor x 0) both.buffer.rest; none = both.buffer.none }
