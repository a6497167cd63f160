-- The turn of the rewriting machine, and its runs. TrueType Reference Manual: The 'morx' table, and State tables.
use Rattle.std.specs.Prelude.{◌≡◌, ◌≤◌, zero, suc, ℕ, ◌+◌, ◌-◌, ◌&&◌, not, Bool, Option, Some, None, if◌then◌else◌}
use Rattle.aat_buffer.specs.Buffer.{Buffer, with_cursor}
use Rattle.aat_buffer.specs.Marks.{unsafe_to_break}
use Rattle.aat_run.specs.Budget.{paid, has_operations, potential}
use Rattle.aat_run.specs.Context.{Machine, Config, Moved, is_at_end, is_inside, class_at, cluster_seen}
use Rattle.aat_run.specs.Safe.{is_safe}

-- what a turn leaves: the run ends there, or goes on from there
pub data Turn (C : Type 0) : Type 0 where
  Ends : C → Turn C
  Goes : C → Turn C

abbrev pub left_by : {C : Type 0} → Turn C → C
left_by (Ends d) = d
left_by (Goes d) = d

-- what holds of a turn that goes on
abbrev pub OnGoes : {C : Type 0} → (C → Type 0) → Turn C → Type 0
OnGoes P (Ends d) = Unit {0}
OnGoes P (Goes d) = P d

-- turns until one ends, at most as many as given
unfoldable pub run : {C : Type 0} → (C → Turn C) → ℕ → C → C
run turn zero c = c
run turn (suc n) c = elim (turn c) [ Ends d ↦ d | Goes d ↦ run turn n d ]

-- one of the next n turns ends
abbrev pub EndsWithin : {C : Type 0} → (C → Turn C) → ℕ → C → Type 0
EndsWithin turn zero c = ⊥
EndsWithin turn (suc n) c = OnGoes (EndsWithin turn n) (turn c)

-- n turns are the whole run: one of them ends, so that more turns change nothing
pub record IsWholeRun {C : Type 0} (turn : C → Turn C) (n : ℕ) (c : C) : Type 0 where
  pub ends : EndsWithin turn n c
  pub enough : (k : ℕ) → n ≤ k → run turn k c ≡ run turn n c

-- What every machine shares, whatever its turn is.
module _ {R : Type 0} where
  -- the whole run: as many turns as the potential and one more are always enough
  abbrev pub whole_run : (Config R → Turn (Config R)) → Config R → Config R
  whole_run turn c = run turn (potential c.buffer + 1) c

  -- behind an act: the buffer and the registers that it leaves, and the new state
  abbrev pub behind_act : Moved R → ℕ → Config R → Config R
  behind_act left state c = record c { buffer = left.buffer; registers = left.registers; state = state }

  -- then the run ends at the end of the line, and else goes on behind a step
  abbrev pub settled_by : (Buffer → Buffer) → Config R → Turn (Config R)
  settled_by step c = if is_at_end c.buffer then Ends c else Goes (record c { buffer = step c.buffer })

-- the cursor one further
abbrev pub passed : Buffer → Buffer
passed b = with_cursor b (b.cursor + 1)

-- before the end, an entry that advances moves the cursor; one that stays is paid for, and moves it too where the
-- budget is used up
abbrev pub stepped : Bool → Buffer → Buffer
stepped does_advance b = if does_advance then passed b else (if has_operations b then paid 1 b else paid 1 (passed b))

-- the glyphs before and at the cursor, marked
abbrev pub break_marked_at : Buffer → Buffer
break_marked_at b = unsafe_to_break b (Some (b.cursor - 1)) (Some (b.cursor + 1))

module _ {R E : Type 0} (m : Machine R E) where
  -- the buffer that the act of e finds: marked before the cursor, unless the turn passes the test of `is_safe`
  unfoldable pub marked : E → Config R → Buffer
  marked e c =
      if is_inside c.buffer && not (is_safe m e (m.entry 0 (class_at m.class_of c.buffer)) (m.entry c.state 0) c)
      then break_marked_at c.buffer
      else c.buffer

  -- the mark, the act and the new state, and then e advances or stays
  unfoldable pub acted : E → Config R → Turn (Config R)
  acted e c =
      settled_by (stepped (m.advances e)) (behind_act (m.act e c.registers (marked e c)) (m.next e) c)

  -- a missing entry ends the run
  unfoldable pub by_entry : Option E → Config R → Turn (Config R)
  by_entry None c = Ends c
  by_entry (Some e) c = acted e c

  -- a glyph that is off is passed in state 0, that for the start of the text; the end that is off ends the run;
  -- registers and budget stay
  unfoldable pub off : Config R → Turn (Config R)
  off c = if is_at_end c.buffer then Ends c else Goes (record c { buffer = passed c.buffer; state = 0 })

  -- the turn is counted, and the cluster at the cursor looked at
  abbrev pub counted : Config R → Config R
  counted c = record c { last = cluster_seen c.buffer c.last; turns = c.turns + 1 }

  -- one turn
  unfoldable pub turn : Config R → Turn (Config R)
  turn c =
      let d = counted c in
      if m.on d.last then by_entry (m.entry d.state (class_at m.class_of d.buffer)) d else off d

  -- the run to its end
  unfoldable pub run_to_end : Config R → Config R
  run_to_end c = whole_run turn c
