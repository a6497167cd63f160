-- The turn of a kerning machine, and its runs. TrueType Reference Manual: The 'kerx' table, formats 1 and 4, The 'kern'
-- table, format 1, and State tables.
use Rattle.std.specs.Prelude.{ℕ, ◌+◌, ◌==◌, ◌&&◌, ◌||◌, not, Bool, true, nat_lt, length, Option, Some, None, if◌then◌else◌}
use Rattle.aat_buffer.specs.Buffer.{Buffer}
use Rattle.aat_buffer.specs.Marks.{unsafe_to_break}
use Rattle.aat_machine_tables.specs.Table.{TableValue, class_of, entry_of}
use Rattle.aat_machine_tables.specs.declared.state_table.GenericStateEntry.{GenericStateEntry}
use Rattle.aat_machine_tables.specs.declared.entries.EntryData.{EntryData}
use Rattle.aat_machine_tables.specs.Entries.{goes_on, is_present}
use Rattle.aat_run.specs.Budget.{paid, has_operations}
use Rattle.aat_run.specs.Context.{Config, Moved, is_inside, class_at, start}
use Rattle.aat_run.specs.Driven.{outcome_of}
use Rattle.aat_run.specs.Machine.{Turn, Ends, whole_run, behind_act, settled_by, passed, break_marked_at}
use Rattle.aat_run.specs.Outcome.{Outcome}

-- what a driver means: its fresh registers, whether an entry is actionable, and its act on positions and scratch flags
pub record Driver (R E : Type 0) : Type 0 where
  pub fresh : R
  pub actionable : E → Bool
  pub act : E → R → Buffer → Moved R

-- an entry of a `kerx` machine has an action, and is actionable, where it has an index
abbrev pub has_action : GenericStateEntry EntryData → Bool
has_action e = is_present e.extra.action_index

-- the driver that has these registers at first, by whether an entry is actionable and by its act
abbrev pub driver_from : {R E : Type 0} → (E → Bool) → (E → R → Buffer → Moved R) → R → Driver R E
driver_from actionable act fresh = record { fresh = fresh; actionable = actionable; act = act }

-- what a run asks: the class of a glyph, the entry of a state and class, the state that an entry goes to, whether it
-- advances, whether it is actionable, its act, and whether a turn is paid for before it looks at the budget
pub record KerningMachine (R E : Type 0) : Type 0 where
  pub class_of : ℕ → Option ℕ
  pub entry : ℕ → ℕ → Option E
  pub next : E → ℕ
  pub advances : E → Bool
  pub actionable : E → Bool
  pub act : E → R → Buffer → Moved R
  pub pays_first : Bool

-- the machine of a state table, and of whether an entry is actionable, and its act
abbrev pub kerning_machine_with :
    {T R : Type 0} → Bool → TableValue (GenericStateEntry T) → (GenericStateEntry T → Bool)
    → (GenericStateEntry T → R → Buffer → Moved R)
    → KerningMachine R (GenericStateEntry T)
kerning_machine_with pays_first table actionable act = record {
  class_of = class_of table;
  entry = entry_of table;
  next = λ e. e.new_state;
  advances = goes_on;
  actionable = actionable;
  act = act;
  pays_first = pays_first;
}

-- the machine of a state table and a driver
abbrev pub kerning_machine_of :
    {T R : Type 0} → Bool → TableValue (GenericStateEntry T) → Driver R (GenericStateEntry T)
    → KerningMachine R (GenericStateEntry T)
kerning_machine_of pays_first table driver = kerning_machine_with pays_first table driver.actionable driver.act

-- the cursor moves where the entry advances or the budget is used up. TrueType Reference Manual: State tables.
abbrev pub moved_on : Bool → Buffer → Buffer
moved_on does_advance b = if does_advance || not (has_operations b) then passed b else b

-- the glyphs at the cursor and behind it, marked: what comes next can change what is done here
abbrev pub break_marked_behind : Buffer → Buffer
break_marked_behind b = unsafe_to_break b (Some b.cursor) (Some (b.cursor + 2))

-- Each turn that goes on is paid for. A `kern` machine takes an operation when a turn sets out, so that the last one
-- moves the cursor; a `kerx` machine takes it when the turn is over, so that an entry may stay once more on the last.
-- Two loops of the crate that is ported do so, and either way no entry can stay for ever.
abbrev pub stepped : Bool → Bool → Buffer → Buffer
stepped pays_first does_advance b =
    if pays_first then moved_on does_advance (paid 1 b) else paid 1 (moved_on does_advance b)

module _ {R E : Type 0} (m : KerningMachine R E) where
  -- so it is behind an entry of this machine
  abbrev pub kerning_stepped : E → Buffer → Buffer
  kerning_stepped e b = stepped m.pays_first (m.advances e) b

  -- Whether the state tells that what stood before the cursor matters here: it is not 0, and the entry acts, goes to
  -- another state than 0 or advances. One that stays and goes back to state 0 looks at this glyph again from there. The
  -- registers are not asked, and they outlive state 0, so that what stood before may matter where this does not hold.
  abbrev pub depends_on_before : E → Config R → Bool
  depends_on_before e c = not (c.state == 0) && (m.actionable e || (not (m.next e == 0) || m.advances e))

  -- inside the line the glyphs before and at the cursor are then marked. (Break safety is the shaper's own.)
  unfoldable pub kerning_marked : E → Config R → Buffer
  kerning_marked e c = if is_inside c.buffer && depends_on_before e c then break_marked_at c.buffer else c.buffer

  -- the act and the new state, and then the step
  unfoldable pub kerning_acted : E → Config R → Turn (Config R)
  kerning_acted e c = settled_by (kerning_stepped e) (behind_act (m.act e c.registers c.buffer) (m.next e) c)

  -- Where two glyphs or more are left, the text could end behind this one. So the state needs an entry for the end of
  -- the text, and one that is actionable makes the line unsafe behind the cursor.
  unfoldable pub looked_ahead : E → Option E → Config R → Turn (Config R)
  looked_ahead e None c = Ends c
  looked_ahead e (Some f) c =
      kerning_acted e (if m.actionable f then record c { buffer = break_marked_behind c.buffer } else c)

  -- a missing entry ends the run
  unfoldable pub kerning_by_entry : Option E → Config R → Turn (Config R)
  kerning_by_entry None c = Ends c
  kerning_by_entry (Some e) c =
      let d = record c { buffer = kerning_marked e c } in
      if nat_lt (d.buffer.cursor + 1) (length d.buffer.line)
      then looked_ahead e (m.entry d.state 0) d
      else kerning_acted e d

  -- one turn. TrueType Reference Manual: State tables.
  unfoldable pub kerning_turn : Config R → Turn (Config R)
  kerning_turn c = kerning_by_entry (m.entry c.state (class_at m.class_of c.buffer)) (record c { turns = c.turns + 1 })

  -- the whole run
  unfoldable pub kerning_whole : Config R → Config R
  kerning_whole c = whole_run kerning_turn c

-- the run of a driver over a state table, from fresh registers, with the cursor back at the front
unfoldable pub driver_run :
    {T R : Type 0} → Bool → TableValue (GenericStateEntry T) → Driver R (GenericStateEntry T) → Buffer → Outcome
driver_run pays_first table driver b =
    outcome_of (kerning_whole (kerning_machine_of pays_first table driver) (start true b driver.fresh))

-- the registers that this run leaves
unfoldable pub registers_left :
    {T R : Type 0} → Bool → TableValue (GenericStateEntry T) → Driver R (GenericStateEntry T) → Buffer → R
registers_left pays_first table driver b =
    (kerning_whole (kerning_machine_of pays_first table driver) (start true b driver.fresh)).registers
