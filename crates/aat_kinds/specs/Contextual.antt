-- The contextual act. TrueType Reference Manual: The 'morx' table, contextual substitution.
use Rattle.std.specs.Prelude.{◌≡◌, ℕ, ◌+◌, ◌-◌, ◌<◌, ◌&&◌, ◌||◌, Bool, true, false, nat_lt, min, List, length, Option, Some, None, option_map, unwrap_or, slice_get, if◌then◌else◌}
use Rattle.aat_buffer.specs.Buffer.{Buffer, glyph_at}
use Rattle.aat_buffer.specs.Marks.{unsafe_to_break, with_line}
use Rattle.aat_lookup.specs.Keys.{value_in}
use Rattle.aat_machine_tables.specs.declared.state_table.GenericStateEntry.{GenericStateEntry}
use Rattle.aat_machine_tables.specs.declared.entries.ContextualEntryData.{ContextualEntryData}
use Rattle.aat_machine_tables.specs.Entries.{has_flag, goes_on, is_present}
use Rattle.aat_run.specs.Context.{Context, Moved}
use Rattle.aat_kinds.specs.Values.{with_value_at}

abbrev pub Entry : Type 0
Entry = GenericStateEntry ContextualEntryData

-- the marked place, and whether one was ever marked
pub record Registers : Type 0 where
  pub mark : ℕ
  pub is_set : Bool

abbrev pub fresh : Registers
fresh = record { mark = 0; is_set = false }

-- at the end with no mark set nothing happens
abbrev pub can_act : Registers → ℕ → ℕ → Bool
can_act r p n = nat_lt p n || r.is_set

abbrev pub actionable : Entry → Registers → ℕ → ℕ → Bool
actionable e r p n = can_act r p n && (is_present e.extra.mark_index || is_present e.extra.current_index)

-- 0x8000 marks the cursor
abbrev pub with_mark : Entry → Registers → ℕ → Registers
with_mark e r p = if has_flag e 0x8000 then record { mark = p; is_set = true } else r

-- the registers fit where a mark that was set lies within the line
abbrev pub IsFit : Registers → ℕ → ℕ → Type 0
IsFit r p n = (r.is_set ≡ true → r.mark < n) × (r.is_set ≡ false → r.mark ≡ 0)

-- over the glyph classes of the font, where it has them, and the lookups of the subtable
module _ (classes : Option (List (ℕ × ℕ))) (lookups : List (List (ℕ × ℕ))) where
  -- the value that a lookup has for a glyph. No index asks for nothing, and so has none; None is a missing lookup
  unfoldable pub answer_of : ℕ → ℕ → Option (Option ℕ)
  answer_of index g =
      if is_present index then option_map (λ lookup. value_in lookup g) (slice_get lookups index) else Some None

  -- what an answer changes; None stays None
  abbrev pub changed_by : Option (Option ℕ) → (ℕ → Buffer) → Buffer → Option Buffer
  changed_by answer change b = option_map (λ value. unwrap_or (option_map change value) b) answer

  -- one look-up for the glyph at a place, with what its value changes
  abbrev pub looked_up : ℕ → ℕ → (ℕ → Buffer) → Buffer → Option Buffer
  looked_up index i change b = changed_by (answer_of index (glyph_at b.line i).glyph_id) change b

  -- the glyph at a place is replaced by a value
  abbrev pub replaced_at : ℕ → ℕ → Buffer → Buffer
  replaced_at i v b = with_line b (with_value_at classes i v b.line)

  -- the marked glyph: a value makes the line unsafe from it to the cursor, and replaces it
  unfoldable pub at_mark : Entry → Registers → Buffer → Option Buffer
  at_mark e r b =
      looked_up e.extra.mark_index r.mark
      (λ v. replaced_at r.mark v (unsafe_to_break b (Some r.mark) (Some (min (b.cursor + 1) (length b.line))))) b

  -- the glyph at the cursor, or the last one
  unfoldable pub at_cursor : Entry → Buffer → Option Buffer
  at_cursor e b =
      let i = min b.cursor (length b.line - 1) in
      looked_up e.extra.current_index i (λ v. replaced_at i v b) b

  -- a missing lookup ends the action, with what was done before it
  abbrev pub behind_cursor : Entry → Registers → Buffer → Option Buffer → Moved Registers
  behind_cursor e r b None = record { registers = r; buffer = b }
  behind_cursor e r b (Some d) = record { registers = with_mark e r d.cursor; buffer = d }

  abbrev pub behind_mark : Entry → Registers → Buffer → Option Buffer → Moved Registers
  behind_mark e r b None = record { registers = r; buffer = b }
  behind_mark e r b (Some d) = behind_cursor e r d (at_cursor e d)

  -- the act of an entry: the marked glyph, the glyph at the cursor, then the mark
  unfoldable pub act : Entry → Registers → Buffer → Moved Registers
  act e r b =
      if can_act r b.cursor (length b.line) then behind_mark e r b (at_mark e r b)
      else record { registers = r; buffer = b }

  abbrev pub context : Context Registers Entry
  context = record { fresh = fresh; in_place = true; advances = goes_on; actionable = actionable; act = act }

-- what a contextual context holds: the glyph classes of its font, the lookups of its subtable, and its registers
pub record Held : Type 0 where
  pub classes : Option (List (ℕ × ℕ))
  pub lookups : List (List (ℕ × ℕ))
  pub registers : Registers

-- with fresh registers
abbrev pub held_fresh : Option (List (ℕ × ℕ)) → List (List (ℕ × ℕ)) → Held
held_fresh classes lookups = record { classes = classes; lookups = lookups; registers = fresh }

-- no place is marked, with which a run starts
abbrev pub IsHeldFresh : Held → Type 0
IsHeldFresh h = h.registers ≡ fresh

-- the same with other registers
abbrev pub with_registers : Held → Registers → Held
with_registers h r = record h { registers = r }

-- what its registers say of places, and whether an entry is actionable
abbrev pub held_fit : Held → ℕ → ℕ → Type 0
held_fit h p n = IsFit h.registers p n

abbrev pub held_actionable : Entry → Held → ℕ → ℕ → Bool
held_actionable e h p n = actionable e h.registers p n

-- the act over the classes and lookups that are held
abbrev pub held_act : Entry → Held → Buffer → Moved Held
held_act e h b =
    let m = act h.classes h.lookups e h.registers b in
    record { registers = with_registers h m.registers; buffer = m.buffer }
