-- Which subtables are settled: each reached state has an entry for each class, and no register is used that was not set
-- since the machine was last in state 0. Apple's TrueType Reference Manual, "The 'morx' table", and "Font Tables", section on
-- state tables.
use Rattle.std.specs.Prelude.{◌≡◌, ◌≢◌, ℕ, ◌==◌, ◌&&◌, ◌||◌, Bool, true, false, not, nat_lt, Some, unwrap_or}
use Rattle.aat_machine_tables.specs.Entries.{goes_on, has_flag, is_present}
use Rattle.aat_machine_tables.specs.Table.{TableValue, class_of, entry_of}
use Rattle.aat_machine_tables.specs.declared.entries.ContextualEntryData.{ContextualEntryData}
use Rattle.aat_machine_tables.specs.declared.state_table.GenericStateEntry.{GenericStateEntry}
use Rattle.aat_cuts.specs.Reached.{IsComplete}

-- some glyph has the class: a glyph that has none has class 1, out of bounds
abbrev pub IsClassOfGlyph : {E : Type 0} → TableValue E → ℕ → Type 0
IsClassOfGlyph table k = (g : ℕ) × (unwrap_or (class_of table g) 1 ≡ k)

-- what a register is to the entries of a machine: whether one uses it as it was before, and whether one does at the end
-- of the text; whether one sets it; and whether the act of one may be nothing
pub record Register (T : Type 0) : Type 0 where
  pub uses : GenericStateEntry T → Bool
  pub uses_at_end : GenericStateEntry T → Bool
  pub sets : GenericStateEntry T → Bool
  pub may_idle : GenericStateEntry T → Bool

module _ {T : Type 0} (table : TableValue (GenericStateEntry T)) (register : Register T) (is_reached is_live : ℕ → Bool) where
  -- tidy: a labelling by where the register is live. An entry uses it only where it is live, and it is live only behind
  -- an entry that sets it or where it was live before, and not in state 0
  pub record IsTidy : Type 0 where
    pub first : is_live 0 ≡ false
    pub used :
        (s k : ℕ) (e : GenericStateEntry T) → is_reached s ≡ true → entry_of table s k ≡ Some e
        → register.uses e ≡ true → is_live s ≡ true
    pub at_end :
        (s : ℕ) (e : GenericStateEntry T) → is_reached s ≡ true → entry_of table s 0 ≡ Some e
        → register.uses_at_end e ≡ true → is_live s ≡ true
    pub kept :
        (s k : ℕ) (e : GenericStateEntry T) → is_reached s ≡ true → IsClassOfGlyph table k → entry_of table s k ≡ Some e
        → is_live e.new_state ≡ true → (register.sets e || is_live s) ≡ true

  -- agreeing: where an entry and that of state 0 for the same class are taken for one, since both may idle and do the
  -- same next, they set the register alike, or it is not live behind them
  pub record IsAgreeing : Type 0 where
    pub agreed :
        (s k : ℕ) (e f : GenericStateEntry T) → is_reached s ≡ true → IsClassOfGlyph table k
        → entry_of table s k ≡ Some e → entry_of table 0 k ≡ Some f
        → register.may_idle e ≡ true → register.may_idle f ≡ true
        → e.new_state ≡ f.new_state → goes_on e ≡ goes_on f → is_live e.new_state ≡ true
        → register.sets e ≡ register.sets f

-- an index names no lookup, or one of so many
abbrev pub is_answered : ℕ → ℕ → Bool
is_answered lookups index = not (is_present index) || nat_lt index lookups

-- the mark of a contextual machine with so many lookups. An entry that names a missing lookup does not set it, since
-- that ends its act before; and at the end of the text the current glyph, which is the last one, is replaced only where
-- it is set
abbrev pub the_mark : ℕ → Register ContextualEntryData
the_mark lookups = record {
  uses = λ e. is_present e.extra.mark_index;
  uses_at_end = λ e. is_present e.extra.current_index;
  sets = λ e. has_flag e 0x8000 && (is_answered lookups e.extra.mark_index && is_answered lookups e.extra.current_index);
  may_idle = λ e. not (is_present e.extra.mark_index || is_present e.extra.current_index);
}

-- the start or the end of the span of a rearrangement, by the flag that sets it. A verb uses both as the entry leaves
-- them; any entry may do nothing, since the span may be empty
abbrev pub the_end_set_by : ℕ → Register (Unit {0})
the_end_set_by flag = record {
  uses = λ e. has_flag e 0x000F && not (has_flag e flag);
  uses_at_end = λ e. false;
  sets = λ e. has_flag e flag;
  may_idle = λ e. true;
}

-- some labelling of the states by where the register is live is tidy and agreeing
abbrev pub IsRegisterSettled : {T : Type 0} → TableValue (GenericStateEntry T) → Register T → (ℕ → Bool) → Type 0
IsRegisterSettled table register is_reached =
    (is_live : ℕ → Bool) × IsTidy table register is_reached is_live × IsAgreeing table register is_reached is_live

-- no labelling of complete states is
abbrev pub IsRegisterUnsettled : {T : Type 0} → TableValue (GenericStateEntry T) → Register T → Type 0
IsRegisterUnsettled table register =
    (is_reached is_live : ℕ → Bool) → IsComplete table is_reached → IsTidy table register is_reached is_live
    → IsAgreeing table register is_reached is_live → ⊥

module _ {T : Type 0} (table : TableValue (GenericStateEntry T)) (register : Register T) where
  -- state 0 is one of some states, and with each of them each state that an entry of it leads to, for a glyph, that does
  -- not set the register
  pub record AreComeToUnset (states : ℕ → Bool) : Type 0 where
    pub first : states 0 ≡ true
    pub next :
        (s k : ℕ) (e : GenericStateEntry T) → states s ≡ true → IsClassOfGlyph table k → entry_of table s k ≡ Some e
        → register.sets e ≡ false → states e.new_state ≡ true

  -- a run may come to a state without setting the register since state 0: it is one of all such states
  abbrev pub MayBeUnset : ℕ → Type 0
  MayBeUnset state = (states : ℕ → Bool) → AreComeToUnset states → states state ≡ true

  -- each state with an entry that uses the register is one of some states, and with each of them each state with an entry
  -- that leads to it, for a glyph, and does not set the register
  pub record AreBeforeUse (states : ℕ → Bool) : Type 0 where
    pub used :
        (s k : ℕ) (e : GenericStateEntry T) → entry_of table s k ≡ Some e
        → (register.uses e || (k == 0 && register.uses_at_end e)) ≡ true → states s ≡ true
    pub before :
        (s k : ℕ) (e : GenericStateEntry T) → states e.new_state ≡ true → IsClassOfGlyph table k
        → entry_of table s k ≡ Some e → register.sets e ≡ false → states s ≡ true

  -- from a state on a run may use the register before it is set: it is one of all such states
  abbrev pub MayBeUsed : ℕ → Type 0
  MayBeUsed state = (states : ℕ → Bool) → AreBeforeUse states → states state ≡ true

-- the entry of a state and a class uses the register, and a run may come to the state that has not set it
abbrev pub IsUsedAt : {T : Type 0} → TableValue (GenericStateEntry T) → Register T → ℕ → ℕ → Type 0
IsUsedAt {T} table register state class =
    (e : GenericStateEntry T) × (entry_of table state class ≡ Some e)
    × ((register.uses e || (class == 0 && register.uses_at_end e)) ≡ true) × MayBeUnset table register state

-- the entry of a state and a glyph's class and that of state 0 are taken for one, and one of the two sets the register,
-- which may be used behind them
abbrev pub IsTakenAt : {T : Type 0} → TableValue (GenericStateEntry T) → Register T → ℕ → ℕ → Type 0
IsTakenAt {T} table register state class =
    (e f : GenericStateEntry T) × (entry_of table state class ≡ Some e) × (entry_of table 0 class ≡ Some f)
    × (register.may_idle e ≡ true) × (register.may_idle f ≡ true) × (e.new_state ≡ f.new_state)
    × (goes_on e ≡ goes_on f) × (register.sets e ≢ register.sets f) × MayBeUsed table register e.new_state
    × IsClassOfGlyph table class
