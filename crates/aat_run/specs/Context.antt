-- What a context means to the rewriting machine, and where a run stands. TrueType Reference Manual: The 'morx'
-- table, and State tables.
use Rattle.std.specs.Prelude.{ℕ, Bool, not, ◌&&◌, Option, nat_lt, length, unwrap_or, if◌then◌else◌}
use Rattle.aat_buffer.specs.Buffer.{Buffer, glyph_at, with_cursor, without_positions}
use Rattle.aat_machine_tables.specs.Table.{TableValue, class_of, entry_of}
use Rattle.aat_machine_tables.specs.declared.state_table.GenericStateEntry.{GenericStateEntry}

-- the registers and the buffer that an act leaves
pub record Moved (R : Type 0) : Type 0 where
  pub registers : R
  pub buffer : Buffer

-- what a context means: its fresh registers, whether it keeps the length and the positions, whether an entry advances,
-- whether it is actionable at registers, cursor and length, and its act
pub record Context (R E : Type 0) : Type 0 where
  pub fresh : R
  pub in_place : Bool
  pub advances : E → Bool
  pub actionable : E → R → ℕ → ℕ → Bool
  pub act : E → R → Buffer → Moved R

-- what a run asks: the clusters that are on, the class of a glyph, the entry of a state and class, the state that
-- an entry goes to, and its context
pub record Machine (R E : Type 0) : Type 0 where
  pub on : ℕ → Bool
  pub class_of : ℕ → Option ℕ
  pub entry : ℕ → ℕ → Option E
  pub next : E → ℕ
  pub advances : E → Bool
  pub actionable : E → R → ℕ → ℕ → Bool
  pub act : E → R → Buffer → Moved R

-- the machine of a state table, and of whether an entry advances, whether it is actionable, and its act
abbrev pub machine_with : {T R : Type 0} → (ℕ → Bool) → TableValue (GenericStateEntry T) → (GenericStateEntry T → Bool)
    → (GenericStateEntry T → R → ℕ → ℕ → Bool) → (GenericStateEntry T → R → Buffer → Moved R)
    → Machine R (GenericStateEntry T)
machine_with on table advances actionable act = record {
  on = on;
  class_of = class_of table;
  entry = entry_of table;
  next = λ e. e.new_state;
  advances = advances;
  actionable = actionable;
  act = act;
}

-- the machine of a state table and a context
abbrev pub machine_of : {T R : Type 0} → (ℕ → Bool) → TableValue (GenericStateEntry T) → Context R (GenericStateEntry T)
    → Machine R (GenericStateEntry T)
machine_of on table context = machine_with on table context.advances context.actionable context.act

-- where a run stands: line, cursor and budget (in the buffer), registers, state, the last cluster looked at, and
-- the turns so far
pub record Config (R : Type 0) : Type 0 where
  pub buffer : Buffer
  pub registers : R
  pub state : ℕ
  pub last : ℕ
  pub turns : ℕ

-- a run begins in state 0, that for the start of the text, with no glyph looked at and no turn taken
abbrev pub first_config : {R : Type 0} → Buffer → R → Config R
first_config b r = record { buffer = b; registers = r; state = 0; last = 0; turns = 0 }

-- it begins at the front; a context that is not in place drops the positions
abbrev pub start : {R : Type 0} → Bool → Buffer → R → Config R
start in_place b r = first_config (with_cursor (if in_place then b else without_positions b) 0) r

abbrev pub is_at_end : Buffer → Bool
is_at_end b = not (nat_lt b.cursor (length b.line))

-- whether the cursor is behind the first glyph and before the end
abbrev pub is_inside : Buffer → Bool
is_inside b = nat_lt 0 b.cursor && nat_lt b.cursor (length b.line)

-- the class at the cursor: 0, that of the end of the text, at the end, and 1, out of bounds, of a glyph without a class
abbrev pub class_at : (ℕ → Option ℕ) → Buffer → ℕ
class_at class_of b = if is_at_end b then 0 else unwrap_or (class_of (glyph_at b.line b.cursor).glyph_id) 1

-- the entry that a table has for a state and the class at the cursor
abbrev pub entry_at : {E : Type 0} → TableValue E → ℕ → Buffer → Option E
entry_at table state b = entry_of table state (class_at (class_of table) b)

-- the cluster at the cursor, or the last one looked at
abbrev pub cluster_seen : Buffer → ℕ → ℕ
cluster_seen b last = if is_at_end b then last else (glyph_at b.line b.cursor).cluster
