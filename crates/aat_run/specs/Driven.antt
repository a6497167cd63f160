-- The run of a context over a state table, and what a refusal leaves. TrueType Reference Manual: The 'morx' table,
-- and State tables.
use Rattle.std.specs.Prelude.{◌≡◌, ℕ, ◌+◌, ◌*◌, ◌<◌, ◌≤◌, Bool, false, List, length, Option, None, if◌then◌else◌}
use Rattle.aat_buffer.specs.Buffer.{Buffer, failed, with_cursor}
use Rattle.aat_buffer.specs.Clusters.{IsSmall}
use Rattle.aat_glyph.specs.declared.glyph.GlyphPosition.{GlyphPosition}
use Rattle.aat_machine_tables.specs.Table.{TableValue}
use Rattle.aat_machine_tables.specs.declared.state_table.GenericStateEntry.{GenericStateEntry}
use Rattle.aat_run.specs.Budget.{extent}
use Rattle.aat_run.specs.Context.{Context, Config, Moved, first_config, is_at_end, machine_of, machine_with, start}
use Rattle.aat_run.specs.Laws.{SameSettings}
use Rattle.aat_run.specs.Machine.{run_to_end}
use Rattle.aat_run.specs.Outcome.{Outcome}
use Rattle.aat_run.specs.Ranges.{is_driven_on}
use Rattle.aat_run.specs.declared.error.AatError.{AatError}
use Rattle.aat_run.specs.declared.error.AatError.TheVariants.{AaltValue, TooLong, OutOfMemory, BufferFailed}
use Rattle.aat_run.specs.declared.ranges.range_flags_t.{range_flags_t}

-- what a run leaves, with the cursor back at the front
abbrev pub outcome_of : {R : Type 0} → Config R → Outcome
outcome_of d = record { buffer = with_cursor d.buffer 0; turns = d.turns }

-- a context by what it says of itself, with fresh registers
abbrev pub context_from : {R E : Type 0} → Bool → (E → Bool) → (E → R → ℕ → ℕ → Bool) → (E → R → Buffer → Moved R) → R
    → Context R E
context_from in_place advances actionable act fresh = record {
  fresh = fresh;
  in_place = in_place;
  advances = advances;
  actionable = actionable;
  act = act;
}

-- the run of a context over a state table, from fresh registers
unfoldable pub machine_run : {T R : Type 0} → (ℕ → Bool) → TableValue (GenericStateEntry T)
    → Context R (GenericStateEntry T) → Buffer → Outcome
machine_run on table context b =
    outcome_of (run_to_end (machine_of on table context) (start context.in_place b context.fresh))

-- whether the same run comes to the end of the line: a missing entry may end it before
unfoldable pub comes_to_end : {T R : Type 0} → (ℕ → Bool) → TableValue (GenericStateEntry T)
    → Context R (GenericStateEntry T) → Buffer → Bool
comes_to_end on table context b =
    is_at_end (run_to_end (machine_of on table context) (start context.in_place b context.fresh)).buffer

-- the registers that the same run leaves
unfoldable pub registers_behind : {T R : Type 0} → (ℕ → Bool) → TableValue (GenericStateEntry T)
    → Context R (GenericStateEntry T) → Buffer → R
registers_behind on table context b =
    (run_to_end (machine_of on table context) (start context.in_place b context.fresh)).registers

-- Over a state table that ranges and the feature flags of a subtable switch, and what a context says of its entries:
module _ {T R : Type 0} (ranges : List range_flags_t) (feature_flags : ℕ) (table : TableValue (GenericStateEntry T))
  where
    -- where a run ends that begins at the cursor, with a buffer and registers
    abbrev pub driven_to_end : (GenericStateEntry T → Bool) → (GenericStateEntry T → R → ℕ → ℕ → Bool)
        → (GenericStateEntry T → R → Buffer → Moved R) → Buffer → R → Config R
    driven_to_end advances actionable act b r =
        run_to_end (machine_with (is_driven_on ranges feature_flags) table advances actionable act) (first_config b r)

    -- the run from the front, with fresh registers
    abbrev pub driven_run : Bool → (GenericStateEntry T → Bool) → (GenericStateEntry T → R → ℕ → ℕ → Bool)
        → (GenericStateEntry T → R → Buffer → Moved R) → R → Buffer → Outcome
    driven_run in_place advances actionable act fresh b =
        machine_run (is_driven_on ranges feature_flags) table (context_from in_place advances actionable act fresh) b

    -- whether it comes to the end of the line
    abbrev pub driven_through : Bool → (GenericStateEntry T → Bool) → (GenericStateEntry T → R → ℕ → ℕ → Bool)
        → (GenericStateEntry T → R → Buffer → Moved R) → R → Buffer → Bool
    driven_through in_place advances actionable act fresh b =
        let context = context_from in_place advances actionable act fresh in
        comes_to_end (is_driven_on ranges feature_flags) table context b

    -- the registers that it leaves
    abbrev pub driven_registers : Bool → (GenericStateEntry T → Bool) → (GenericStateEntry T → R → ℕ → ℕ → Bool)
        → (GenericStateEntry T → R → Buffer → Moved R) → R → Buffer → R
    driven_registers in_place advances actionable act fresh b =
        let context = context_from in_place advances actionable act fresh in
        registers_behind (is_driven_on ranges feature_flags) table context b

-- the positions that a run leaves: those that stood before it, and none where the context is not in place
abbrev pub positions_behind : Bool → Buffer → Option (List GlyphPosition)
positions_behind in_place b = if in_place then b.positions else None

-- why an act or a run is refused over a buffer, given the buffer that it would leave: as too long only where the
-- line would pass the longest one, and for want of memory only where the line would get longer, and there was room for
-- a glyph: the length is looked at first, so that over a line without room the error is always the first one
abbrev pub IsRefusal : Buffer → Buffer → AatError → Type 0
IsRefusal old left (AaltValue value) = ⊥
IsRefusal old left TooLong = old.max_len < length left.line
IsRefusal old left OutOfMemory = (length old.line < length left.line) × (length old.line < old.max_len)
IsRefusal old left BufferFailed = ⊥

-- a buffer that has failed, and but for line, cursor, positions and budget is as before
abbrev pub SameButFailed : Buffer → Buffer → Type 0
SameButFailed old new = SameSettings (failed old) new

-- what a refusal leaves of a buffer: it has failed, its line is some line of 16-bit glyphs that is at most as long as
-- the longest one, and but for line, cursor, positions and budget all is as before
pub record IsRefused (old new : Buffer) : Type 0 where
  pub failed : new.successful ≡ false
  pub ids : IsSmall new
  pub length : length new.line ≤ old.max_len
  pub settings : SameButFailed old new

-- what the runs of so many subtables keep: 16-bit ids; at most n + M + 1 turns for each; length and budget together
-- do not grow; and but for line, cursor, positions and budget all stays
pub record StaysWithin (count : ℕ) (old new : Buffer) (turns : ℕ) : Type 0 where
  pub ids : IsSmall new
  pub counted : turns ≤ count * (extent old + 1)
  pub extent : extent new ≤ extent old
  pub settings : SameSettings old new
