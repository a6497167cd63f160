-- The laws of a driver's act, which a kerning machine's run asks for, and what kerning changes.
use Rattle.std.specs.Prelude.{◌≡◌, ℕ, ◌+◌, ◌≤◌, ◌⊎◌, Bool, true, IsSome, length, bit_or, if◌then◌else◌}
use Rattle.std.specs.List.{AllZip}
use Rattle.aat_buffer.specs.Buffer.{Buffer, position_list, with_scratch_flags}
use Rattle.aat_buffer.specs.Marks.{with_mask_bits}
use Rattle.aat_glyph.specs.declared.glyph.hb_glyph_info_t.{hb_glyph_info_t}
use Rattle.aat_run.specs.Budget.{has_operations, operations_left}
use Rattle.aat_run.specs.Context.{Config, Moved}
use Rattle.aat_run.specs.Laws.{SameSettings, FitsFresh, PassesFit, KeepsFit, Stands}
use Rattle.aat_run.specs.Machine.{Goes}
use Rattle.aat_kerning_machines.specs.KerningMachine.{Driver, KerningMachine, kerning_turn}

-- a number got bits besides its own, but only of those that are allowed
abbrev pub GainsBits : ℕ → ℕ → ℕ → Type 0
GainsBits allowed old new = (k : ℕ) × (bit_or k allowed ≡ allowed) × (new ≡ bit_or old k)

-- what an act and a whole kerning leave of the rest: as many positions, which stand where they stood, the scratch
-- flags but for HAS_GPOS_ATTACHMENT (8), which may be set, and every setting
pub record SameText (old new : Buffer) : Type 0 where
  pub positions : length (position_list new) ≡ length (position_list old)
  pub standing : IsSome old.positions → IsSome new.positions
  pub scratch_flags : GainsBits 8 old.scratch_flags.0 new.scratch_flags.0
  pub settings : SameSettings (with_scratch_flags old new.scratch_flags) new

-- an act changes positions and that scratch flag alone
pub record PositionsAlone (old new : Buffer) : Type 0 where
  pub line : new.line ≡ old.line
  pub cursor : new.cursor ≡ old.cursor
  pub budget : new.max_ops ≡ old.max_ops
  pub text : SameText old new

-- a driver's act keeps line, cursor and budget
abbrev pub ChangesPositionsAlone : {R E : Type 0} → (E → R → Buffer → Moved R) → (R → ℕ → ℕ → Type 0) → Type 0
ChangesPositionsAlone {R} {E} act fits =
    (e : E) (r : R) (b : Buffer) → fits r b.cursor (length b.line) → PositionsAlone b (act e r b).buffer

-- what a run asks of every driver
pub record IsLawfulDriver {R E : Type 0} (driver : Driver R E) (fits : R → ℕ → ℕ → Type 0) : Type 0 where
  pub fresh : FitsFresh fits driver.fresh
  pub passes_fit : PassesFit fits
  pub keeps_fit : KeepsFit driver.act fits
  pub keeps_place : ChangesPositionsAlone driver.act fits

-- a turn that stays was paid for with an operation, and there were some left: in `kerx` before the turn, and in `kern`
-- behind its payment
pub record IsPaidFor (pays_first : Bool) (old new : Buffer) : Type 0 where
  pub had : has_operations (if pays_first then new else old) ≡ true
  pub one : operations_left new.max_ops + 1 ≡ operations_left old.max_ops

-- each turn from registers that fit that goes on and leaves the cursor where it was has been paid for so
abbrev pub PaysForStaying : {R E : Type 0} → KerningMachine R E → (R → ℕ → ℕ → Type 0) → Type 0
PaysForStaying {R} m fits =
    (c d : Config R) → Stands fits c → kerning_turn m c ≡ Goes d → d.buffer.cursor ≡ c.buffer.cursor
    → IsPaidFor m.pays_first c.buffer d.buffer

-- a glyph that is as before, but for UNSAFE_TO_BREAK (1) and UNSAFE_TO_CONCAT (2), which its mask may have got
abbrev pub IsMarkedFrom : hb_glyph_info_t → hb_glyph_info_t → Type 0
IsMarkedFrom old new = (k : ℕ) × (bit_or k 3 ≡ 3) × (new ≡ with_mask_bits k old)

-- what kerning as a whole changes: marks, positions, that scratch flag, the budget, which does not grow where a
-- negative one counts as 0, and the cursor, which may be back at the front
pub record IsKernedFrom (old new : Buffer) : Type 0 where
  pub line : AllZip IsMarkedFrom old.line new.line
  pub cursor : (new.cursor ≡ old.cursor) ⊎ (new.cursor ≡ 0)
  pub budget : operations_left new.max_ops ≤ operations_left old.max_ops
  pub text : SameText old new
