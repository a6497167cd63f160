-- Why shaping is refused, and what it leaves then.
use Rattle.std.specs.Prelude.{◌≡◌, ◌⊎◌, true, false, None}
use Rattle.aat_buffer.specs.Buffer.{Buffer, failed, without_positions}
use Rattle.aat_font.specs.declared.face.hb_font_t.{hb_font_t}
use Rattle.aat_font.specs.declared.plan.hb_ot_shape_plan_t.{hb_ot_shape_plan_t}
use Rattle.aat_run.specs.declared.error.AatError.{AatError}
use Rattle.aat_run.specs.declared.error.AatError.TheVariants.{AaltValue, TooLong, OutOfMemory, BufferFailed}
use Rattle.aat_layout.specs.Refusals.{LeavesBehind, RefusesSubstitution, first_too_large}
use Rattle.aat_layout.specs.Shaping.{substituted_by_plan}

-- the plan applies substitution, which is refused so and leaves this
pub record IsSubstitutionRefused
    (plan : hb_ot_shape_plan_t) (face : hb_font_t) (old new : Buffer) (error : AatError) : Type 0
  where
    pub applied : plan.apply_morx ≡ true
    pub reason : RefusesSubstitution plan face old error
    pub left : LeavesBehind plan face old new error

-- positions got no memory behind substitution, of which no request was refused: the buffer has failed, no positions
-- stand, and all else is as substitution left it
pub record ArePositionsRefused (plan : hb_ot_shape_plan_t) (face : hb_font_t) (old new : Buffer) : Type 0 where
  pub successful : old.successful ≡ true
  pub fits : plan.apply_morx ≡ true → first_too_large plan face ≡ None
  pub left : new ≡ failed (without_positions (substituted_by_plan plan face old).buffer)

-- why shaping is refused, and what it leaves: nothing changes where the buffer had failed before; substitution's own
-- refusals come where the plan applies it; and want of memory comes for positions too
abbrev pub RefusesShaping : hb_ot_shape_plan_t → hb_font_t → Buffer → Buffer → AatError → Type 0
RefusesShaping plan face old new (AaltValue value) = IsSubstitutionRefused plan face old new (AaltValue value)
RefusesShaping plan face old new TooLong = IsSubstitutionRefused plan face old new TooLong
RefusesShaping plan face old new OutOfMemory =
    IsSubstitutionRefused plan face old new OutOfMemory ⊎ ArePositionsRefused plan face old new
RefusesShaping plan face old new BufferFailed = (old.successful ≡ false) × (new ≡ old)
