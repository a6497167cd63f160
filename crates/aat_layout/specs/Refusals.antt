-- Why a substitution is refused, and what it leaves then.
use Rattle.std.specs.Prelude.{◌≡◌, ◌⊎◌, ℕ, ◌||◌, ◌&&◌, nat_lt, is_none, Bool, true, false, Option, Some, None, length, IsTrue}
use Rattle.aat_buffer.specs.Buffer.{Buffer}
use Rattle.aat_font.specs.Face.{tables_of}
use Rattle.aat_font.specs.declared.face.hb_font_t.{hb_font_t}
use Rattle.aat_font.specs.declared.plan.hb_ot_shape_plan_t.{hb_ot_shape_plan_t}
use Rattle.aat_run.specs.Driven.{IsRefused}
use Rattle.aat_run.specs.declared.error.AatError.{AatError}
use Rattle.aat_run.specs.declared.error.AatError.TheVariants.{AaltValue, TooLong, OutOfMemory, BufferFailed}
use Rattle.aat_kinds.specs.Kinds.{Sizes, sizes_for}
use Rattle.aat_map.specs.Adding.{first_too_large_among, makes_request}
use Rattle.aat_layout.specs.Planned.{substitution_with}

-- the value of the first feature of a plan that asks for alternates with a value that is no setting
abbrev pub first_too_large : hb_ot_shape_plan_t → hb_font_t → Option ℕ
first_too_large plan face = first_too_large_among (tables_of face).feat plan.user_features.items

-- a plan makes a request, before any feature that is too large
abbrev pub wants_memory : hb_ot_shape_plan_t → hb_font_t → Bool
wants_memory plan face = makes_request (tables_of face).feat plan.user_features.items

-- why a plan is refused
abbrev pub RefusesPlan : hb_ot_shape_plan_t → hb_font_t → AatError → Type 0
RefusesPlan plan face (AaltValue value) = first_too_large plan face ≡ Some value
RefusesPlan plan face TooLong = ⊥
RefusesPlan plan face OutOfMemory = IsTrue (wants_memory plan face)
RefusesPlan plan face BufferFailed = ⊥

-- why a substitution is refused before any subtable runs: a buffer that had failed, or the plan
abbrev pub RefusesBeforeRuns : hb_ot_shape_plan_t → hb_font_t → Buffer → AatError → Type 0
RefusesBeforeRuns plan face b (AaltValue value) = RefusesPlan plan face (AaltValue value)
RefusesBeforeRuns plan face b TooLong = RefusesPlan plan face TooLong
RefusesBeforeRuns plan face b OutOfMemory = RefusesPlan plan face OutOfMemory
RefusesBeforeRuns plan face b BufferFailed = b.successful ≡ false

-- the line that substitution leaves, with sizes, is longer than a number
abbrev pub passes_with : Sizes → hb_ot_shape_plan_t → hb_font_t → Buffer → ℕ → Bool
passes_with z plan face b n = nat_lt n (length (substitution_with z plan face b).buffer.line)

-- no value is too large, the line that substitution leaves, with sizes, is longer than the one that it is given, and
-- that one has room for a glyph more
abbrev pub grows_with : Sizes → hb_ot_shape_plan_t → hb_font_t → Buffer → Bool
grows_with z plan face b =
    is_none (first_too_large plan face)
    && passes_with z plan face b (length b.line)
    && nat_lt (length b.line) b.max_len

-- why a substitution with sizes is refused: first a buffer that had failed; then the plan; then a line that would pass
-- the longest one, or want of memory where the line would get longer and has room
abbrev pub RefusesSubstitutionWith : Sizes → hb_ot_shape_plan_t → hb_font_t → Buffer → AatError → Type 0
RefusesSubstitutionWith z plan face b (AaltValue value) =
    (b.successful ≡ true) × (first_too_large plan face ≡ Some value)
RefusesSubstitutionWith z plan face b TooLong =
    (b.successful ≡ true) × (first_too_large plan face ≡ None) × IsTrue (passes_with z plan face b b.max_len)
RefusesSubstitutionWith z plan face b OutOfMemory =
    (b.successful ≡ true) × IsTrue (wants_memory plan face || grows_with z plan face b)
RefusesSubstitutionWith z plan face b BufferFailed = b.successful ≡ false

-- the same with the usual sizes
abbrev pub RefusesSubstitution : hb_ot_shape_plan_t → hb_font_t → Buffer → AatError → Type 0
RefusesSubstitution plan face b error = RefusesSubstitutionWith (sizes_for face) plan face b error

-- what a refused substitution with sizes leaves: nothing changed, of want of memory only where the plan wants it; or it
-- was refused in the middle of a run that makes the line longer
abbrev pub LeavesBehindWith : Sizes → hb_ot_shape_plan_t → hb_font_t → Buffer → Buffer → AatError → Type 0
LeavesBehindWith z plan face old new (AaltValue value) = new ≡ old
LeavesBehindWith z plan face old new TooLong = IsRefused old new
LeavesBehindWith z plan face old new OutOfMemory =
    ((new ≡ old) × IsTrue (wants_memory plan face)) ⊎ (IsRefused old new × IsTrue (grows_with z plan face old))
LeavesBehindWith z plan face old new BufferFailed = new ≡ old

-- the same with the usual sizes
abbrev pub LeavesBehind : hb_ot_shape_plan_t → hb_font_t → Buffer → Buffer → AatError → Type 0
LeavesBehind plan face old new error = LeavesBehindWith (sizes_for face) plan face old new error
