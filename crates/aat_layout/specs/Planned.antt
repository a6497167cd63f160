-- Substitution by a plan. Apple's TrueType Reference Manual, "The 'morx' table".
use Rattle.std.specs.Prelude.{List}
use Rattle.aat_buffer.specs.Buffer.{Buffer}
use Rattle.aat_font.specs.Face.{tables_of, chains_in}
use Rattle.aat_font.specs.declared.face.hb_font_t.{hb_font_t}
use Rattle.aat_font.specs.declared.plan.hb_ot_shape_plan_t.{hb_ot_shape_plan_t}
use Rattle.aat_run.specs.Outcome.{Outcome}
use Rattle.aat_kinds.specs.Kinds.{Sizes, sizes_for}
use Rattle.aat_map.specs.SwitchedChains.{switched, plan_requests}
use Rattle.aat_map.specs.declared.feature.feature_range_t.{feature_range_t}
use Rattle.aat_morx.specs.Isolation.{AskAlike, AreOneButCursor}
use Rattle.aat_morx.specs.Substitution.{substituted}

-- substitution by a plan, with sizes: what it leaves of a buffer, in how many turns
abbrev pub substitution_with : Sizes → hb_ot_shape_plan_t → hb_font_t → Buffer → Outcome
substitution_with z plan face b =
    substituted z (switched plan.apply_morx (plan_requests plan face) (chains_in (tables_of face).morx)) b

-- the same with the usual sizes
abbrev pub substitution : hb_ot_shape_plan_t → hb_font_t → Buffer → Outcome
substitution plan face b = substitution_with (sizes_for face) plan face b

-- what is asked for elsewhere changes nothing: requests that give each chain the plan's flags at each cluster
-- that a glyph has at the start, or at 0 where there is no glyph, leave the same buffer, wherever its cursor then is
abbrev pub IsIsolatedWith : Sizes → hb_ot_shape_plan_t → hb_font_t → Buffer → Buffer → Type 0
IsIsolatedWith z plan face old new =
    (requests : List feature_range_t)
    → AskAlike (plan_requests plan face) requests (chains_in (tables_of face).morx) old.line
    → AreOneButCursor new
    (substituted z (switched plan.apply_morx requests (chains_in (tables_of face).morx)) old).buffer

-- the same with the usual sizes
abbrev pub IsIsolated : hb_ot_shape_plan_t → hb_font_t → Buffer → Buffer → Type 0
IsIsolated plan face old new = IsIsolatedWith (sizes_for face) plan face old new
