-- Substitution by a plan, beside that by other requests.
use Rattle.std.proofs.Common.{◌≡◌, ◌∙◌, ap, refl, ℕ, Bool, true, false, ◌<◌}
use Rattle.aat_buffer.specs.Buffer.{Buffer, with_cursor}
use Rattle.aat_font.specs.Face.{tables_of, chains_in}
use Rattle.aat_font.specs.declared.face.hb_font_t.{hb_font_t}
use Rattle.aat_font.specs.declared.plan.hb_ot_shape_plan_t.{hb_ot_shape_plan_t}
use Rattle.aat_kinds.specs.Kinds.{Sizes}
use Rattle.aat_layout.specs.Planned.{substitution_with, IsIsolatedWith}
use Rattle.aat_map.specs.SwitchedChains.{switched, plan_requests}
use Rattle.aat_morx.proofs.Isolated.{requests_are_isolated}
use Rattle.aat_morx.specs.Substitution.{substituted}
use Rattle.aat_run.specs.Outcome.{Outcome}

pub isolated_by_run : (z : Sizes) → 0 < z.slots → (plan : hb_ot_shape_plan_t) (face : hb_font_t) (b d : Buffer) (turns : ℕ) → record { buffer = d; turns = turns } ≡ substitution_with z plan face b → IsIsolatedWith z plan face b d
isolated_by_run z some plan face b d turns ran requests alike =
    ap (λ (o : Outcome). with_cursor o.buffer 0) ran ∙ by_flags plan.apply_morx
  where
    by_flags : (applies : Bool) → with_cursor (substituted z (switched applies (plan_requests plan face) (chains_in (tables_of face).morx)) b).buffer 0
        ≡ with_cursor (substituted z (switched applies requests (chains_in (tables_of face).morx)) b).buffer 0
    by_flags true = requests_are_isolated z (plan_requests plan face) requests (chains_in (tables_of face).morx) b some alike
    by_flags false = refl
