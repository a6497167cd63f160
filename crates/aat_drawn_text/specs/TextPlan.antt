-- The plan of a text.
use Rattle.std.specs.Prelude.{◌≡◌, List, true}
use Rattle.aat_font.specs.declared.plan.Feature.{Feature}
use Rattle.aat_font.specs.declared.plan.hb_ot_shape_plan_t.{hb_ot_shape_plan_t}
use Rattle.aat_shaped_text.specs.TextFeatures.{requests_kerning}

-- a plan applies these features, and requests kerning as they do, under the kern mask 8
pub record IsPlanOf (asked : List Feature) (plan : hb_ot_shape_plan_t) : Type 0 where
  pub features : plan.user_features.items ≡ asked
  pub applied : plan.apply_morx ≡ true
  pub requested : plan.requested_kerning ≡ requests_kerning asked
  pub mask : plan.kern_mask ≡ 8
