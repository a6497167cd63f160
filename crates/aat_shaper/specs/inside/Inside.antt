-- How the fields of a shaper show its value.
use Rattle.std.specs.Prelude.{◌≡◌, true}
use Rattle.std.specs.declared.alloc.Allocator.{Ghosts}
use Rattle.aat_shaper.specs.Shaper.{ShaperValue}
use Rattle.aat_shaper.specs.declared.shaper.Shaper.TheInside.{Inside}

-- the font, the values, the glyphs, and whether the budget was used up
abbrev pub shaper_of : {Z : Type 0} {g : Ghosts Z} → Inside Z g → ShaperValue
shaper_of a = record {
  font = a.font.now;
  values = record { rows = a.row_value; columns = a.column_value };
  glyphs = a.glyphs.items;
  is_budget_used_up = a.is_budget_used_up;
}

-- the plan applies what is asked for, under the kern mask 8
pub record HasPlan {Z : Type 0} {g : Ghosts Z} (a : Inside Z g) : Type 0 where
  pub applied : a.plan.apply_morx ≡ true
  pub mask : a.plan.kern_mask ≡ 8
