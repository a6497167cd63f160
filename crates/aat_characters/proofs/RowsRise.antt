-- The rows of exchanged characters rise.
use Rattle.std.proofs.Common.{◌≡◌, ℕ, refl, sym, ap}
use Rattle.aat_lookup.specs.Keys.{IsRising, first}
use Rattle.aat_lookup.specs.facts.Falls.{rising}
use Rattle.aat_characters.specs.Marks.{shaping_class}
use Rattle.aat_characters.specs.declared.mark.TheConstants.{SHAPING_CLASSES}
use Rattle.aat_characters.specs.declared.mirrored_rows.TheConstants.{MIRRORED}
use Rattle.aat_characters.specs.declared.vertical_rows.TheConstants.{VERTICAL}

-- each table is looked at once, by computing
pub mirrored_rise : IsRising first MIRRORED
mirrored_rise = rising first MIRRORED refl

pub vertical_rise : IsRising first VERTICAL
vertical_rise = rising first VERTICAL refl

pub classes_rise : IsRising first SHAPING_CLASSES
classes_rise = rising first SHAPING_CLASSES refl

-- a character that is not moved has no other class
pub unmoved_class : (class : ℕ) → class ≡ 0 → 0 ≡ shaping_class class
unfolding shaping_class
unmoved_class class e = ap shaping_class (sym e)
