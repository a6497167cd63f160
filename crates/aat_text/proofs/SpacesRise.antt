-- The rows of spaces rise.
use Rattle.std.proofs.Common.{refl}
use Rattle.aat_lookup.specs.Keys.{IsRising, first}
use Rattle.aat_lookup.specs.facts.Falls.{rising}
use Rattle.aat_text.specs.declared.kinds.TheConstants.{SPACE_WIDTHS}

pub spaces_rise : IsRising first SPACE_WIDTHS
spaces_rise = rising first SPACE_WIDTHS refl
