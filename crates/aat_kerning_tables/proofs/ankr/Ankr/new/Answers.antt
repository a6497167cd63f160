use Rattle.std.proofs.Common.{sym, ◌∙◌}
use Rattle.aat_kerning_tables.specs.AnchorPoints.{glyph_of_row}
use Rattle.aat_lookup.specs.facts.Falls.{rising}
use Rattle.aat_kerning_tables.proofs.ankr.Ankr.new.Goals as goal

pub invariant_of-result : goal.invariant_of-result
invariant_of-result c =
    let none = sym c.first_fall.ensures ∙ c.in_default.is in
    rising glyph_of_row c.args.rows.items (rw c.deref.ensures.value at none)
