use Rattle.std.proofs.Common.{◌∙◌, ap}
use Rattle.std.specs.Prelude.{option_copied}
use Rattle.aat_kerning.specs.Positioning.{in_processing_order}
use Rattle.aat_drawn_text.specs.inside.Placed.{placed_by}
use Rattle.aat_drawn_text.proofs.TextLines.{placed_turned}
use Rattle.aat_drawn_text.proofs.text_line.turn.Goals as goal

pub returns-clause-after : goal.returns-clause-after
returns-clause-after g c =
    let font = option_copied c.buffer.inside.placed_by in
    ap (placed_by font) c.turn.ensures.after
    ∙ (placed_turned font c.buffer.inside.buffer ∙ ap in_processing_order c.buffer.view_is)
